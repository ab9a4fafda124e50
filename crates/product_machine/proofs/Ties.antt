-- The partners of the right netlist's free latches.
use Rattle.std.proofs.Common.{◌≡◌, ◌∙◌, ◌<◌, ◌+◌, ℕ, List, [], refl, Bool, true, false, Some, if◌then◌else◌, length, map, get_or, ap, sym, arith}
use Rattle.std.specs.Prelude.{IsTrue, slice_get}
use Rattle.std.proofs.lemmas.List.{length-map, get_or-map}
use Rattle.std.proofs.lemmas.Option.{slice_get_within, get_or_from_slice_get, slice_get-get_or}
use Rattle.circ_model.specs.Meaning.{Pair, free_latches, left_from}
use Rattle.product_machine.specs.Cells.{partners}

-- partner j is the j-th free latch of the left, in a tied pair
pub record IsPartner (pair : Pair) (j q : ℕ) : Type 0 where
  pub tied : IsTrue pair.tied
  pub listed : j < length (free_latches pair.left)
  pub is : q ≡ left_from pair + get_or (free_latches pair.left) j 0

pub partner_is : (pair : Pair) (j q : ℕ) → slice_get (partners pair) j ≡ Some q → IsPartner pair j q
unfolding partners
partner_is pair j q e = by_tie pair.tied refl e
  where
    f : ℕ → ℕ
    f k = left_from pair + k

    by_tie : (tied : Bool) → pair.tied ≡ tied → slice_get (if tied then map f (free_latches pair.left) else []) j ≡ Some q → IsPartner pair j q
    by_tie true tied h =
        let lt : j < length (free_latches pair.left) = omega (arith, slice_get_within (map f (free_latches pair.left)) j q h, length-map (free_latches pair.left) f) in
        record { tied = tied; listed = lt; is = sym (sym (get_or-map f (free_latches pair.left) j 0 0 lt) ∙ get_or_from_slice_get (map f (free_latches pair.left)) j q 0 h) }
    by_tie false untied h = absurd (let bad : ⊥ = cc in bad)

pub partner_of : (pair : Pair) (j : ℕ) → IsTrue pair.tied → j < length (free_latches pair.left) → slice_get (partners pair) j ≡ Some (left_from pair + get_or (free_latches pair.left) j 0)
unfolding partners
partner_of pair j tied lt =
    ap (λ (on : Bool). slice_get (if on then map f (free_latches pair.left) else []) j) tied
    ∙ slice_get-get_or (map f (free_latches pair.left)) j 0 (omega (arith, length-map (free_latches pair.left) f))
    ∙ ap Some (get_or-map f (free_latches pair.left) j 0 0 lt)
  where
    f : ℕ → ℕ
    f k = left_from pair + k

-- the partners where the pair is tied, and where it isn't
pub tied_partners : (pair : Pair) (given : ℕ) (places : List ℕ) → pair.tied ≡ true → given ≡ length pair.left.inputs → places ≡ map (λ (k : ℕ). (1 + given) + k) (free_latches pair.left) → places ≡ partners pair
unfolding partners
tied_partners pair given places tied size e =
    e ∙ ap (λ (n : ℕ). map (λ (k : ℕ). (1 + n) + k) (free_latches pair.left)) size ∙ sym (ap (λ (on : Bool). if on then map (λ (k : ℕ). left_from pair + k) (free_latches pair.left) else []) tied)

pub untied_partners : (pair : Pair) (places : List ℕ) → pair.tied ≡ false → places ≡ [] → places ≡ partners pair
unfolding partners
untied_partners pair places untied e = e ∙ sym (ap (λ (on : Bool). if on then map (λ (k : ℕ). left_from pair + k) (free_latches pair.left) else []) untied)
