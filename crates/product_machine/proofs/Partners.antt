-- The ties of a pair, as its cells have them.
use Rattle.std.proofs.Common.{◌≡◌, ◌∙◌, ◌<◌, ◌≤◌, ◌+◌, ◌-◌, ℕ, Bool, true, false, Option, Some, None, length, take, get_or, refl, ap, sym, arith}
use Rattle.std.specs.Prelude.{List, count_by, slice_get}
use Rattle.std.proofs.Math.Bool.{beq}
use Rattle.std.proofs.lemmas.List.{get_or_default}
use Rattle.circ_model.proofs.Rows.{length_own, length_places}
use Rattle.product_machine.proofs.Follow.{length_cells}
use Rattle.circ_model.specs.declared.netlist.Reset.{Reset}
use Rattle.circ_model.specs.declared.netlist.Reset.TheVariants.{Zero, One, Free}
use Rattle.product_machine.specs.declared.cell.Cell.{Cell}
use Rattle.product_machine.specs.declared.cell.Cell.TheVariants.{Low}
use Rattle.circ_model.specs.Meaning.{bit, is_free, Pair, Path, IsSoundPair, IsPath, IsRun, latches_of, resets, own_resets, free_latches, left_from, right_from}
use Rattle.circ_model.proofs.FreeLatches.{free_latch, listed_latch}
use Rattle.circ_model.proofs.Paths.{right_reset_at}
use Rattle.product_machine.specs.Cells.{cells, partners, start_by, like, like_in}
use Rattle.product_machine.specs.States.{ArePartners, IsTiedLatch, StartsLike, MayStart}
use Rattle.product_machine.proofs.Ties.{partner_is, partner_of}
use Rattle.product_machine.proofs.Reading.{right_cell}

-- the right latch k has the number j
abbrev number : Pair → ℕ → ℕ
number pair k = count_by is_free (take k (own_resets pair.right))

like_by : (reset : Reset) (partner : Option ℕ) (q : ℕ) → like (start_by reset partner) ≡ Some q → (reset ≡ Free) × (partner ≡ Some q)
like_by Zero partner q e = absurd (let f : ⊥ = cc in f)
like_by One partner q e = absurd (let f : ⊥ = cc in f)
like_by Free None q e = absurd (let f : ⊥ = cc in f)
like_by Free (Some p) q e = (refl, e)

-- the partner that the cell of a latch has
pub record IsTie (pair : Pair) (i place : ℕ) : Type 0 where
  pub from : left_from pair ≤ place
  pub are : ArePartners pair i (place - left_from pair)

pub tie_some : (pair : Pair) (i p place : ℕ) → IsSoundPair pair → length pair.left.latches ≤ i → i < latches_of pair → p ≡ right_from pair + (i - length pair.left.latches) → like_in (get_or (cells pair) p Low) ≡ Some place → IsTie pair i place
tie_some pair i p place is right lt at e =
    let k : ℕ = i - length pair.left.latches in
    let less : k < length pair.right.latches = omega arith in
    let (free, said) = like_by (get_or (own_resets pair.right) k Free) (slice_get (partners pair) (number pair k)) place (sym (ap like_in (ap (λ (n : ℕ). get_or (cells pair) n Low) at ∙ right_cell pair k is less)) ∙ e) in
    let partner = partner_is pair (number pair k) place said in
    let latch = free_latch pair.right k less free in
    record {
      from = omega (arith, partner.is);
      are = record { tied = partner.tied; j = number pair k; left_listed = partner.listed; right_listed = latch.listed; left = omega (arith, partner.is); right = omega (arith, latch.is) };
    }

pub tie_none : (pair : Pair) (i p : ℕ) → IsSoundPair pair → p ≡ right_from pair + (i - length pair.left.latches) → like_in (get_or (cells pair) p Low) ≡ None → IsTiedLatch pair i → ⊥
tie_none pair i p is at e h =
    let k : ℕ = i - length pair.left.latches in
    let within = h.within in
    let right = h.right in
    let less : k < length pair.right.latches = omega arith in
    let same : length pair.left.latches + k ≡ i = omega arith in
    let free : get_or (own_resets pair.right) k Free ≡ Free = sym (right_reset_at pair k) ∙ ap (λ (n : ℕ). get_or (resets pair) n Free) same ∙ h.free in
    let latch = free_latch pair.right k less free in
    let partner = partner_of pair (number pair k) h.tied (omega (arith, latch.listed, is.ties h.tied)) in
    let none = sym (ap (λ (r : Reset). like (start_by r (slice_get (partners pair) (number pair k)))) free ∙ ap (λ (o : Option ℕ). like (start_by Free o)) partner) ∙ sym (ap like_in (ap (λ (n : ℕ). get_or (cells pair) n Low) at ∙ right_cell pair k is less)) ∙ e in
    let bad : ⊥ = cc in bad

-- who has a partner is tied, the partner is a latch of the left, and there is one
pub partner_tied : (pair : Pair) (i q : ℕ) → ArePartners pair i q → IsTiedLatch pair i
partner_tied pair i q h =
    let (k, latch) = listed_latch pair.right h.j h.right_listed in
    let same : i ≡ length pair.left.latches + k = omega (arith, h.right, latch.is) in
    record { tied = h.tied; right = omega arith; within = omega (arith, latch.within); free = ap (λ (n : ℕ). get_or (resets pair) n Free) same ∙ right_reset_at pair k ∙ latch.free }

pub partner_within : (pair : Pair) (i q : ℕ) → ArePartners pair i q → q < length pair.left.latches
partner_within pair i q h = let (m, latch) = listed_latch pair.left h.j h.left_listed in omega (arith, h.left, latch.is, latch.within)

pub one_partner : (pair : Pair) (i p q : ℕ) → ArePartners pair i p → ArePartners pair i q → p ≡ q
one_partner pair i p q a b =
    let (k, x) = listed_latch pair.right a.j a.right_listed in
    let (m, y) = listed_latch pair.right b.j b.right_listed in
    let same : k ≡ m = omega (arith, a.right, b.right, x.is, y.is) in
    let number_same : a.j ≡ b.j = sym x.before ∙ ap (number pair) same ∙ y.before in
    a.left ∙ ap (λ (j : ℕ). get_or (free_latches pair.left) j 0) number_same ∙ sym b.left

-- a run, latch by latch
pub run_starts : (pair : Pair) (path : Path) (i : ℕ) → IsRun pair path → i < latches_of pair → MayStart pair path i
run_starts pair path i run lt = (
  run.reset i (let n = run.is_path.start in omega arith),
  λ q h. ap (bit path.start) h.right ∙ sym (run.ties h.tied h.j h.left_listed h.right_listed) ∙ ap (bit path.start) (sym h.left),
)

pub starts_run : (pair : Pair) (path : Path) → IsPath pair path → ((i : ℕ) → i < latches_of pair → MayStart pair path i) → IsRun pair path
starts_run pair path on each = record {
  is_path = on;
  reset = λ i lt. (each i (let n = on.start in omega arith)).0;
  ties = λ tied j left right.
      let q : ℕ = get_or (free_latches pair.left) j 0 in
      let i : ℕ = length pair.left.latches + get_or (free_latches pair.right) j 0 in
      let are : ArePartners pair i q = record { tied = tied; j = j; left_listed = left; right_listed = right; left = refl; right = refl } in
      sym ((each i (partner_tied pair i q are).within).1 q are);
}

-- what the partner of a latch says of how it starts
pub starts_like_partner : (pair : Pair) (path : Path) (i p : ℕ) → ArePartners pair i p → bit path.start i ≡ bit path.start p → StartsLike pair path i
starts_like_partner pair path i p are e q other = e ∙ ap (bit path.start) (one_partner pair i p q are other)

-- the cell that was read
pub like_read : (pair : Pair) (items : List Cell) (p : ℕ) (d : Cell) → items ≡ cells pair → p < length items → like_in (get_or (cells pair) p Low) ≡ like_in (get_or items p d)
like_read pair items p d e lt = ap like_in (get_or_default (cells pair) p Low d (let n = ap length e in omega arith) ∙ ap (λ (cs : List Cell). get_or cs p d) (sym e))

-- the cell of a latch of the right netlist is in the table
pub place_within : (pair : Pair) (items : List Cell) (i p : ℕ) → IsSoundPair pair → items ≡ cells pair → length pair.left.latches ≤ i → i < latches_of pair → p ≡ right_from pair + (i - length pair.left.latches) → p < length items
place_within pair items i p is e right lt at = omega (arith, ap length e, length_cells pair, length_places pair, length_own pair.left, is.inputs, at)

-- bits that are compared
pub bits_same : (a b : Bool) → beq a b ≡ true → a ≡ b
bits_same true true h = refl
bits_same true false h = absurd (let f : ⊥ = cc in f)
bits_same false true h = absurd (let f : ⊥ = cc in f)
bits_same false false h = refl

pub bits_equal : (a b : Bool) → a ≡ b → beq a b ≡ true
bits_equal true true e = refl
bits_equal true false e = absurd (let f : ⊥ = cc in f)
bits_equal false true e = absurd (let f : ⊥ = cc in f)
bits_equal false false e = refl
