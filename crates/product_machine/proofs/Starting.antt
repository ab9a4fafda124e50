-- The free latches so far, as the arrays of a pair are made.
use Rattle.std.proofs.Common.{◌≡◌, ◌∙◌, ◌<◌, ◌+◌, ◌++◌, ◌∷◌, [], ℕ, List, Bool, true, false, if◌then◌else◌, length, map, take, get_or, refl, ap, ap₂, sym, arith}
use Rattle.std.proofs.lemmas.List.{get_or-map, map-append, take_all}
use Rattle.circ_model.specs.declared.netlist.Latch.{Latch}
use Rattle.circ_model.specs.declared.netlist.Reset.{Reset}
use Rattle.circ_model.specs.declared.netlist.Reset.TheVariants.{Free}
use Rattle.circ_model.specs.Netlist.{Netlist}
use Rattle.circ_model.specs.Meaning.{is_free, free_from, own_resets}
use Rattle.circ_model.proofs.FreeLatches.{length_own_resets, free_more}

-- the reset of a latch that was read
pub reset_read : (net : Netlist) (items : List Latch) (k : ℕ) (d : Latch) → items ≡ net.latches → k < length items → (get_or items k d).reset ≡ get_or (own_resets net) k Free
reset_read net items k d e lt =
    ap (λ (ls : List Latch). (get_or ls k d).reset) e ∙ sym (get_or-map (λ (x : Latch). x.reset) net.latches k d Free (let n = ap length e in omega arith))

-- all resets
pub all_resets : (net : Netlist) (k : ℕ) → length net.latches ≡ k → take k (own_resets net) ≡ own_resets net
all_resets net k e = take_all k (own_resets net) (omega (arith, length_own_resets net))

-- one more place
pub place_more : (from k : ℕ) (rs : List Reset) (places more : List ℕ) (r : Reset) → k < length rs → r ≡ get_or rs k Free → places ≡ map (λ (i : ℕ). from + i) (free_from 0 (take k rs))
    → more ≡ places ++ (if is_free r then (from + k) ∷ [] else []) → more ≡ map (λ (i : ℕ). from + i) (free_from 0 (take (k + 1) rs))
place_more from k rs places more r lt is done e =
    e ∙ ap₂ (λ (ps qs : List ℕ). ps ++ qs) done (one (is_free r))
    ∙ sym (map-append (λ (i : ℕ). from + i) (free_from 0 (take k rs)) (if is_free r then (0 + k) ∷ [] else []))
    ∙ ap (λ (x : Reset). map (λ (i : ℕ). from + i) (free_from 0 (take k rs) ++ (if is_free x then (0 + k) ∷ [] else []))) is
    ∙ ap (map (λ (i : ℕ). from + i)) (sym (free_more 0 rs k lt))
  where
    one : (b : Bool) → (if b then (from + k) ∷ [] else []) ≡ map (λ (i : ℕ). from + i) (if b then (0 + k) ∷ [] else [])
    one true = ap (λ (n : ℕ). n ∷ []) (omega arith)
    one false = refl
