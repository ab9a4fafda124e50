-- Literals that show a path, read and added to.
use Rattle.std.proofs.Common.{◌≡◌, ◌≢◌, ◌∙◌, ◌<◌, ◌/◌, ◌%◌, ◌+◌, ◌-◌, ◌*◌, ◌++◌, ◌∷◌, [], ℕ, zero, suc, Bool, List, length, get_or, take, refl, ap, ap₂, sym, subst, arith, ⊎_elim, length-append, add-one}
use Rattle.std.proofs.Math.Nat.{suc-mul}
use Rattle.std.proofs.lemmas.Bool.{cases_eq}
use Rattle.std.proofs.lemmas.Nat.{div-mul-add, mod-mul-add}
use Rattle.std.proofs.lemmas.List.{get_or-take, get_or_append_left, get_or_push, length-take}
use Rattle.circ_model.specs.Meaning.{Pair, Path, bit, literal_value, places_of, row_at}
use Rattle.and_graph.specs.declared.node.Node.{Node}
use Rattle.and_graph.specs.Graphs.{GrowsTo}
use Rattle.frame_graph.specs.Frames.{FrameOf, Stands}
use Rattle.frame_graph.specs.Maps.{AreWithin, Shows}

-- what holds of each literal still does after one that holds is added
each_added : (P : ℕ → ℕ → Type 0) (xs : List ℕ) (x : ℕ) → ((n : ℕ) → n < length xs → P n (get_or xs n 0)) → P (length xs) x → (n : ℕ) → n < length (xs ++ x ∷ []) → P n (get_or (xs ++ x ∷ []) n 0)
each_added P xs x each here n lt =
    let size = length-append xs (x ∷ []) in
    ⊎_elim
    (λ (e : n ≡ length xs). subst (P n) (sym (get_or_push xs x 0 n (sym e))) (subst (λ (m : ℕ). P m x) (sym e) here))
    (λ (ne : n ≢ length xs). let less : n < length xs = omega arith in subst (P n) (sym (get_or_append_left xs (x ∷ []) 0 n less)) (each n less))
    (cases_eq n (length xs))

pub within_added : (nodes : List Node) (literals : List ℕ) (lit : ℕ) → AreWithin nodes literals → lit / 2 < length nodes → AreWithin nodes (literals ++ lit ∷ [])
within_added nodes literals lit is here = record { at = each_added (λ n x. x / 2 < length nodes) literals lit is.at here }

pub within_grown : (nodes more : List Node) (literals : List ℕ) → GrowsTo nodes more → AreWithin nodes literals → AreWithin more literals
within_grown nodes more literals on is = let s = on.size in record { at = λ n lt. let h = is.at n lt in omega arith }

-- a place of a frame has one index
pub same_place : (w t p s q : ℕ) → p < w → q < w → t * w + p ≡ s * w + q → (t ≡ s) × (p ≡ q)
same_place w t p s q lt less e = (
  sym (div-mul-add t w p lt) ∙ ap (λ (n : ℕ). n / w) e ∙ div-mul-add s w q less,
  sym (mod-mul-add t w p lt) ∙ ap (λ (n : ℕ). n % w) e ∙ mod-mul-add s w q less,
)

pub shows_added : (pair : Pair) (literals : List ℕ) (path : Path) (v : ℕ → Bool) (t p lit : ℕ) → p < places_of pair → length literals ≡ t * places_of pair + p
    → Shows pair literals path v → literal_value v lit ≡ bit (row_at pair path t) p → Shows pair (literals ++ lit ∷ []) path v
shows_added pair literals path v t p lit lt size is here = record {
  bits = λ s q less within. each_added (λ n x. n ≡ s * places_of pair + q → literal_value v x ≡ bit (row_at pair path s) q) literals lit
      (λ n short e. subst (λ (m : ℕ). literal_value v (get_or literals m 0) ≡ bit (row_at pair path s) q) (sym e) (is.bits s q less (omega arith)))
      (λ e. let same = same_place (places_of pair) t p s q lt less (sym size ∙ e) in here ∙ ap₂ (λ (u r : ℕ). bit (row_at pair path u) r) same.0 same.1)
      (s * places_of pair + q) within (let r : s * places_of pair + q ≡ s * places_of pair + q = cc in r);
}

-- one more place of the frame
pub stands_added : (f : FrameOf) (literals : List ℕ) (path : Path) (v : ℕ → Bool) (p lit : ℕ) → p < places_of f.leaves.pair → length literals ≡ f.number * places_of f.leaves.pair + p
    → Stands f literals path v → literal_value v lit ≡ bit (row_at f.leaves.pair path f.number) p → Stands f (literals ++ lit ∷ []) path v
stands_added f literals path v p lit lt size is here = record {
  is_path = is.is_path;
  frame = is.frame;
  reset = is.reset;
  low = is.low;
  reads = is.reads;
  shows = shows_added f.leaves.pair literals path v f.number p lit lt size is.shows here;
}

-- a place's literal, read by its index
pub shown_at : (pair : Pair) (literals : List ℕ) (path : Path) (v : ℕ → Bool) (t p n : ℕ) → Shows pair literals path v → p < places_of pair → n ≡ t * places_of pair + p → n < length literals → literal_value v (get_or literals n 0) ≡ bit (row_at pair path t) p
shown_at pair literals path v t p n is lt e within = subst (λ (m : ℕ). literal_value v (get_or literals m 0) ≡ bit (row_at pair path t) p) (sym e) (is.bits t p lt (omega arith))

-- the frame before a later one
pub frame_before : (t n : ℕ) → t ≢ 0 → (t - 1) * n + n ≡ t * n
frame_before zero n ne = absurd (ne refl)
frame_before (suc t) n ne = let e : suc t - 1 ≡ t = omega arith in ap (λ (s : ℕ). s * n + n) e ∙ sym (suc-mul t n)

pub frame_after : (t n : ℕ) → (t + 1) * n ≡ t * n + n
frame_after t n = rw add-one (suc-mul t n)

-- the first literals alone
pub stands_before : (f : FrameOf) (literals : List ℕ) (path : Path) (v : ℕ → Bool) (n : ℕ) → Stands f literals path v → Stands f (take n literals) path v
stands_before f literals path v n is = record {
  is_path = is.is_path;
  frame = is.frame;
  reset = is.reset;
  low = is.low;
  reads = is.reads;
  shows = record {
    bits = λ t p lt within.
        let size = length-take n literals in
        ap (literal_value v) (get_or-take n literals (t * places_of f.leaves.pair + p) 0 (omega arith)) ∙ is.shows.bits t p lt (omega arith);
  };
}

pub within_before : (nodes : List Node) (literals : List ℕ) (n : ℕ) → AreWithin nodes literals → AreWithin nodes (take n literals)
within_before nodes literals n is = record {
  at = λ k lt.
      let size = length-take n literals in
      subst (λ (x : ℕ). x / 2 < length nodes) (sym (get_or-take n literals k 0 (omega arith))) (is.at k (omega arith));
}
