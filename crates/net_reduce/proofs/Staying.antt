-- Which latches stay when all free ones do, and as which they start.
use Rattle.std.proofs.Common.{◌≡◌, ◌∙◌, ◌<◌, ◌+◌, ℕ, zero, suc, List, [], ◌∷◌, length, map, take, get_or, refl, ap, sym, arith, Bool, true, false, if◌then◌else◌, true≢false, zero-add}
use Rattle.std.specs.Prelude.{count_by, filter, All, cond}
use Rattle.std.proofs.lemmas.List.Sums.{sum_by-cons}
use Rattle.std.proofs.lemmas.List.Elements.{All-head, All-tail}
use Rattle.circ_model.specs.declared.netlist.Latch.{Latch}
use Rattle.circ_model.specs.declared.netlist.Reset.{Reset}
use Rattle.circ_model.specs.declared.netlist.Reset.TheVariants.{Zero, One, Free}
use Rattle.circ_model.specs.Meaning.{is_free}
use Rattle.product_machine.specs.Cells.{no_latch}
use Rattle.net_reduce.specs.Reduced.{latch_with}

abbrev pub resets_of : List Latch → List Reset
resets_of ls = map (λ (l : Latch). l.reset) ls

-- the free ones of some latches stay
abbrev pub FreeStay : (ℕ → Bool) → List Latch → Type 0
FreeStay stay ls = All (λ (l : Latch). l.reset ≡ Free → stay l.var ≡ true) ls

-- those that stay, with other literals
abbrev pub staying : (ℕ → Bool) → (ℕ → ℕ) → List Latch → List Latch
staying stay literals ls = map (latch_with literals) (filter (λ (l : Latch). stay l.var) ls)

-- latch k of those that stay, and as many free ones before it
pub record ComesFrom (literals : ℕ → ℕ) (ls kept : List Latch) (k : ℕ) : Type 0 where
  pub at : ℕ
  pub within : at < length ls
  pub is : get_or kept k no_latch ≡ latch_with literals (get_or ls at no_latch)
  pub before : count_by is_free (take k (resets_of kept)) ≡ count_by is_free (take at (resets_of ls))

count_first : (r : Reset) (rs : List Reset) → count_by is_free (r ∷ rs) ≡ (if is_free r then 1 else 0) + count_by is_free rs
count_first r rs = sum_by-cons (λ (x : Reset). if is_free x then 1 else 0) r rs

count_past : (r : Reset) (rs : List Reset) → is_free r ≡ false → count_by is_free (r ∷ rs) ≡ count_by is_free rs
count_past r rs e = count_first r rs ∙ ap (λ (b : Bool). (if b then 1 else 0) + count_by is_free rs) e ∙ zero-add (count_by is_free rs)

-- what doesn't stay isn't free
not_free : (stay : ℕ → Bool) (l : Latch) → (l.reset ≡ Free → stay l.var ≡ true) → stay l.var ≡ false → is_free l.reset ≡ false
not_free stay l free gone = at l.reset refl
  where
    at : (r : Reset) → l.reset ≡ r → is_free r ≡ false
    at Zero e = refl
    at One e = refl
    at Free e = absurd (true≢false (sym (free e) ∙ gone))

abbrev Comes : (ℕ → Bool) → (ℕ → ℕ) → List Latch → Type 0
Comes stay literals ls = (k : ℕ) → k < length (staying stay literals ls) → ComesFrom literals ls (staying stay literals ls) k

pub comes_from : (stay : ℕ → Bool) (literals : ℕ → ℕ) (ls : List Latch) → FreeStay stay ls → Comes stay literals ls
comes_from stay literals [] free = λ k lt. absurd (omega arith)
comes_from stay literals (l ∷ ls) free = by (stay l.var) refl (comes_from stay literals ls (All-tail (λ (x : Latch). x.reset ≡ Free → stay x.var ≡ true) l ls free))
  where
    rest : List Latch
    rest = staying stay literals ls

    these : Bool → List Latch
    these b = map (latch_with literals) (cond b (l ∷ filter (λ (x : Latch). stay x.var) ls) (filter (λ (x : Latch). stay x.var) ls))

    by : (b : Bool) → stay l.var ≡ b → Comes stay literals ls → (j : ℕ) → j < length (these b) → ComesFrom literals (l ∷ ls) (these b) j
    by true e come zero less = record { at = 0; within = omega arith; is = refl; before = refl }
    by true e come (suc j) less =
        let h = come j (omega arith) in
        record {
          at = suc h.at;
          within = omega (arith, h.within);
          is = h.is;
          before = count_first l.reset (take j (resets_of rest)) ∙ ap (λ (n : ℕ). (if is_free l.reset then 1 else 0) + n) h.before ∙ sym (count_first l.reset (take h.at (resets_of ls)));
        }
    by false e come j less =
        let h = come j less in
        let none = not_free stay l (All-head (λ (x : Latch). x.reset ≡ Free → stay x.var ≡ true) l ls free) e in
        record {
          at = suc h.at;
          within = omega (arith, h.within);
          is = h.is;
          before = h.before ∙ sym (count_past l.reset (take h.at (resets_of ls)) none);
        }

-- as many free ones stay as there are
abbrev SameFree : (ℕ → Bool) → (ℕ → ℕ) → List Latch → Type 0
SameFree stay literals ls = count_by is_free (resets_of (staying stay literals ls)) ≡ count_by is_free (resets_of ls)

pub same_free : (stay : ℕ → Bool) (literals : ℕ → ℕ) (ls : List Latch) → FreeStay stay ls → SameFree stay literals ls
same_free stay literals [] free = refl
same_free stay literals (l ∷ ls) free = by (stay l.var) refl (same_free stay literals ls (All-tail (λ (x : Latch). x.reset ≡ Free → stay x.var ≡ true) l ls free))
  where
    by : (b : Bool) → stay l.var ≡ b → SameFree stay literals ls
        → count_by is_free (resets_of (map (latch_with literals) (cond b (l ∷ filter (λ (x : Latch). stay x.var) ls) (filter (λ (x : Latch). stay x.var) ls)))) ≡ count_by is_free (resets_of (l ∷ ls))
    by true e rest = count_first l.reset (resets_of (staying stay literals ls)) ∙ ap (λ (n : ℕ). (if is_free l.reset then 1 else 0) + n) rest ∙ sym (count_first l.reset (resets_of ls))
    by false e rest =
        let none = not_free stay l (All-head (λ (x : Latch). x.reset ≡ Free → stay x.var ≡ true) l ls free) e in
        rest ∙ sym (count_past l.reset (resets_of ls) none)
