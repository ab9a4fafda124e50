-- Products that are more, and pairs that were found before.
use Rattle.std.proofs.Common.{◌≡◌, ◌∙◌, ◌+◌, ℕ, Bool, true, false, List, [], ◌∷◌, ◌++◌, length, slice_index_or, Option, sym, ap, subst, arith, inl, inr, if◌then◌else◌, length-append, append-nil}
use Rattle.std.proofs.lemmas.Bool.{cases_lt}
use Rattle.std.proofs.lemmas.List.{get_or_append_left}
use Rattle.std.proofs.Math.Seq.{get_or-append_seam}
use Rattle.circ_model.specs.Meaning.{Pair}
use Rattle.pair_files.specs.Pairs.{ArePair}
use Rattle.batch_run.specs.declared.loading.Loaded.{Loaded}
use Rattle.batch_run.specs.declared.loading.Loaded.TheVariants as loaded
use Rattle.batch_run.specs.Loads.{AreLoaded, AreWithinProducts, Extends, IsLoaded, IsWithinProducts}

-- a product at the end, where there was memory for it
pub extends_push : (b : Bool) (xs ys : List Pair) (x : Pair) → ys ≡ (if b then xs ++ x ∷ [] else xs) → Extends xs ys
extends_push true xs ys x e = (x ∷ [], e)
extends_push false xs ys x e = ([], e ∙ sym (append-nil xs))

within_more : (xs ys : List Pair) (one : Loaded) → Extends xs ys → IsWithinProducts xs one → IsWithinProducts ys one
within_more xs ys (loaded.Product at) (more, e) lt = let len : length ys ≡ length xs + length more = ap (λ (l : List Pair). length l) e ∙ length-append xs more in omega (arith, lt, len)
within_more xs ys (loaded.Refused u) ext h = tt

loaded_more : (file : List ℕ → Option (List ℕ)) (xs ys : List Pair) (names : List ℕ × List ℕ) (one : Loaded) → Extends xs ys → IsLoaded file xs names one → IsLoaded file ys names one
loaded_more file xs ys names (loaded.Product at) (more, e) (lt, is) = (
  (let len : length ys ≡ length xs + length more = ap (λ (l : List Pair). length l) e ∙ length-append xs more in omega (arith, lt, len)),
  λ d.
      let same : slice_index_or ys at d ≡ slice_index_or xs at d = ap (λ (l : List Pair). slice_index_or l at d) e ∙ get_or_append_left xs more d at lt in
      subst (ArePair false (file names.0) (file names.1)) (sym same) (is d),
)
loaded_more file xs ys names (loaded.Refused u) ext h = h

-- one more pair of the list was found to be this
pub all_within : (xs ys : List Pair) (found : List Loaded) (one : Loaded) → Extends xs ys → AreWithinProducts xs found → IsWithinProducts ys one → AreWithinProducts ys (found ++ one ∷ [])
all_within xs ys found one ext are is = λ i d lt.
    let len = length-append found (one ∷ []) in
    elim (cases_lt i (length found)) [
      | inl less ↦ subst (IsWithinProducts ys) (sym (get_or_append_left found (one ∷ []) d i less)) (within_more xs ys (slice_index_or found i d) ext (are i d less))
      | inr ge ↦
          let end : length found ≡ i = omega (arith, lt, len, ge) in
          subst (λ (j : ℕ). IsWithinProducts ys (slice_index_or (found ++ one ∷ []) j d)) end (subst (IsWithinProducts ys) (sym (get_or-append_seam found one [] d)) is)
    ]

pub all_loaded : (file : List ℕ → Option (List ℕ)) (xs ys : List Pair) (list : List (List ℕ × List ℕ)) (found : List Loaded) (one : Loaded) → Extends xs ys → AreLoaded file xs list found
    → ((d : List ℕ × List ℕ) → IsLoaded file ys (slice_index_or list (length found) d) one) → AreLoaded file ys list (found ++ one ∷ [])
all_loaded file xs ys list found one ext are is = λ i d e lt.
    let len = length-append found (one ∷ []) in
    elim (cases_lt i (length found)) [
      | inl less ↦ subst (IsLoaded file ys (slice_index_or list i d)) (sym (get_or_append_left found (one ∷ []) e i less)) (loaded_more file xs ys (slice_index_or list i d) (slice_index_or found i e) ext (are i d e less))
      | inr ge ↦
          let end : length found ≡ i = omega (arith, lt, len, ge) in
          subst (λ (j : ℕ). IsLoaded file ys (slice_index_or list j d) (slice_index_or (found ++ one ∷ []) j e)) end
          (subst (IsLoaded file ys (slice_index_or list (length found) d)) (sym (get_or-append_seam found one [] e)) (is d))
    ]
