-- Pieces of a text that a sink takes one after another.
use Rattle.std.specs.Prelude.{◌≡◌, ℕ, ◌+◌, ◌-◌, ◌<◌, ◌≤◌, List, [], ◌++◌, length, take, drop, Option, None, Some}
use Rattle.std.proofs.Common.{refl, ap, ◌∙◌, sym, arith, append_assoc, append-nil, length-append, length-drop}
use Rattle.std.proofs.Math.Seq.{take-add, take-append-add}
use Rattle.std.proofs.lemmas.List.{take_all, drop-drop, take-append-le}
use Rattle.sec_base.specs.Faults.{appended, IsCutShort}

pub appended_none : {T : Type 0} (told : Option (List T)) → appended told [] ≡ told
appended_none None = refl
appended_none (Some xs) = ap Some (append-nil xs)

-- one piece after another is both in one
pub appended_twice : {T : Type 0} (told : Option (List T)) (xs ys : List T) → appended (appended told xs) ys ≡ appended told (xs ++ ys)
appended_twice None xs ys = refl
appended_twice (Some zs) xs ys = ap Some (append_assoc zs xs ys)

-- what is left of the bytes, after what was taken of them
pub record Remains (before : Option (List ℕ)) (bytes rest : List ℕ) (after : Option (List ℕ)) : Type 0 where
  pub count : ℕ
  pub within : count ≤ length bytes
  pub left : rest ≡ drop count bytes
  pub taken : after ≡ appended before (take count bytes)

pub remains_first : (before : Option (List ℕ)) (bytes : List ℕ) → Remains before bytes bytes before
remains_first before bytes = record { count = 0; within = omega arith; left = refl; taken = sym (appended_none before) }

pub remains_more : (before : Option (List ℕ)) (bytes rest : List ℕ) (after now : Option (List ℕ)) (n : ℕ) → Remains before bytes rest after → n ≤ length rest
    → now ≡ appended after (take n rest) → Remains before bytes (take (length rest - n) (drop n rest)) now
remains_more before bytes rest after now n r fits takes =
    let whole : take (length rest - n) (drop n rest) ≡ drop n rest = take_all _ _ (omega (arith, length-drop n rest)) in
    record {
      count = r.count + n;
      within = omega (arith, ap length r.left, length-drop r.count bytes, r.within);
      left = whole ∙ ap (drop n) r.left ∙ drop-drop n r.count bytes;
      taken = takes ∙ ap (λ t. appended t (take n rest)) r.taken ∙ appended_twice before (take r.count bytes) (take n rest)
          ∙ ap (λ xs. appended before (take r.count bytes ++ take n xs)) r.left ∙ ap (appended before) (sym (take-add r.count n bytes));
    }

pub remains_none : (before : Option (List ℕ)) (bytes rest : List ℕ) (after : Option (List ℕ)) → Remains before bytes rest after → length rest ≡ 0 → after ≡ appended before bytes
remains_none before bytes rest after r none = r.taken ∙ ap (appended before) (take_all r.count bytes (omega (arith, ap length r.left, length-drop r.count bytes)))

pub remains_cut : (before : Option (List ℕ)) (bytes rest : List ℕ) (after : Option (List ℕ)) → Remains before bytes rest after → 0 < length rest → IsCutShort before bytes after
remains_cut before bytes rest after r some = (r.count, omega (arith, ap length r.left, length-drop r.count bytes), r.taken)

-- cut short in the first of two pieces
pub cut_first : (before : Option (List ℕ)) (xs ys : List ℕ) (after : Option (List ℕ)) → IsCutShort before xs after → IsCutShort before (xs ++ ys) after
cut_first before xs ys after (count, less, taken) =
    (count, omega (arith, length-append xs ys), taken ∙ ap (appended before) (sym (take-append-le count xs ys (omega arith))))

-- cut short in the second
pub cut_second : (before between : Option (List ℕ)) (xs ys : List ℕ) (after : Option (List ℕ)) → between ≡ appended before xs → IsCutShort between ys after → IsCutShort before (xs ++ ys) after
cut_second before between xs ys after all (count, less, taken) = (
  length xs + count,
  omega (arith, length-append xs ys),
  taken ∙ ap (λ t. appended t (take count ys)) all ∙ appended_twice before xs (take count ys) ∙ ap (appended before) (sym (take-append-add xs ys count)),
)
