-- A text that is written in parts, cut short in one of them.
use Rattle.std.proofs.Common.{◌≡◌, ◌∙◌, ◌+◌, ℕ, List, ◌++◌, length, take, Option, Result, Ok, Err, OnOk, OnErr, inl, inr, ap, sym, arith, length-append}
use Rattle.std.proofs.Math.Seq.{take-append-add}
use Rattle.std.proofs.lemmas.List.{take-append-le}
use Rattle.sec_base.specs.Faults.{Rose, appended, IsCutShort}
use Rattle.run_texts.specs.Told.{IsTold}
use Rattle.sec_base.proofs.Pieces.{appended_twice}

-- in the first part
pub cut_first : (before : Option (List ℕ)) (xs ys : List ℕ) (after : Option (List ℕ)) → IsCutShort before xs after → IsCutShort before (xs ++ ys) after
cut_first before xs ys after (n, lt, e) = (n, omega (arith, lt, length-append xs ys), e ∙ ap (appended before) (sym (take-append-le n xs ys (omega (arith, lt)))))

-- in what follows it
pub cut_then : (before : Option (List ℕ)) (xs ys : List ℕ) (middle after : Option (List ℕ)) → middle ≡ appended before xs → IsCutShort middle ys after → IsCutShort before (xs ++ ys) after
cut_then before xs ys middle after e (n, lt, f) = (length xs + n, omega (arith, lt, length-append xs ys), f ∙ ap (λ m. appended m (take n ys)) e ∙ appended_twice before xs (take n ys) ∙ ap (appended before) (sym (take-append-add xs ys n)))

-- what follows whatever the answer, and what follows where it is a refusal
pub on_err : {A E : Type 0} (r : Result A E) (P : Type 0) → P → OnErr r P
on_err (Ok x) P p = tt
on_err (Err e) P p = p

pub on_err_map : {A E : Type 0} (r : Result A E) (P Q : Type 0) → (P → Q) → OnErr r P → OnErr r Q
on_err_map (Ok x) P Q f p = tt
on_err_map (Err e) P Q f p = f p

-- a text was told, whatever the answer
pub told_from : {A F : Type 0} (r : Result A F) (before : Option (List ℕ)) (faults : ℕ) (text : List ℕ) (after : Option (List ℕ)) (now : ℕ) → OnOk r (after ≡ appended before text) → OnErr r (Rose faults now) → OnErr r (IsCutShort before text after) → IsTold before faults text after now
told_from (Ok x) before faults text after now all rose cut = inl all
told_from (Err e) before faults text after now all rose cut = inr (rose, cut)
