use Rattle.std.proofs.Common.{◌≡◌, ◌∙◌, ◌-◌, ℕ, suc, Bool, true, false, List, [], ◌++◌, length, take, drop, sym, ap, subst, arith}
use Rattle.std.proofs.Math.ListN.{drop_of_length-le}
use Rattle.std.proofs.lemmas.List.{append-nil, take_all}
use Rattle.sat_log.specs.Derivations.{Line, line_at}
use Rattle.log_trim.specs.Trimming.{AddsMarks, is_marked}
use Rattle.log_trim.proofs.Marking.{SoFar, one_more}
use Rattle.log_trim.proofs.trimming.needed_lines.Goals as goal

-- a vector whose slice was written whole
whole : (n : ℕ) (xs ys : List Bool) → length xs ≡ length ys → length ys ≡ n → take n (xs ++ drop (length xs) ys) ≡ xs
whole n xs ys e len =
    let none : drop (length xs) ys ≡ [] = drop_of_length-le ys (omega arith) in
    ap (λ (zs : List Bool). take n (xs ++ zs)) none ∙ ap (take n) (append-nil xs) ∙ take_all n xs (omega arith)

one_down : (given : ℕ) (lines : List Line) (i j : ℕ) (marks old now : List Bool) → old ≡ marks → i ≡ suc j → SoFar given lines i marks → (is_marked old j ≡ true → AddsMarks given (line_at lines j).hints j old now)
    → (is_marked old j ≡ false → now ≡ old) → SoFar given lines j now
one_down given lines i j marks old now e is so marked passed =
    one_more given lines j old now (subst (SoFar given lines (suc j)) (sym e) (subst (λ (n : ℕ). SoFar given lines n marks) is so)) marked passed

pub loop-i-preserved : goal.loop-i-preserved
loop-i-preserved c =
    let i : ℕ = c.loop-i.i in
    let marks : List Bool = c.loop-i.marks.items in
    let now : List Bool = c.mark_from.new.marks in
    let test = c.loop-i-test.true in
    let size : length now ≡ length marks = c.mark_from.ensures.size ∙ ap length c.deref_mut.ensures.value in
    subst (SoFar c.args.given c.args.log.now (i - 1)) (sym (whole c.loop-i.marks.len now marks size (omega (arith, c.loop-i.marks.ok.0))))
    (one_down c.args.given c.args.log.now i (i - 1) marks c.deref_mut.result.now now c.deref_mut.ensures.value (omega arith) c.loop-i.invariant c.mark_from.ensures.marked c.mark_from.ensures.unmarked)
