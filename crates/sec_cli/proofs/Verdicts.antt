-- Answers of `check`, by the verdict.
use Rattle.std.proofs.Common.{◌≡◌, ◌≢◌, ◌<◌, ◌++◌, ℕ, List, [], Option, Some, refl, subst}
use Rattle.circ_model.specs.Meaning.{Pair, IsSoundPair, outputs_of, places_of}
use Rattle.circ_model.specs.Verdict.{AgreeBelow, Equivalent, Undecided, Different}
use Rattle.class_partition.specs.Classes.{Classes, ArePartition, AreOfGreatest, class_count}
use Rattle.class_partition.specs.Laws.{PairOutput}
use Rattle.class_partition.proofs.Verdicts.{is_equivalent, is_undecided}
use Rattle.induction_base.specs.declared.difference.Diff.{Diff}
use Rattle.trace_witness.specs.Texts.{trace_text}
use Rattle.refine_board.specs.Running.{Written}
use Rattle.sec_cli.specs.Answers.{IsCertOf, IsRefinedText, IsShownAs, IsVerdictAnswer}
use Rattle.pair_pool.specs.Unpaired.{AreLeftOut}
use Rattle.run_texts.specs.Lines.{equivalent_line, undecided_line, different_line}
use Rattle.command_line.specs.Asked.{OptionsAsked}

pub equivalent_answer : (pair : Pair) (c : OptionsAsked) (classes : Classes) (journal : Written) (line text trace : List ℕ) → IsSoundPair pair → ArePartition (places_of pair) classes → AreOfGreatest pair c.k classes
    → ((j : ℕ) → j < outputs_of pair → PairOutput pair classes j) → IsCertOf pair c trace → line ≡ equivalent_line c.k (places_of pair) (class_count (places_of pair) classes) → IsRefinedText pair c journal.entries line text → IsVerdictAnswer pair c 0 text trace (Some journal)
equivalent_answer pair c classes journal line text trace sound partition greatest paired cert is refined =
    (Equivalent (class_count (places_of pair) classes), is_equivalent pair c.k c.depth classes sound partition greatest paired, refl, (cert, subst (λ (l : List ℕ). IsRefinedText pair c journal.entries l text) is refined))

pub undecided_answer : (pair : Pair) (c : OptionsAsked) (classes : Classes) (journal : Written) (u line text trace : List ℕ) → IsSoundPair pair → ArePartition (places_of pair) classes → AreOfGreatest pair c.k classes
    → AgreeBelow pair c.depth → u ≢ [] → AreLeftOut pair classes (outputs_of pair) u → line ≡ undecided_line c.k (places_of pair) (class_count (places_of pair) classes) u → IsRefinedText pair c journal.entries line text → IsVerdictAnswer pair c 2 text trace (Some journal)
undecided_answer pair c classes journal u line text trace sound partition greatest agree some out is refined =
    (Undecided (class_count (places_of pair) classes) u, is_undecided pair c.k c.depth classes u sound partition greatest agree some out.rising out.unpaired out.others, refl, subst (λ (l : List ℕ). IsRefinedText pair c journal.entries l text) is refined)

pub different_answer : (pair : Pair) (c : OptionsAsked) (d : Diff) (journal : Option Written) (text trace : List ℕ) → IsShownAs pair c d → trace ≡ trace_text d.output d.run → text ≡ different_line c.k d.frame d.output ++ trace → IsVerdictAnswer pair c 1 text trace journal
different_answer pair c d journal text trace told stored is =
    let shown = told.shown in
    (Different d.frame d.output, (shown.below, shown.least), refl, (d.run, record { is_run = shown.is_run; rows = shown.rows; first = shown.first }, told.least, stored, is))
