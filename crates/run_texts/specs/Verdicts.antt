-- The line and the status of a verdict.
use Rattle.std.specs.Prelude.{ℕ, List}
use Rattle.circ_model.specs.Verdict.{Verdict, Equivalent, Different, Undecided}
use Rattle.run_texts.specs.Lines.{equivalent_line, undecided_line, different_line}

-- the verdict of a pair with so many signals, by induction over k frames
abbrev pub verdict_line : ℕ → ℕ → Verdict → List ℕ
verdict_line k signals (Equivalent classes) = equivalent_line k signals classes
verdict_line k signals (Different frame output) = different_line k frame output
verdict_line k signals (Undecided classes unpaired) = undecided_line k signals classes unpaired

abbrev pub status_of_verdict : Verdict → ℕ
status_of_verdict (Equivalent classes) = 0
status_of_verdict (Different frame output) = 1
status_of_verdict (Undecided classes unpaired) = 2
