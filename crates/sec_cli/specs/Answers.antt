-- What a command answers, once its files are accepted: a status and a text.
use Rattle.std.specs.Prelude.{◌≡◌, ℕ, ◌+◌, ◌==◌, Bool, IsTrue, not, false, List, [], ◌++◌, length, if◌then◌else◌, Option, Some, None, is_some, IsSomeAnd, Ok, MatchBool}
use Rattle.circ_model.specs.Meaning.{Pair, Path, IsRun, places_of}
use Rattle.circ_model.specs.Verdict.{Verdict, Equivalent, Different, Undecided, IsVerdict, IsFirstDifference, FirstDifference}
use Rattle.induction_base.specs.declared.difference.Diff.{Diff}
use Rattle.induction_base.specs.Least.{IsShown}
use Rattle.induction_base.specs.LeastRun.{IsLeastRun}
use Rattle.corr_certificate.specs.Certificate.{IsSupported}
use Rattle.cert_writer.specs.Writing.{IsCertificate}
use Rattle.class_partition.specs.Classes.{Classes, ArePartition, AreOfGreatest}
use Rattle.trace_witness.specs.Lines.{lines_of}
use Rattle.trace_witness.specs.Texts.{trace_text, trace_of}
use Rattle.trace_witness.specs.declared.read.Trace.{Trace}
use Rattle.class_text.specs.ClassLines.{class_lines}
use Rattle.verdict_stamp.specs.Versions.{Standing}
use Rattle.refine_board.specs.declared.journal.Entry.{Entry}
use Rattle.refine_board.specs.Running.{Written}
use Rattle.split_workers.specs.Refined.{IsRefined}
use Rattle.sec_cli.specs.Stats.{stats_of}
use Rattle.run_texts.specs.Lines.{equivalent_line, undecided_line, different_line, differs_line, agrees_line, demo_line}
use Rattle.run_texts.specs.Verdicts.{status_of_verdict}
use Rattle.sec_cli.specs.Texts.{stats_line, verified_line}
use Rattle.sec_cli.specs.declared.ending.Reply.{Reply}
use Rattle.command_line.specs.Asked.{OptionsAsked}
use Rattle.command_line.specs.declared.command.Demo.{Demo}
use Rattle.demo_pair.specs.Demo.{IsDemo}

-- the lines of the greatest correspondence's classes, where they are asked for
abbrev pub AreClassLines : Pair → OptionsAsked → List ℕ → Type 0
AreClassLines pair c lines = MatchBool c.classes
    ((classes : Classes) × ArePartition (places_of pair) classes × AreOfGreatest pair c.k classes × (lines ≡ class_lines pair classes))
    (lines ≡ [])

-- the journal of a refinement of this pair, by as many workers as are asked for
abbrev pub IsJournalOf : Pair → OptionsAsked → List Entry → Type 0
IsJournalOf pair c entries = (version : Standing) × IsRefined pair c.k c.workers version entries

-- the line of the journal's numbers, where it is asked for
abbrev pub stats_lines : OptionsAsked → List Entry → List ℕ
stats_lines c entries = if c.stats then stats_line (stats_of entries) else []

-- what is printed after a refinement: the verdict's line, the class lines, and the line of the journal's numbers
pub record IsRefinedText (pair : Pair) (c : OptionsAsked) (entries : List Entry) (line text : List ℕ) : Type 0 where
  pub journal : IsJournalOf pair c entries
  pub lines : List ℕ
  pub are_classes : AreClassLines pair c lines
  pub text_is : text ≡ (line ++ lines) ++ stats_lines c entries

-- all verdicts but a difference come from a refinement
abbrev pub is_refined : ℕ → Bool
is_refined status = not (status == 1)

-- a certificate of the greatest correspondence's classes, where it is asked for
abbrev pub IsCertOf : Pair → OptionsAsked → List ℕ → Type 0
IsCertOf pair c file = MatchBool (is_some c.cert)
    ((classes : Classes) × ArePartition (places_of pair) classes × AreOfGreatest pair c.k classes × IsCertificate pair c.k classes file × IsSupported pair file)
    (Unit {0})

-- a run that ends at its first difference, which is this one
pub record ShowsDifference (pair : Pair) (frame output : ℕ) (run : Path) : Type 0 where
  pub is_run : IsRun pair run
  pub rows : length run.inputs ≡ frame + 1
  pub first : IsFirstDifference pair run frame output

-- where it is asked for the run is the least that differs there: no other has bits that come before
abbrev pub IsLeastWhereAsked : Pair → OptionsAsked → ℕ → ℕ → Path → Type 0
IsLeastWhereAsked pair c frame output run = IsTrue c.least → IsLeastRun pair frame output run

-- the least difference below the depth, with a run that shows it, which is the least where that is asked for
pub record IsShownAs (pair : Pair) (c : OptionsAsked) (d : Diff) : Type 0 where
  pub shown : IsShown pair c.depth d
  pub least : IsLeastWhereAsked pair c d.frame d.output d.run

-- what is printed of a verdict, its file, which is the trace in it, or a certificate, or nothing, and its journal
abbrev pub IsVerdictText : Pair → OptionsAsked → Verdict → List ℕ → List ℕ → Option Written → Type 0
IsVerdictText pair c (Equivalent n) text file journal = IsCertOf pair c file × IsSomeAnd journal (λ j. IsRefinedText pair c j.entries (equivalent_line c.k (places_of pair) n) text)
IsVerdictText pair c (Undecided n u) text file journal = IsSomeAnd journal (λ j. IsRefinedText pair c j.entries (undecided_line c.k (places_of pair) n u) text)
IsVerdictText pair c (Different t j) text file journal = (run : Path) × ShowsDifference pair t j run × IsLeastWhereAsked pair c t j run × (file ≡ trace_text j run) × (text ≡ different_line c.k t j ++ file)

-- the verdict's status, text, file and journal
abbrev pub IsVerdictAnswer : Pair → OptionsAsked → ℕ → List ℕ → List ℕ → Option Written → Type 0
IsVerdictAnswer pair c status text file journal = (v : Verdict) × IsVerdict pair c.k c.depth v × (status ≡ status_of_verdict v) × IsVerdictText pair c v text file journal

abbrev pub IsCheckAnswer : Pair → OptionsAsked → Reply → Type 0
IsCheckAnswer pair c answer = IsVerdictAnswer pair c answer.status answer.text.items answer.file.items answer.journal

abbrev pub IsReplayText : Path → Option (ℕ × ℕ) → Reply → Type 0
IsReplayText run (Some d) answer = (answer.status ≡ 1) × (answer.text.items ≡ differs_line d.0 d.1)
IsReplayText run None answer = (answer.status ≡ 0) × (answer.text.items ≡ agrees_line (length run.inputs))

-- what a trace shows: the first difference, or that all outputs agree in all its frames
abbrev pub IsReplayOf : Pair → Path → Reply → Type 0
IsReplayOf pair run answer = (first : Option (ℕ × ℕ)) × FirstDifference pair run first × IsReplayText run first answer

abbrev pub IsReplayAnswer : Pair → List ℕ → Reply → Type 0
IsReplayAnswer pair bytes answer = (trace : Trace) × (trace_of pair (lines_of bytes) ≡ Ok trace) × IsReplayOf pair trace.run answer

-- what a certificate without a fault shows
abbrev pub IsVerifyAnswer : Pair → List ℕ → Reply → Type 0
IsVerifyAnswer pair bytes answer = IsSupported pair bytes × (answer.status ≡ 0) × (answer.text.items ≡ verified_line)

-- a demo is checked as two files are, with a search for a difference in the first k frames, without class lines, numbers of entries and stored files; its free latches, if any, aren't tied
abbrev pub check_of_demo : Demo → OptionsAsked
check_of_demo d = record { k = d.k; depth = d.k; workers = d.workers; classes = false; stats = false; trace = None; cert = None; tied = false; least = false }

-- the line of the demo, and then the verdict of its pair
abbrev pub IsDemoAnswer : Demo → Reply → Type 0
IsDemoAnswer d answer =
    (pair : Pair) × (IsDemo d.n pair.left pair.right × (pair.tied ≡ false))
    × ((text : List ℕ) × IsVerdictAnswer pair (check_of_demo d) answer.status text answer.file.items answer.journal × (answer.text.items ≡ demo_line d.n ++ text))
