-- The text of a certificate for classes whose needed pairs have these logs.
use Rattle.std.specs.Prelude.{◌≡◌, ◌<◌, ◌≤◌, ℕ, Bool, true, false, List, [], ◌∷◌, ◌++◌, length, codes, decimal}
use Rattle.std.specs.List.{All, range_with_len}
use Rattle.circ_model.specs.Meaning.{Pair, places_of}
use Rattle.class_partition.specs.Classes.{Classes, ArePartition, IsStable, is_least}
use Rattle.product_machine.specs.Signals.{signal_at}
use Rattle.cnf_store.specs.Clauses.{Formula}
use Rattle.sat_log.specs.Derivations.{Line, IsAccepted}
use Rattle.sat_log.specs.Lines.{AreLines}
use Rattle.sat_log.specs.Texts.{HasText, log_text}
use Rattle.frame_unroll.specs.Unrolled.{Unrolling, from_reset, after_classes}
use Rattle.class_text.specs.ClassLines.{name_of, class_lines}
use Rattle.corr_certificate.specs.Parts.{Either, base_formula, step_formula}
use Rattle.log_trim.specs.Trimming.{IsTrimmed}

-- the depth of the induction, how many signals there are, and whether the free latches are tied
abbrev pub tie_text : Bool → List ℕ
tie_text false = codes " tie=0\n"
tie_text true = codes " tie=1\n"

abbrev pub head_text : Pair → ℕ → List ℕ
head_text pair k = codes "seccert 2 k=" ++ (decimal k ++ (codes " signals=" ++ (decimal (places_of pair) ++ tie_text pair.tied)))

-- a line with the member's name, and a log
abbrev pub part_text : Pair → List ℕ → ℕ → List Line → List ℕ
part_text pair keyword p log = keyword ++ (name_of (signal_at pair p) ++ 10 ∷ log_text log)

-- a trimmed log that is accepted, of lines that have a text
pub record Derives (formula : Formula) (log : List Line) : Type 0 where
  pub accepted : IsAccepted formula log
  pub trimmed : IsTrimmed (length formula.clauses) log
  pub lines : AreLines log
  pub hints : All HasText log

-- the depth of the induction is within its limit, and no row divides the classes: they are a correspondence
pub record AreProved (pair : Pair) (k : ℕ) (classes : Classes) : Type 0 where
  pub some : 0 < k
  pub few : k ≤ 16
  pub partition : ArePartition (places_of pair) classes
  pub stable : IsStable pair k classes

-- what is certified
pub record Certified : Type 0 where
  pub pair : Pair
  pub k : ℕ
  pub classes : Classes

-- a log that is accepted, in which no line but the last stands unused
pub record IsTrimmedLog (formula : Formula) (log : List Line) : Type 0 where
  pub accepted : IsAccepted formula log
  pub trimmed : IsTrimmed (length formula.clauses) log

-- of the question from reset of a place, and of the one in the last frame
abbrev pub IsBaseLog : Certified → ℕ → List Line → Type 0
IsBaseLog s p log = IsTrimmedLog (base_formula s.pair s.k s.classes p) log

abbrev pub IsStepLog : Certified → ℕ → List Line → Type 0
IsStepLog s p log = IsTrimmedLog (step_formula s.pair s.k s.classes p) log

-- the frames of the two questions, and how many clauses each has with a question
pub record AreFrames (pair : Pair) (k : ℕ) (classes : Classes) (base step : Unrolling) (base_clauses step_clauses : ℕ) : Type 0 where
  pub proved : AreProved pair k classes
  pub base_is : base ≡ from_reset pair k
  pub step_is : step ≡ after_classes pair k classes
  pub base_count : (p : ℕ) → base_clauses ≡ length (base_formula pair k classes p).clauses
  pub step_count : (p : ℕ) → step_clauses ≡ length (step_formula pair k classes p).clauses

-- a member's part with these words before its name is added to a text, of a log whose lines have a text
pub record AddsPart (pair : Pair) (keyword : List ℕ) (p : ℕ) (log : List Line) (before after : List ℕ) : Type 0 where
  pub lines : AreLines log
  pub hints : All HasText log
  pub is : after ≡ before ++ part_text pair keyword p log

-- a member's two parts are added to a text
pub record AddsMember (pair : Pair) (k : ℕ) (classes : Classes) (p : ℕ) (before after : List ℕ) : Type 0 where
  pub base : List Line
  pub step : List Line
  pub base_derives : Derives (base_formula pair k classes p) base
  pub step_derives : Derives (step_formula pair k classes p) step
  pub is : after ≡ before ++ (part_text pair (codes "base ") p base ++ part_text pair (codes "step ") p step)

-- the text of a member's two parts, with what follows it
pub record IsMember (pair : Pair) (k : ℕ) (classes : Classes) (p : ℕ) (text rest : List ℕ) : Type 0 where
  pub base : List Line
  pub step : List Line
  pub base_derives : Derives (base_formula pair k classes p) base
  pub step_derives : Derives (step_formula pair k classes p) step
  pub is : text ≡ part_text pair (codes "base ") p base ++ (part_text pair (codes "step ") p step ++ rest)

-- the parts of those of these places that aren't the least of their class, and the end
abbrev pub AreMembers : Pair → ℕ → Classes → List ℕ → List ℕ → Type 0
AreMembers pair k classes [] text = text ≡ codes "end\n"
AreMembers pair k classes (p ∷ ps) text = Either (is_least classes p) (AreMembers pair k classes ps text) ((rest : List ℕ) × IsMember pair k classes p text rest × AreMembers pair k classes ps rest)

-- all parts and the end are added to a text
pub record AddsMembers (pair : Pair) (k : ℕ) (classes : Classes) (before after : List ℕ) : Type 0 where
  pub parts : List ℕ
  pub are : AreMembers pair k classes (range_with_len 0 (places_of pair)) parts
  pub is : after ≡ before ++ parts

-- line 1, the class lines, the parts and the end
pub record IsCertificate (pair : Pair) (k : ℕ) (classes : Classes) (text : List ℕ) : Type 0 where
  pub parts : List ℕ
  pub are : AreMembers pair k classes (range_with_len 0 (places_of pair)) parts
  pub is : text ≡ head_text pair k ++ (class_lines pair classes ++ parts)
