-- What a batch answers: a line for each pair of its list, in the list's order.
use Rattle.std.specs.Prelude.{◌≡◌, ℕ, ◌+◌, ◌<◌, ◌⊎◌, max, List, [], ◌∷◌, ◌++◌, length, slice_index_or, HoldsAt, fold, flat_map, decimal, false, Option}
use Rattle.circ_model.specs.Meaning.{Pair, places_of}
use Rattle.circ_model.specs.Verdict.{Verdict, IsVerdict}
use Rattle.pair_files.specs.declared.fault.Unpaired.{Unpaired}
use Rattle.pair_files.specs.Pairs.{ArePair}
use Rattle.run_texts.specs.Told.{unpaired_text}
use Rattle.run_texts.specs.Verdicts.{status_of_verdict, verdict_line}
use Rattle.batch_run.specs.Loads.{IsRefusedPair}

-- the answer of one pair: its number, its line and its status
pub record Answered : Type 0 where
  pub number : ℕ
  pub line : List ℕ
  pub status : ℕ

-- the verdict of the pair in the files with these names, as a check with so many frames prints it, but for a trace
pub record IsVerdictOf (file : List ℕ → Option (List ℕ)) (k : ℕ) (names : List ℕ × List ℕ) (line : List ℕ) (status : ℕ) : Type 0 where
  pub pair : Pair
  pub is_pair : ArePair false (file names.0) (file names.1) pair
  pub verdict : Verdict
  pub is_verdict : IsVerdict pair k k verdict
  pub line_is : line ≡ verdict_line k (places_of pair) verdict
  pub status_is : status ≡ status_of_verdict verdict

-- or what a check tells of these files with status 4
pub record IsRefusalOf (file : List ℕ → Option (List ℕ)) (names : List ℕ × List ℕ) (line : List ℕ) (status : ℕ) : Type 0 where
  pub why : Unpaired
  pub refused : IsRefusedPair file names why
  pub line_is : line ≡ unpaired_text names.0 names.1 why
  pub status_is : status ≡ 4

abbrev pub IsAnswerOf : (List ℕ → Option (List ℕ)) → ℕ → List ℕ × List ℕ → List ℕ → ℕ → Type 0
IsAnswerOf file k names line status = IsVerdictOf file k names line status ⊎ IsRefusalOf file names line status

-- the answer of the pair at this place of the list, which is counted from 0, and its number from 1
pub record IsAnswerAt (file : List ℕ → Option (List ℕ)) (k : ℕ) (at : ℕ) (names : List ℕ × List ℕ) (a : Answered) : Type 0 where
  pub number_is : a.number ≡ at + 1
  pub answer : IsAnswerOf file k names a.line a.status

-- answers of the first pairs of the list, in its order
abbrev pub AreFirstAnswers : (List ℕ → Option (List ℕ)) → ℕ → List (List ℕ × List ℕ) → List Answered → Type 0
AreFirstAnswers file k list answers = (i : ℕ) (d : List ℕ × List ℕ) (e : Answered) → i < length answers → IsAnswerAt file k i (slice_index_or list i d) (slice_index_or answers i e)

-- a printed line: the number, a space, and the answer
abbrev pub printed : Answered → List ℕ
printed a = (decimal a.number ++ 32 ∷ []) ++ a.line

-- the greatest status, and 0 where there is none
abbrev pub greatest : List Answered → ℕ
greatest answers = fold (λ m a. max m a.status) 0 answers

-- the lines of these answers, and their greatest status
pub record IsPrintedOf (answers : List Answered) (text : List ℕ) (status : ℕ) : Type 0 where
  pub text_is : text ≡ flat_map printed answers
  pub status_is : status ≡ greatest answers

-- so many pairs of the list are answered
pub record AreAnswered (file : List ℕ → Option (List ℕ)) (k : ℕ) (list : List (List ℕ × List ℕ)) (count : ℕ) (text : List ℕ) (status : ℕ) : Type 0 where
  pub answers : List Answered
  pub counted : length answers ≡ count
  pub each : AreFirstAnswers file k list answers
  pub print : IsPrintedOf answers text status

-- and all of them
abbrev pub IsBatch : (List ℕ → Option (List ℕ)) → ℕ → List (List ℕ × List ℕ) → List ℕ → ℕ → Type 0
IsBatch file k list text status = AreAnswered file k list (length list) text status

-- the answer of the pair is added to the text
abbrev pub WritesAnswer : (List ℕ → Option (List ℕ)) → ℕ → List ℕ × List ℕ → List ℕ → List ℕ → ℕ → Type 0
WritesAnswer file k names before after status = (line : List ℕ) × (after ≡ before ++ line) × IsAnswerOf file k names line status

-- the line of the pair at this place of the list is
abbrev pub WritesLine : (List ℕ → Option (List ℕ)) → ℕ → List (List ℕ × List ℕ) → ℕ → List ℕ → List ℕ → ℕ → Type 0
WritesLine file k list at before after status =
    (line : List ℕ) × (after ≡ before ++ ((decimal (at + 1) ++ 32 ∷ []) ++ line)) × HoldsAt (λ (names : List ℕ × List ℕ). IsAnswerOf file k names line status) list at
