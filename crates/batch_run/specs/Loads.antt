-- What the pairs of a list are found to be, once their files are loaded.
use Rattle.std.specs.Prelude.{◌≡◌, ℕ, ◌<◌, ◌++◌, ◌⊎◌, List, [], length, slice_index_or, HoldsAt, false, Option, Result, Ok, Err}
use Rattle.circ_model.specs.Meaning.{Pair}
use Rattle.pair_files.specs.declared.fault.Unpaired.{Unpaired}
use Rattle.pair_files.specs.Pairs.{ArePair, IsNoPair}
use Rattle.pair_files.specs.Loads.{failed_side}
use Rattle.run_texts.specs.Told.{unpaired_status}
use Rattle.batch_run.specs.declared.loading.Loaded.{Loaded}
use Rattle.batch_run.specs.declared.loading.Loaded.TheVariants as loaded
use Rattle.batch_run.specs.declared.loading.Pairs.{Pairs}
use Rattle.batch_run.specs.declared.loading.Stop.{Stop}

-- no pair, as a check tells with status 4
abbrev pub IsRefusedPair : (List ℕ → Option (List ℕ)) → List ℕ × List ℕ → Unpaired → Type 0
IsRefusedPair file names u = IsNoPair false (file names.0) (file names.1) u × (unpaired_status u ≡ 4)

-- the product at this place is that of the files with these names, or they have none
abbrev pub IsLoaded : (List ℕ → Option (List ℕ)) → List Pair → List ℕ × List ℕ → Loaded → Type 0
IsLoaded file pairs names (loaded.Product at) = (at < length pairs) × HoldsAt (λ (pair : Pair). ArePair false (file names.0) (file names.1) pair) pairs at
IsLoaded file pairs names (loaded.Refused u) = IsRefusedPair file names u

-- so it is with the first pairs of the list
abbrev pub AreLoaded : (List ℕ → Option (List ℕ)) → List Pair → List (List ℕ × List ℕ) → List Loaded → Type 0
AreLoaded file pairs list loaded = (i : ℕ) (d : List ℕ × List ℕ) (e : Loaded) → i < length loaded → IsLoaded file pairs (slice_index_or list i d) (slice_index_or loaded i e)

-- this place is one of the products
abbrev pub IsWithinProducts : List Pair → Loaded → Type 0
IsWithinProducts pairs (loaded.Product at) = at < length pairs
IsWithinProducts pairs (loaded.Refused u) = Unit {0}

abbrev pub AreWithinProducts : List Pair → List Loaded → Type 0
AreWithinProducts pairs loaded = (i : ℕ) (e : Loaded) → i < length loaded → IsWithinProducts pairs (slice_index_or loaded i e)

-- more of them stand at the end
abbrev pub Extends : List Pair → List Pair → Type 0
Extends before after = (more : List Pair) × (after ≡ before ++ more)

-- a pair of files that a check would answer: with a verdict, or with a refusal of status 4
abbrev pub IsAnswerable : (List ℕ → Option (List ℕ)) → List ℕ × List ℕ → Type 0
IsAnswerable file names = ((pair : Pair) × ArePair false (file names.0) (file names.1) pair) ⊎ ((u : Unpaired) × IsRefusedPair file names u)

-- those before this place of the list are
abbrev pub AreAnswerable : (List ℕ → Option (List ℕ)) → List (List ℕ × List ℕ) → ℕ → Type 0
AreAnswerable file list at = (i : ℕ) (d : List ℕ × List ℕ) → i < at → IsAnswerable file (slice_index_or list i d)

-- there is no pair at this place, and those before it were answerable
abbrev pub IsStopped : (List ℕ → Option (List ℕ)) → List (List ℕ × List ℕ) → Stop → Type 0
IsStopped file list s = AreAnswerable file list s.at × HoldsAt (λ (names : List ℕ × List ℕ). IsNoPair false (file names.0) (file names.1) s.why) list s.at

-- the names whose loads failed
abbrev pub failed_one : List ℕ × List ℕ → Result Loaded Unpaired → List (List ℕ)
failed_one names (Ok one) = []
failed_one names (Err u) = failed_side names.0 names.1 u

abbrev pub names_at : List (List ℕ × List ℕ) → ℕ → List ℕ × List ℕ
names_at list at = slice_index_or list at ([], [])

abbrev pub failed_stop : List (List ℕ × List ℕ) → Result Pairs Stop → List (List ℕ)
failed_stop list (Ok pairs) = []
failed_stop list (Err s) = failed_side (names_at list s.at).0 (names_at list s.at).1 s.why
