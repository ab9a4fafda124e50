-- Where loading stops.
use Rattle.std.proofs.Common.{◌≡◌, ◌<◌, ℕ, List, [], ◌∷◌, length, slice_index_or, Option, refl, arith, inl, inr}
use Rattle.circ_model.specs.Meaning.{Pair}
use Rattle.pair_files.specs.declared.fault.Side.{Side}
use Rattle.pair_files.specs.declared.fault.Side.TheVariants.{Left, Right}
use Rattle.pair_files.specs.declared.fault.Unpaired.{Unpaired}
use Rattle.pair_files.specs.declared.fault.Unpaired.TheVariants as unpaired
use Rattle.pair_files.specs.Pairs.{IsLoadFailed}
use Rattle.pair_files.specs.Loads.{failed_side}
use Rattle.run_texts.specs.Told.{name_of_side}
use Rattle.batch_run.specs.declared.loading.Loaded.{Loaded}
use Rattle.batch_run.specs.declared.loading.Loaded.TheVariants as loaded
use Rattle.batch_run.specs.Loads.{AreAnswerable, AreLoaded, IsAnswerable, IsLoaded}

some_pair : (pairs : List Pair) (at : ℕ) → at < length pairs → Pair
some_pair [] at lt = absurd (omega arith)
some_pair (p ∷ ps) at lt = p

answerable : (file : List ℕ → Option (List ℕ)) (pairs : List Pair) (names : List ℕ × List ℕ) (one : Loaded) → IsLoaded file pairs names one → IsAnswerable file names
answerable file pairs names (loaded.Product at) (lt, is) = let d = some_pair pairs at lt in inl (slice_index_or pairs at d, is d)
answerable file pairs names (loaded.Refused u) h = inr (u, h)

-- what was loaded was answerable
pub all_answerable : (file : List ℕ → Option (List ℕ)) (pairs : List Pair) (list : List (List ℕ × List ℕ)) (found : List Loaded) (at : ℕ) → at ≡ length found → AreLoaded file pairs list found → AreAnswerable file list at
all_answerable file pairs list found at is are = λ i d lt.
    let no : Loaded = loaded.Refused unpaired.Memory in
    answerable file pairs (slice_index_or list i d) (slice_index_or found i no) (are i d no (omega (arith, lt, is)))

-- the name that is told is the one whose load failed
pub one_failed : (left right : List ℕ) (side : Side) → failed_side left right (unpaired.LoadFailed side) ≡ name_of_side left right side ∷ []
one_failed left right Left = refl
one_failed left right Right = refl

pub none_failed : (left right : List ℕ) (u : Unpaired) → (IsLoadFailed u → ⊥) → failed_side left right u ≡ []
none_failed left right unpaired.Memory h = refl
none_failed left right (unpaired.LoadFailed side) h = absurd (h tt)
none_failed left right (unpaired.Refused side f) h = refl
none_failed left right (unpaired.InputsDiffer a b) h = refl
none_failed left right (unpaired.OutputsDiffer a b) h = refl
none_failed left right (unpaired.FreeDiffer a b) h = refl
