-- What is told of a version's two logs, in the version's own words.
use Rattle.std.proofs.Common.{◌≡◌, ℕ, List, MatchOption, Option, Some, None, subst}
use Rattle.circ_model.specs.Meaning.{Pair}
use Rattle.class_partition.specs.declared.classes.Needed.{Needed}
use Rattle.class_partition.specs.Classes.{Classes}
use Rattle.sat_log.specs.Derivations.{Line}
use Rattle.used_pairs.specs.Logs.{AreAccepted}
use Rattle.verdict_stamp.specs.Versions.{Standing}

-- what is told where some list was found, and where none was
abbrev Told : Pair → ℕ → Classes → ℕ → List Line → List Line → Option (List Needed) → Type 0
Told pair k classes m base step found = MatchOption found (AreAccepted pair k classes m base step → ⊥) (λ (l : List Needed). AreAccepted pair k classes m base step)

of_version : (v : Standing) (pair : Pair) (k : ℕ) (classes : Classes) (m : ℕ) (base step : List Line) (found : Option (List Needed)) → pair ≡ v.pair → k ≡ v.k → classes ≡ v.classes → Told pair k classes m base step found → Told v.pair v.k v.classes m base step found
of_version v pair k classes m base step found ep ek ec told =
    subst (λ (c : Classes). Told v.pair v.k c m base step found) ec (subst (λ (n : ℕ). Told v.pair n classes m base step found) ek (subst (λ (p : Pair). Told p k classes m base step found) ep told))

pub accepted_by : (v : Standing) (pair : Pair) (k : ℕ) (classes : Classes) (m : ℕ) (base step : List Line) (found : Option (List Needed)) (pairs : List Needed) → pair ≡ v.pair → k ≡ v.k → classes ≡ v.classes → found ≡ Some pairs
    → Told pair k classes m base step found → AreAccepted v.pair v.k v.classes m base step
accepted_by v pair k classes m base step found pairs ep ek ec ef told = subst (Told v.pair v.k v.classes m base step) ef (of_version v pair k classes m base step found ep ek ec told)

pub refused_by : (v : Standing) (pair : Pair) (k : ℕ) (classes : Classes) (m : ℕ) (base step : List Line) (found : Option (List Needed)) → pair ≡ v.pair → k ≡ v.k → classes ≡ v.classes → found ≡ None
    → Told pair k classes m base step found → AreAccepted v.pair v.k v.classes m base step → ⊥
refused_by v pair k classes m base step found ep ek ec ef told = subst (Told v.pair v.k v.classes m base step) ef (of_version v pair k classes m base step found ep ek ec told)
