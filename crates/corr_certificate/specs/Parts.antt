-- The parts of a certificate: for each needed pair in the order of its members two logs, each after a line that names the member.
-- What follows a part stands as `More`, of the line's number and the lines from there on.
use Rattle.std.specs.Prelude.{◌≡◌, ℕ, ◌+◌, ◌-◌, ◌==◌, ◌&&◌, Bool, true, false, List, [], ◌∷◌, length, bytes_eq, codes, Option, Some, None, ◌⊎◌}
use Rattle.circ_model.specs.Meaning.{Pair}
use Rattle.class_partition.specs.Classes.{Classes, needed, is_least}
use Rattle.cnf_store.specs.Clauses.{Formula}
use Rattle.frame_unroll.specs.Unrolled.{from_reset, after_classes, formula_of, asks, asking}
use Rattle.log_check.specs.FirstBad.{IsFirstBad}
use Rattle.sat_log.specs.Derivations.{Line}
use Rattle.sat_log.specs.Parts.{part, part_from}
use Rattle.sat_log.specs.declared.part.Stop.{Stop}
use Rattle.sat_log.specs.declared.part.Stop.TheVariants as stops
use Rattle.corr_certificate.specs.declared.fault.CertKind.{CertKind}
use Rattle.corr_certificate.specs.declared.fault.CertKind.TheVariants as kinds
use Rattle.corr_certificate.specs.declared.fault.Checked.{Checked}
use Rattle.corr_certificate.specs.declared.fault.Checked.TheVariants.{Yes, No}
use Rattle.corr_certificate.specs.Names.{stripped, named}

-- the first fault is this one
abbrev pub IsNo : Checked → CertKind → ℕ → Type 0
IsNo r kind line = r ≡ No (record { kind = kind; line = line })

abbrev pub Either : Bool → Type 0 → Type 0 → Type 0
Either true P Q = P
Either false P Q = Q

abbrev pub More : Type 1
More = ℕ → List (List ℕ) → Type 0

-- a log that was read is accepted, and more is read; or its first line that doesn't follow is the fault
abbrev pub ChecksLog : Formula → ℕ → List Line → Checked → Type 0 → Type 0
ChecksLog formula first log r P = (IsFirstBad formula log None × P) ⊎ ((bad : ℕ) × IsFirstBad formula log (Some bad) × IsNo r kinds.Derivation (first + bad))

-- what was read of a log
abbrev pub AfterLog : Formula → ℕ → Checked → More → ℕ → List Line → List (List ℕ) → Stop → Type 0
AfterLog formula first r more line log rest stops.Cut = IsNo r kinds.Truncated line
AfterLog formula first r more line log rest stops.Wrong = IsNo r kinds.Line line
AfterLog formula first r more line log rest stops.Ends = ChecksLog formula first log r (more line rest)

-- a log whose first line has this number
abbrev pub ReadsLog : Formula → Checked → More → ℕ → List (List ℕ) → Type 0
ReadsLog formula r more first ls = AfterLog formula first r more (part_from [] first ls).line (part_from [] first ls).log (part_from [] first ls).rest (part_from [] first ls).stop

-- whether a line begins the part of this member; none where it doesn't begin such a part
abbrev pub is_member : ℕ → Option ℕ → Option Bool
is_member member None = None
is_member member (Some p) = Some (p == member)

abbrev pub begun_with : Pair → ℕ → Option (List ℕ) → Option Bool
begun_with pair member None = None
begun_with pair member (Some name) = is_member member (named pair name)

abbrev pub begins : Pair → List ℕ → ℕ → List ℕ → Option Bool
begins pair keyword member l = begun_with pair member (stripped keyword l)

abbrev pub Begins : Option Bool → Checked → ℕ → Type 0 → Type 0
Begins None r n P = IsNo r kinds.Line n
Begins (Some false) r n P = IsNo r kinds.Order n
Begins (Some true) r n P = P

-- the line that begins a part, and its log
abbrev pub ReadsPart : Pair → List ℕ → ℕ → Formula → Checked → More → ℕ → List (List ℕ) → Type 0
ReadsPart pair keyword member formula r more n [] = IsNo r kinds.Truncated n
ReadsPart pair keyword member formula r more n (l ∷ ls) = Begins (begins pair keyword member l) r n (ReadsLog formula r more (n + 1) ls)

-- what is derived from: that a run has the pair apart in one of its first k frames
abbrev pub base_formula : Pair → ℕ → Classes → ℕ → Formula
base_formula pair k classes p = formula_of (asking (from_reset pair k) (asks (needed classes p).0 (needed classes p).1 0 (k - 1)))

-- and that a path has it apart after k frames in which the classes hold
abbrev pub step_formula : Pair → ℕ → Classes → ℕ → Formula
step_formula pair k classes p = formula_of (asking (after_classes pair k classes) (asks (needed classes p).0 (needed classes p).1 k k))

abbrev pub ReadsMember : Pair → ℕ → Classes → ℕ → Checked → More → ℕ → List (List ℕ) → Type 0
ReadsMember pair k classes p r more = ReadsPart pair (codes "base ") p (base_formula pair k classes p) r (ReadsPart pair (codes "step ") p (step_formula pair k classes p) r more)

-- the line `end`; nothing follows it, and `whole` tells that no byte follows the last line
abbrev pub ReadsEnd : Bool → Checked → ℕ → List (List ℕ) → Type 0
ReadsEnd whole r n [] = IsNo r kinds.Truncated n
ReadsEnd whole r n (l ∷ ls) = Either (bytes_eq l (codes "end")) (Either ((length ls == 0) && whole) (r ≡ Yes) (IsNo r kinds.Line (n + 1))) (IsNo r kinds.Line n)

-- the parts of those of these places that aren't the least of their class, and the end
abbrev pub ReadsMembers : Pair → ℕ → Classes → Bool → Checked → List ℕ → ℕ → List (List ℕ) → Type 0
ReadsMembers pair k classes whole r [] n ls = ReadsEnd whole r n ls
ReadsMembers pair k classes whole r (p ∷ ps) n ls =
    Either (is_least classes p) (ReadsMembers pair k classes whole r ps n ls) (ReadsMember pair k classes p r (ReadsMembers pair k classes whole r ps) n ls)

-- reading a part goes on from a line, or has a fault; said without what follows it
abbrev pub IsOn : Pair → List ℕ → ℕ → Formula → ℕ → List (List ℕ) → ℕ → List (List ℕ) → Type 0
IsOn pair keyword member formula n [] line rest = ⊥
IsOn pair keyword member formula n (l ∷ ls) line rest =
    (begins pair keyword member l ≡ Some true) × (log : List Line) × (part_from [] (n + 1) ls ≡ part stops.Ends line log rest) × IsFirstBad formula log None

abbrev pub IsFault : Pair → List ℕ → ℕ → Formula → ℕ → List (List ℕ) → CertKind → ℕ → Type 0
IsFault pair keyword member formula n ls kind line = ReadsPart pair keyword member formula (No (record { kind = kind; line = line })) (λ m ms. ⊥) n ls

-- the same of both parts of a member
abbrev pub IsMemberOn : Pair → ℕ → Classes → ℕ → ℕ → List (List ℕ) → ℕ → List (List ℕ) → Type 0
IsMemberOn pair k classes p n ls line rest =
    (m : ℕ) × (ms : List (List ℕ)) × IsOn pair (codes "base ") p (base_formula pair k classes p) n ls m ms × IsOn pair (codes "step ") p (step_formula pair k classes p) m ms line rest

abbrev pub IsMemberFault : Pair → ℕ → Classes → ℕ → ℕ → List (List ℕ) → CertKind → ℕ → Type 0
IsMemberFault pair k classes p n ls kind line = ReadsMember pair k classes p (No (record { kind = kind; line = line })) (λ m ms. ⊥) n ls
