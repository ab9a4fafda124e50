-- A certificate, line by line, with its first fault. Lines are counted from 1.
use Rattle.std.specs.Prelude.{◌<◌, ℕ, ◌==◌, ◌&&◌, leb, Bool, true, false, not, List, [], ◌∷◌, length, if◌then◌else◌, bytes_eq, codes, Option, Some, None, Result, Ok, Err, ◌⊎◌}
use Rattle.std.specs.List.{range_with_len}
use Rattle.circ_model.specs.Meaning.{Pair, places_of, outputs_of}
use Rattle.class_partition.specs.Classes.{Classes}
use Rattle.class_partition.specs.Laws.{PairOutput}
use Rattle.plain_text.specs.Pieces.{pieces, last_of}
use Rattle.corr_certificate.specs.declared.fault.CertKind.TheVariants as kinds
use Rattle.corr_certificate.specs.declared.fault.Checked.{Checked}
use Rattle.corr_certificate.specs.declared.fault.Checked.TheVariants.{Yes}
use Rattle.corr_certificate.specs.Names.{stripped, number_of}
use Rattle.corr_certificate.specs.ClassLines.{ClassPart, none_joined, classes_from}
use Rattle.corr_certificate.specs.Parts.{IsNo, Either, ReadsMembers}

-- line 1 is `seccert 2 k=K signals=N tie=T`: the depth of the induction, how many signals there are, and whether the free latches
-- are tied, 1 where they are. In version 1 it is `seccert 1 k=K signals=N`, of free latches that aren't tied.
pub record Head : Type 0 where
  pub k : ℕ
  pub signals : ℕ
  pub tied : Bool

abbrev pub head : Option ℕ → Option ℕ → Option Bool → Option Head
head None n t = None
head (Some k) None t = None
head (Some k) (Some n) None = None
head (Some k) (Some n) (Some t) = Some (record { k = k; signals = n; tied = t })

abbrev pub field_of : Option (List ℕ) → Option ℕ
field_of None = None
field_of (Some text) = number_of text

abbrev pub tie_of : List ℕ → Option Bool
tie_of word =
    if bytes_eq word (codes "tie=0") then Some false
    else if bytes_eq word (codes "tie=1") then Some true else None

abbrev pub head_words : List (List ℕ) → List ℕ → Option Head
head_words [] d = None
head_words (a ∷ []) d = None
head_words (a ∷ b ∷ []) d = None
head_words (a ∷ b ∷ c ∷ []) d =
    if bytes_eq a (codes "seccert") && bytes_eq b (codes "1") then head (field_of (stripped (codes "k=") c)) (field_of (stripped (codes "signals=") d)) (Some false) else None
head_words (a ∷ b ∷ c ∷ e ∷ []) d =
    if bytes_eq a (codes "seccert") && bytes_eq b (codes "2") then head (field_of (stripped (codes "k=") c)) (field_of (stripped (codes "signals=") e)) (tie_of d) else None
head_words (a ∷ b ∷ c ∷ e ∷ f ∷ ws) d = None

abbrev pub head_of : List ℕ → Option Head
head_of l = head_words (pieces 32 l) (last_of 32 l)

-- the classes pair all outputs
abbrev pub PairOutputs : Pair → Classes → Type 0
PairOutputs pair classes = (j : ℕ) → j < outputs_of pair → PairOutput pair classes j

-- what follows the class lines
abbrev pub ReadsBody : Pair → ℕ → Classes → Bool → Checked → ℕ → List (List ℕ) → Type 0
ReadsBody pair k classes whole r n [] = IsNo r kinds.Truncated n
ReadsBody pair k classes whole r n (l ∷ ls) =
    (PairOutputs pair classes × ReadsMembers pair k classes whole r (range_with_len 0 (places_of pair)) n (l ∷ ls)) ⊎ ((PairOutputs pair classes → ⊥) × IsNo r kinds.Outputs 1)

abbrev pub AfterClasses : Pair → ℕ → Bool → Checked → Result ClassPart ℕ → Type 0
AfterClasses pair k whole r (Err n) = IsNo r kinds.Class n
AfterClasses pair k whole r (Ok p) = ReadsBody pair k p.classes whole r p.line p.rest

-- two bits are one
abbrev pub same_bit : Bool → Bool → Bool
same_bit true b = b
same_bit false b = not b

abbrev pub AfterHead : Pair → Bool → Checked → Option Head → List (List ℕ) → Type 0
AfterHead pair whole r None ls = IsNo r kinds.Line 1
AfterHead pair whole r (Some h) ls =
    Either (leb 1 h.k && leb h.k 16)
    (Either (h.signals == places_of pair)
    (Either (same_bit h.tied pair.tied) (AfterClasses pair h.k whole r (classes_from pair (none_joined (places_of pair)) 2 ls)) (IsNo r kinds.Tie 1))
    (IsNo r kinds.Signals 1))
    (IsNo r kinds.Limit 1)

abbrev pub ReadsHead : Pair → Bool → Checked → List (List ℕ) → Type 0
ReadsHead pair whole r [] = IsNo r kinds.Truncated 1
ReadsHead pair whole r (l ∷ ls) = AfterHead pair whole r (head_of l) ls

-- what reading a text for a pair comes to: its first fault, or none
abbrev pub IsChecked : Pair → List ℕ → Checked → Type 0
IsChecked pair bytes r = ReadsHead pair (length (last_of 10 bytes) == 0) r (pieces 10 bytes)

-- the text is a certificate without a fault for the pair
abbrev pub IsSupported : Pair → List ℕ → Type 0
IsSupported pair bytes = IsChecked pair bytes Yes
