-- No fault: the outputs agree for ever.
use Rattle.std.proofs.Common.{◌≡◌, ◌<◌, ◌≤◌, ℕ, ◌==◌, ◌&&◌, leb, Bool, true, false, List, [], ◌∷◌, length, slice_index, refl, subst, arith, inl, inr}
use Rattle.std.specs.Prelude.{Option, Some, None, Result, Ok, Err}
use Rattle.std.specs.List.{All}
use Rattle.std.proofs.lemmas.List.FromFn.{length-map-range_with_len, get_or-map-range_with_len}
use Rattle.std.proofs.lemmas.Bool.{leb-true}
use Rattle.circ_model.specs.Meaning.{Pair, IsSoundPair, places_of, outputs_of, left_literal, right_literal}
use Rattle.circ_model.specs.Correspondence.{HoldsIn}
use Rattle.circ_model.specs.Laws.{AgreeForEver}
use Rattle.circ_model.proofs.Greatest.{closed}
use Rattle.circ_model.proofs.Outputs.{paired_agree}
use Rattle.circ_model.proofs.Rows.{left_literal_is, right_literal_is}
use Rattle.class_partition.specs.Classes.{Classes, ArePartition, Passes, needed, needed_pairs}
use Rattle.class_partition.proofs.Partition.{pairs_hold, needed_are_correspondence}
use Rattle.plain_text.specs.Pieces.{pieces, last_of}
use Rattle.corr_certificate.specs.declared.fault.CertKind.TheVariants as kinds
use Rattle.corr_certificate.specs.declared.fault.Checked.TheVariants.{Yes}
use Rattle.corr_certificate.specs.ClassLines.{ClassPart, none_joined, classes_from}
use Rattle.corr_certificate.specs.Parts.{IsNo, Either}
use Rattle.corr_certificate.specs.Certificate.{Head, head_of, PairOutputs, ReadsBody, AfterClasses, same_bit, AfterHead, ReadsHead, IsSupported}
use Rattle.corr_certificate.proofs.Supporting.{never, yes_members}
use Rattle.corr_certificate.proofs.Passing.{passes}
use Rattle.corr_certificate.proofs.Joining.{read_partition}

each_needed : (places : ℕ) (classes : Classes) (P : ℕ × ℕ → Type 0) → All P (needed_pairs places classes) → (p : ℕ) → p < places → P (needed classes p)
each_needed places classes P h p lt =
    subst P (get_or-map-range_with_len (needed classes) 0 places p p (0, 0) lt (omega arith)) (h p (0, 0) (omega (arith, length-map-range_with_len (needed classes) 0 places)))

-- classes whose needed pairs pass, and that pair output j
pub passing_agree : (pair : Pair) (k : ℕ) (classes : Classes) (j : ℕ) → IsSoundPair pair → ArePartition (places_of pair) classes → ((p : ℕ) → p < places_of pair → Passes pair k classes p)
    → PairOutputs pair classes → j < outputs_of pair → AgreeForEver pair j
passing_agree pair k classes j sound is all paired lt =
    let same = sound.outputs in
    let a : ℕ = left_literal pair (slice_index pair.left.outputs j) in
    let b : ℕ = right_literal pair (slice_index pair.right.outputs j) in
    let la = left_literal_is pair (slice_index pair.left.outputs j) sound (sound.left.all_defined.outputs j 0 lt) in
    let lb = right_literal_is pair (slice_index pair.right.outputs j) sound (sound.right.all_defined.outputs j 0 (omega arith)) in
    paired_agree pair k j sound lt (closed pair k (needed_pairs (places_of pair) classes) a b (needed_are_correspondence pair k classes is all) (la, lb)
    (λ bits hold. pairs_hold (places_of pair) classes bits (each_needed (places_of pair) classes (HoldsIn bits) hold) a b la lb (paired j lt)))

body_agrees : (pair : Pair) (k : ℕ) (classes : Classes) (whole : Bool) (n : ℕ) (ls : List (List ℕ)) (j : ℕ) → IsSoundPair pair → ArePartition (places_of pair) classes → 1 ≤ k
    → ReadsBody pair k classes whole Yes n ls → j < outputs_of pair → AgreeForEver pair j
body_agrees pair k classes whole n [] j sound is some h lt = never _ _ h
body_agrees pair k classes whole n (l ∷ ls) j sound is some (inl h) lt =
    passing_agree pair k classes j sound is
    (passes pair k classes sound is some (λ p less. yes_members pair k classes whole 0 (places_of pair) n (l ∷ ls) h.1 p (omega arith) (omega arith))) h.0 lt
body_agrees pair k classes whole n (l ∷ ls) j sound is some (inr h) lt = never _ _ h.1

head_agrees : (pair : Pair) (whole : Bool) (o : Option Head) (ls : List (List ℕ)) (j : ℕ) → IsSoundPair pair → AfterHead pair whole Yes o ls → j < outputs_of pair → AgreeForEver pair j
head_agrees pair whole None ls j sound h lt = never _ _ h
head_agrees pair whole (Some head) ls j sound h lt = by_depth (leb 1 head.k) refl (leb head.k 16) h
  where
    by_classes : 1 ≤ head.k → (r : Result ClassPart ℕ) → classes_from pair (none_joined (places_of pair)) 2 ls ≡ r → AfterClasses pair head.k whole Yes r → AgreeForEver pair j
    by_classes some (Err n) e h = never _ _ h
    by_classes some (Ok p) e h = body_agrees pair head.k p.classes whole p.line p.rest j sound (read_partition pair 2 ls p e) some h lt

    by_tie : 1 ≤ head.k → (b : Bool) → Either b (AfterClasses pair head.k whole Yes (classes_from pair (none_joined (places_of pair)) 2 ls)) (IsNo Yes kinds.Tie 1) → AgreeForEver pair j
    by_tie some true h = by_classes some (classes_from pair (none_joined (places_of pair)) 2 ls) refl h
    by_tie some false h = never _ _ h

    by_signals : 1 ≤ head.k → (b : Bool)
        → Either b (Either (same_bit head.tied pair.tied) (AfterClasses pair head.k whole Yes (classes_from pair (none_joined (places_of pair)) 2 ls)) (IsNo Yes kinds.Tie 1)) (IsNo Yes kinds.Signals 1)
        → AgreeForEver pair j
    by_signals some true h = by_tie some (same_bit head.tied pair.tied) h
    by_signals some false h = never _ _ h

    by_depth : (a : Bool) → leb 1 head.k ≡ a → (b : Bool)
        → Either (a && b)
        (Either (head.signals == places_of pair) (Either (same_bit head.tied pair.tied) (AfterClasses pair head.k whole Yes (classes_from pair (none_joined (places_of pair)) 2 ls)) (IsNo Yes kinds.Tie 1)) (IsNo Yes kinds.Signals 1))
        (IsNo Yes kinds.Limit 1)
        → AgreeForEver pair j
    by_depth true e true h = by_signals (leb-true 1 head.k e) (head.signals == places_of pair) h
    by_depth true e false h = never _ _ h
    by_depth false e b h = never _ _ h

pub supported_agree : (pair : Pair) (bytes : List ℕ) → IsSoundPair pair → IsSupported pair bytes → (j : ℕ) → j < outputs_of pair → AgreeForEver pair j
supported_agree pair bytes sound h j lt = by (pieces 10 bytes) h
  where
    by : (ls : List (List ℕ)) → ReadsHead pair (length (last_of 10 bytes) == 0) Yes ls → AgreeForEver pair j
    by [] h = never _ _ h
    by (l ∷ ls) h = head_agrees pair (length (last_of 10 bytes) == 0) (head_of l) ls j sound h lt
