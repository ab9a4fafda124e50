-- A certificate that is written supports the pair.
use Rattle.std.proofs.Common.{◌≡◌, ◌∙◌, ◌<◌, ◌≤◌, ◌+◌, ◌-◌, ◌/◌, ◌==◌, ◌&&◌, leb, ℕ, zero, suc, Bool, true, false, List, [], ◌∷◌, ◌++◌, length, Some, None, Option, refl, sym, ap, ap₂, subst, arith, append_assoc, inl}
use Rattle.std.specs.Prelude.{if◌then◌else◌, flat_map, slice_index}
use Rattle.std.specs.List.{range_with_len}
use Rattle.std.proofs.lemmas.Bool.{eq-eqb, le-leb}
use Rattle.circ_model.specs.Meaning.{Pair, IsSoundPair, places_of, signed, is_odd, literal, left_literal, right_literal}
use Rattle.circ_model.proofs.Rows.{left_literal_is, right_literal_is}
use Rattle.class_partition.specs.Classes.{Classes, ArePartition, Pairs, is_least, least_of, needed, phase_of}
use Rattle.class_partition.proofs.Signs.{signed-self}
use Rattle.cnf_store.specs.Clauses.{Formula}
use Rattle.frame_unroll.specs.Members.{member_pair}
use Rattle.frame_unroll.specs.Unrolled.{Unrolling, from_reset, formula_of, asks, asking}
use Rattle.plain_text.specs.Pieces.{pieces, last_of}
use Rattle.plain_text.proofs.Again.{piece_again}
use Rattle.class_text.specs.ClassLines.{class_lines}
use Rattle.corr_certificate.specs.declared.fault.CertKind.TheVariants as kinds
use Rattle.corr_certificate.specs.declared.fault.Checked.TheVariants.{Yes}
use Rattle.corr_certificate.specs.ClassLines.{none_joined, classes_from}
use Rattle.corr_certificate.specs.Parts.{IsNo, Either, ReadsMembers, base_formula, step_formula}
use Rattle.corr_certificate.specs.Certificate.{Head, PairOutputs, ReadsBody, AfterClasses, same_bit, AfterHead, ReadsHead, IsSupported}
use Rattle.cert_writer.specs.Writing.{head_text, AreMembers, IsMember, IsCertificate, Derives}
use Rattle.cert_writer.proofs.HeadAgain.{head_line, head_split, head_plain, head_again, ends_with}
use Rattle.cert_writer.proofs.PartsAgain.{members_follow, members_read, members_end}
use Rattle.cert_writer.proofs.JoinAgain.{State, relative_phase, nothing_read}
use Rattle.cert_writer.proofs.LinesAgain.{lines_read}

-- classes with the same least places and the same relative phases
record Agree (n : ℕ) (c e : Classes) : Type 0 where
  least : (p : ℕ) → p < n → least_of e p ≡ least_of c p
  phase : (p : ℕ) → p < n → phase_of e p ≡ relative_phase c p

all_read : (n : ℕ) (c e : Classes) → ArePartition n c → State n c n 0 e → Agree n c e
all_read n c e partition s = record {
  least = λ p lt. s.old_least p lt (inl (let low = partition.lower p lt in omega arith));
  phase = λ p lt. s.old_phase p lt (inl (let low = partition.lower p lt in omega arith));
}

-- need the same pairs
needed_same : (n : ℕ) (c e : Classes) (p : ℕ) → ArePartition n c → Agree n c e → p < n → needed e p ≡ needed c p
needed_same n c e p partition a lt =
    let r : ℕ = least_of c p in
    let low = partition.lower p lt in
    let least = a.least p lt in
    let zero_phase : phase_of e (least_of e p) ≡ false =
    ap (phase_of e) least ∙ a.phase r (omega arith) ∙ ap (λ (x : ℕ). signed (phase_of c x) (phase_of c r)) (partition.fixed p lt) ∙ signed-self (phase_of c r) in
    let sign : signed (phase_of e (least_of e p)) (phase_of e p) ≡ relative_phase c p = ap (λ (b : Bool). signed b (phase_of e p)) zero_phase ∙ a.phase p lt in
    ap₂ (λ (x : ℕ) (s : Bool). (literal x false, literal p s)) least sign

pair_same : (n : ℕ) (c e : Classes) (p : ℕ) → ArePartition n c → Agree n c e → p < n → member_pair e p ≡ member_pair c p
pair_same n c e p partition a lt =
    ap₂ (λ (x : ℕ) (q : ℕ × ℕ). if x == p then [] else q ∷ []) (a.least p lt) (needed_same n c e p partition a lt)

pairs_same : (n : ℕ) (c e : Classes) (from count : ℕ) → ArePartition n c → Agree n c e → from + count ≤ n → flat_map (member_pair e) (range_with_len from count) ≡ flat_map (member_pair c) (range_with_len from count)
pairs_same n c e from zero partition a le = refl
pairs_same n c e from (suc count) partition a le =
    ap₂ (λ (x y : List (ℕ × ℕ)). x ++ y) (pair_same n c e from partition a (omega arith)) (pairs_same n c e (from + 1) count partition a (omega arith))

-- ask the same questions
base_same : (pair : Pair) (k : ℕ) (c e : Classes) (p : ℕ) → ArePartition (places_of pair) c → Agree (places_of pair) c e → p < places_of pair → base_formula pair k e p ≡ base_formula pair k c p
base_same pair k c e p partition a lt = ap (λ (x : ℕ × ℕ). formula_of (asking (from_reset pair k) (asks x.0 x.1 0 (k - 1)))) (needed_same (places_of pair) c e p partition a lt)

stepping : Pair → ℕ → List (ℕ × ℕ) → Unrolling
stepping pair k pairs = record { pair = pair; from_reset = false; frames = k + 1; needed = pairs; asked = None }

step_same : (pair : Pair) (k : ℕ) (c e : Classes) (p : ℕ) → ArePartition (places_of pair) c → Agree (places_of pair) c e → p < places_of pair → step_formula pair k e p ≡ step_formula pair k c p
unfolding stepping
step_same pair k c e p partition a lt =
    ap₂ (λ (pairs : List (ℕ × ℕ)) (x : ℕ × ℕ). formula_of (asking (stepping pair k pairs) (asks x.0 x.1 k k))) (pairs_same (places_of pair) c e 0 (places_of pair) partition a (omega arith)) (needed_same (places_of pair) c e p partition a lt)

-- so the parts are the same
members_same : (pair : Pair) (k : ℕ) (c e : Classes) (from count : ℕ) (text : List ℕ) → ArePartition (places_of pair) c → Agree (places_of pair) c e → from + count ≤ places_of pair
    → AreMembers pair k c (range_with_len from count) text → AreMembers pair k e (range_with_len from count) text
members_same pair k c e from zero text partition a le h = h
members_same pair k c e from (suc count) text partition a le h =
    let lt : from < places_of pair = omega arith in
    let least : is_least e from ≡ is_least c from = ap (λ (x : ℕ). x == from) (a.least from lt) in
    subst (λ (b : Bool). Either b (AreMembers pair k e (range_with_len (from + 1) count) text) ((rest : List ℕ) × IsMember pair k e from text rest × AreMembers pair k e (range_with_len (from + 1) count) rest)) (sym least)
    (by (is_least c from) lt (λ t x. members_same pair k c e (from + 1) count t partition a (omega arith) x) h)
  where
    by : (b : Bool) → from < places_of pair → ((t : List ℕ) → AreMembers pair k c (range_with_len (from + 1) count) t → AreMembers pair k e (range_with_len (from + 1) count) t)
        → Either b (AreMembers pair k c (range_with_len (from + 1) count) text) ((rest : List ℕ) × IsMember pair k c from text rest × AreMembers pair k c (range_with_len (from + 1) count) rest)
        → Either b (AreMembers pair k e (range_with_len (from + 1) count) text) ((rest : List ℕ) × IsMember pair k e from text rest × AreMembers pair k e (range_with_len (from + 1) count) rest)
    by true lt onward h = onward text h
    by false lt onward (rest, m, more) = (
      rest,
      record {
        base = m.base;
        step = m.step;
        base_derives = subst (λ (f : Formula). Derives f m.base) (sym (base_same pair k c e from partition a lt)) m.base_derives;
        step_derives = subst (λ (f : Formula). Derives f m.step) (sym (step_same pair k c e from partition a lt)) m.step_derives;
        is = m.is;
      },
      onward rest more,
    )

-- and pair the same outputs
turned : (x t y : Bool) → signed x (signed t y) ≡ signed t (signed x y)
turned true true y = refl
turned true false y = refl
turned false t y = refl

pairs_kept : (n : ℕ) (c e : Classes) (a b : ℕ) → Agree n c e → a / 2 < n → b / 2 < n → Pairs c a b → Pairs e a b
pairs_kept n c e a b agree la lb h =
    let p : ℕ = a / 2 in
    let q : ℕ = b / 2 in
    let s : Bool = phase_of c (least_of c p) in
    let t : Bool = phase_of c (least_of c q) in
    let same : s ≡ t = ap (phase_of c) h.0 in (
      agree.least p la ∙ h.0 ∙ sym (agree.least q lb),
      ap (signed (is_odd a)) (agree.phase p la) ∙ turned (is_odd a) s (phase_of c p) ∙ ap₂ signed same h.1 ∙ sym (turned (is_odd b) t (phase_of c q)) ∙ sym (ap (signed (is_odd b)) (agree.phase q lb)),
    )

outputs_kept : (pair : Pair) (c e : Classes) → IsSoundPair pair → Agree (places_of pair) c e → PairOutputs pair c → PairOutputs pair e
outputs_kept pair c e sound agree all j lt =
    let same = sound.outputs in
    let a : ℕ = left_literal pair (slice_index pair.left.outputs j) in
    let b : ℕ = right_literal pair (slice_index pair.right.outputs j) in
    let la = left_literal_is pair (slice_index pair.left.outputs j) sound (sound.left.all_defined.outputs j 0 lt) in
    let lb = right_literal_is pair (slice_index pair.right.outputs j) sound (sound.right.all_defined.outputs j 0 (omega arith)) in
    pairs_kept (places_of pair) c e a b agree la lb (all j lt)

-- from the classes on
body_reads : (pair : Pair) (k : ℕ) (c e : Classes) (line : ℕ) (parts : List ℕ) → IsSoundPair pair → ArePartition (places_of pair) c → PairOutputs pair c → Agree (places_of pair) c e
    → AreMembers pair k c (range_with_len 0 (places_of pair)) parts → ReadsBody pair k e true Yes line (pieces 10 parts)
body_reads pair k c e line parts sound partition outputs agree are =
    let f = members_follow pair k c 0 (places_of pair) parts sound (omega arith) are in
    let p : pieces 10 parts ≡ f.line ∷ pieces 10 f.rest = ap (pieces 10) f.is ∙ piece_again 10 f.line f.rest f.plain in
    let r = members_read pair k e 0 (places_of pair) parts line sound (omega arith) (members_same pair k c e 0 (places_of pair) parts partition agree (omega arith) are) in
    subst (λ (ls : List (List ℕ)). ReadsBody pair k e true Yes line ls) (sym p)
    (inl (outputs_kept pair c e sound agree outputs, subst (λ (ls : List (List ℕ)). ReadsMembers pair k e true Yes (range_with_len 0 (places_of pair)) line ls) p r))

bit_itself : (b : Bool) → same_bit b b ≡ true
bit_itself true = refl
bit_itself false = refl

after_head : (pair : Pair) (k : ℕ) (c : Classes) (parts : List ℕ) → IsSoundPair pair → 0 < k → k ≤ 16 → ArePartition (places_of pair) c → PairOutputs pair c
    → AreMembers pair k c (range_with_len 0 (places_of pair)) parts → AfterHead pair true Yes (Some (record { k = k; signals = places_of pair; tied = pair.tied })) (pieces 10 (class_lines pair c ++ parts))
after_head pair k c parts sound some few partition outputs are =
    let n : ℕ = places_of pair in
    let f = members_follow pair k c 0 n parts sound (omega arith) are in
    let read = lines_read pair c 0 n (none_joined n) 2 parts sound partition (omega arith) (omega arith) (nothing_read n c) f in
    let low : leb 1 k ≡ true = le-leb 1 k some in
    let high : leb k 16 ≡ true = le-leb k 16 few in
    let depth : (leb 1 k && leb k 16) ≡ true = rw (low, high) refl in
    let signals : (n == n) ≡ true = eq-eqb n n refl in
    let ls : List (List ℕ) = pieces 10 (class_lines pair c ++ parts) in
    let classes : AfterClasses pair k true Yes (classes_from pair (none_joined n) 2 ls) =
    subst (AfterClasses pair k true Yes) (sym read.read) (body_reads pair k c read.classes read.last parts sound partition outputs (all_read n c read.classes partition read.state) are) in
    let read_on : Type 0 = AfterClasses pair k true Yes (classes_from pair (none_joined n) 2 ls) in
    let tied : Either (same_bit pair.tied pair.tied) read_on (IsNo Yes kinds.Tie 1) = subst (λ (b : Bool). Either b read_on (IsNo Yes kinds.Tie 1)) (sym (bit_itself pair.tied)) classes in
    subst (λ (b : Bool). Either b (Either (n == n) (Either (same_bit pair.tied pair.tied) read_on (IsNo Yes kinds.Tie 1)) (IsNo Yes kinds.Signals 1)) (IsNo Yes kinds.Limit 1)) (sym depth)
    (subst (λ (b : Bool). Either b (Either (same_bit pair.tied pair.tied) read_on (IsNo Yes kinds.Tie 1)) (IsNo Yes kinds.Signals 1)) (sym signals) tied)

pub written_supports : (pair : Pair) (k : ℕ) (c : Classes) (text : List ℕ) → IsSoundPair pair → 0 < k → k ≤ 16 → ArePartition (places_of pair) c → PairOutputs pair c → IsCertificate pair k c text → IsSupported pair text
written_supports pair k c text sound some few partition outputs cert =
    let lines : List ℕ = class_lines pair c in
    let (front, last) = members_end pair k c (range_with_len 0 (places_of pair)) cert.parts cert.are in
    let ended : text ≡ (head_text pair k ++ (lines ++ front)) ++ 10 ∷ [] =
    cert.is ∙ ap (λ (l : List ℕ). head_text pair k ++ (lines ++ l)) last ∙ ap (λ (l : List ℕ). head_text pair k ++ l) (sym (append_assoc lines front (10 ∷ []))) ∙ sym (append_assoc (head_text pair k) (lines ++ front) (10 ∷ [])) in
    let end = ends_with 10 (head_text pair k ++ (lines ++ front)) in
    let whole : (length (last_of 10 text) == 0) ≡ true = ap (λ (t : List ℕ). length (last_of 10 t) == 0) ended ∙ ap (λ (l : List ℕ). length l == 0) end.last_is in
    let first : pieces 10 text ≡ head_line pair k ∷ pieces 10 (lines ++ cert.parts) =
    ap (pieces 10) (cert.is ∙ head_split pair k (lines ++ cert.parts)) ∙ piece_again 10 (head_line pair k) (lines ++ cert.parts) (head_plain pair k sound few) in
    subst (λ (b : Bool). ReadsHead pair b Yes (pieces 10 text)) (sym whole)
    (subst (λ (ls : List (List ℕ)). ReadsHead pair true Yes ls) (sym first)
    (subst (λ (o : Option Head). AfterHead pair true Yes o (pieces 10 (lines ++ cert.parts))) (sym (head_again pair k sound few))
    (after_head pair k c cert.parts sound some few partition outputs cert.are)))
