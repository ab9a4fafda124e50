-- Members of a class that are written are read again, name by name, and join their class.
use Rattle.std.proofs.Common.{◌≡◌, ◌≢◌, ◌∙◌, ◌<◌, ◌≤◌, ◌⊎◌, ◌+◌, ◌==◌, leb, ℕ, zero, suc, Bool, true, false, List, [], ◌∷◌, ◌++◌, map, length, replicate, get_or, Some, None, Option, refl, sym, ap, subst, arith, codes, inl, inr, ⊎_elim, length-set}
use Rattle.std.specs.Prelude.{if◌then◌else◌, slice_index, slice_set}
use Rattle.std.proofs.lemmas.Bool.{eq-eqb, ne_eqb, le-leb, cases_eq}
use Rattle.std.proofs.lemmas.List.{length-replicate, get_or-set_same, get_or-set_other}
use Rattle.std.proofs.lemmas.List.FromFn.{get_or-range_with_len, length-range_with_len}
use Rattle.circ_model.specs.Meaning.{Pair, IsSoundPair, places_of, signed}
use Rattle.class_partition.specs.Classes.{Classes, ArePartition, least_of, phase_of}
use Rattle.class_partition.proofs.Signs.{signed-self}
use Rattle.product_machine.specs.Signals.{signal_at}
use Rattle.class_text.specs.ClassLines.{name_of}
use Rattle.class_text.specs.ClassLines.{members_from as members_past}
use Rattle.corr_certificate.specs.ClassLines.{Joining, none_joined, with_sign, member_of, joined, and_join, members_from}
use Rattle.cert_writer.proofs.NamesAgain.{named_again, name_unsigned}

-- a place's phase relative to its class's least place
abbrev pub relative_phase : Classes → ℕ → Bool
relative_phase c q = signed (phase_of c (least_of c q)) (phase_of c q)

-- what has been read: the classes of lower first places, and of this class what stands before a place
abbrev pub IsDone : Classes → ℕ → ℕ → ℕ → Type 0
IsDone c first p q = (least_of c q < first) ⊎ ((least_of c q ≡ first) × (q < p))

-- the classes that have been read so far, of those that were written
pub record State (n : ℕ) (c : Classes) (first p : ℕ) (d : Classes) : Type 0 where
  pub least_len : length d.least ≡ n
  pub phase_len : length d.phase ≡ n
  pub old_least : (q : ℕ) → q < n → IsDone c first p q → least_of d q ≡ least_of c q
  pub old_phase : (q : ℕ) → q < n → IsDone c first p q → phase_of d q ≡ relative_phase c q
  pub new_least : (q : ℕ) → q < n → (IsDone c first p q → ⊥) → least_of d q ≡ q
  pub new_phase : (q : ℕ) → q < n → (IsDone c first p q → ⊥) → phase_of d q ≡ false

bit_replicate : (n q : ℕ) → get_or (replicate n false) q false ≡ false
bit_replicate zero q = refl
bit_replicate (suc n) zero = refl
bit_replicate (suc n) (suc q) = bit_replicate n q

nothing_done : (c : Classes) (q : ℕ) → IsDone c 0 0 q → ⊥
nothing_done c q (inl a) = absurd (omega arith)
nothing_done c q (inr (e, l)) = absurd (omega arith)

pub nothing_read : (n : ℕ) (c : Classes) → State n c 0 0 (none_joined n).classes
nothing_read n c = record {
  least_len = length-range_with_len 0 n;
  phase_len = length-replicate n false;
  old_least = λ q lt h. absurd (nothing_done c q h);
  old_phase = λ q lt h. absurd (nothing_done c q h);
  new_least = λ q lt no. get_or-range_with_len 0 n q 0 lt ∙ omega arith;
  new_phase = λ q lt no. bit_replicate n q;
}

wider : (c : Classes) (first p q : ℕ) → IsDone c first p q → IsDone c first (p + 1) q
wider c first p q (inl a) = inl a
wider c first p q (inr (e, l)) = inr (e, omega arith)

narrower : (c : Classes) (first p q : ℕ) → (q ≢ p) → IsDone c first (p + 1) q → IsDone c first p q
narrower c first p q ne (inl a) = inl a
narrower c first p q ne (inr (e, l)) = inr (e, omega arith)

not_here : (c : Classes) (first p q : ℕ) → (least_of c p ≢ first) → IsDone c first (p + 1) q → IsDone c first p q
not_here c first p q apart (inl a) = inl a
not_here c first p q apart (inr (e, l)) = ⊎_elim
    (λ (z : q ≡ p). absurd (apart (subst (λ (i : ℕ). least_of c i ≡ first) z e)))
    (λ (ne : q ≢ p). inr (e, omega arith))
    (cases_eq q p)

-- a place of another class
passed : (n : ℕ) (c : Classes) (first p : ℕ) (d : Classes) → (least_of c p ≢ first) → State n c first p d → State n c first (p + 1) d
passed n c first p d apart s = record {
  least_len = s.least_len;
  phase_len = s.phase_len;
  old_least = λ q lt h. s.old_least q lt (not_here c first p q apart h);
  old_phase = λ q lt h. s.old_phase q lt (not_here c first p q apart h);
  new_least = λ q lt no. s.new_least q lt (λ h. no (wider c first p q h));
  new_phase = λ q lt no. s.new_phase q lt (λ h. no (wider c first p q h));
}

-- a place of this class
taken : (n : ℕ) (c : Classes) (first p : ℕ) (d : Classes) (sign : Bool) → p < n → least_of c p ≡ first → sign ≡ relative_phase c p → State n c first p d
    → State n c first (p + 1) (record { least = slice_set d.least p first; phase = slice_set d.phase p sign })
taken n c first p d sign lt is same s =
    let ll = s.least_len in
    let pl = s.phase_len in
    record {
      least_len = length-set d.least p first ∙ ll;
      phase_len = length-set d.phase p sign ∙ pl;
      old_least = λ q less h. ⊎_elim
          (λ (z : q ≡ p). ap (slice_index (slice_set d.least p first)) z ∙ get_or-set_same d.least p first 0 (omega arith) ∙ sym is ∙ ap (least_of c) (sym z))
          (λ (ne : q ≢ p). get_or-set_other d.least p q first 0 ne ∙ s.old_least q less (narrower c first p q ne h))
          (cases_eq q p);
      old_phase = λ q less h. ⊎_elim
          (λ (z : q ≡ p). ap (λ (i : ℕ). get_or (slice_set d.phase p sign) i false) z ∙ get_or-set_same d.phase p sign false (omega arith) ∙ same ∙ ap (relative_phase c) (sym z))
          (λ (ne : q ≢ p). get_or-set_other d.phase p q sign false ne ∙ s.old_phase q less (narrower c first p q ne h))
          (cases_eq q p);
      new_least = λ q less no. ⊎_elim
          (λ (z : q ≡ p). absurd (no (inr (ap (least_of c) z ∙ is, omega arith))))
          (λ (ne : q ≢ p). get_or-set_other d.least p q first 0 ne ∙ s.new_least q less (λ h. no (wider c first p q h)))
          (cases_eq q p);
      new_phase = λ q less no. ⊎_elim
          (λ (z : q ≡ p). absurd (no (inr (ap (least_of c) z ∙ is, omega arith))))
          (λ (ne : q ≢ p). get_or-set_other d.phase p q sign false ne ∙ s.new_phase q less (λ h. no (wider c first p q h)))
          (cases_eq q p);
    }

-- a class begins with its first place
same_first : (n : ℕ) (c : Classes) (first q : ℕ) → ArePartition n c → q < n → least_of c q ≡ first → q < first + 1 → least_of c q ≡ q
same_first n c first q partition lt e l = let low = partition.lower q lt in omega arith

none_of_it : (c : Classes) (first q : ℕ) → least_of c q ≡ first → IsDone c first 0 q → ⊥
none_of_it c first q e (inl a) = absurd (omega arith)
none_of_it c first q e (inr (f, l)) = absurd (omega arith)

before_it : (c : Classes) (first q : ℕ) → IsDone c first 0 q → IsDone c first (first + 1) q
before_it c first q (inl a) = inl a
before_it c first q (inr (e, l)) = absurd (omega arith)

pub begins : (n : ℕ) (c : Classes) (first : ℕ) (d : Classes) → ArePartition n c → State n c first 0 d → State n c first (first + 1) d
begins n c first d partition s = record {
  least_len = s.least_len;
  phase_len = s.phase_len;
  old_least = λ q lt h. ⊎_elim
      (λ (a : least_of c q < first). s.old_least q lt (inl a))
      (λ (b : (least_of c q ≡ first) × (q < first + 1)). s.new_least q lt (none_of_it c first q b.0) ∙ sym (same_first n c first q partition lt b.0 b.1))
      h;
  old_phase = λ q lt h. ⊎_elim
      (λ (a : least_of c q < first). s.old_phase q lt (inl a))
      (λ (b : (least_of c q ≡ first) × (q < first + 1)). s.new_phase q lt (none_of_it c first q b.0)
      ∙ sym (ap (λ (r : ℕ). signed (phase_of c r) (phase_of c q)) (same_first n c first q partition lt b.0 b.1) ∙ signed-self (phase_of c q)))
      h;
  new_least = λ q lt no. s.new_least q lt (λ h. no (before_it c first q h));
  new_phase = λ q lt no. s.new_phase q lt (λ h. no (before_it c first q h));
}

-- and ends with its last
all_of_it : (n : ℕ) (c : Classes) (first q : ℕ) → q < n → IsDone c (first + 1) 0 q → IsDone c first n q
all_of_it n c first q lt (inl a) = ⊎_elim
    (λ (e : least_of c q ≡ first). inr (e, lt))
    (λ (ne : least_of c q ≢ first). inl (omega arith))
    (cases_eq (least_of c q) first)
all_of_it n c first q lt (inr (e, l)) = absurd (omega arith)

past_it : (n : ℕ) (c : Classes) (first q : ℕ) → IsDone c first n q → IsDone c (first + 1) 0 q
past_it n c first q (inl a) = inl (omega arith)
past_it n c first q (inr (e, l)) = inl (omega arith)

pub ends : (n : ℕ) (c : Classes) (first : ℕ) (d : Classes) → State n c first n d → State n c (first + 1) 0 d
ends n c first d s = record {
  least_len = s.least_len;
  phase_len = s.phase_len;
  old_least = λ q lt h. s.old_least q lt (all_of_it n c first q lt h);
  old_phase = λ q lt h. s.old_phase q lt (all_of_it n c first q lt h);
  new_least = λ q lt no. s.new_least q lt (λ h. no (past_it n c first q h));
  new_phase = λ q lt no. s.new_phase q lt (λ h. no (past_it n c first q h));
}

-- a member's name, with its sign
abbrev pub word : Pair → Classes → ℕ → ℕ → List ℕ
word pair c first p = (if signed (phase_of c first) (phase_of c p) then codes "!" else []) ++ name_of (signal_at pair p)

member_again : (pair : Pair) (c : Classes) (first p : ℕ) → IsSoundPair pair → p < places_of pair → member_of pair (word pair c first p) ≡ Some (p, signed (phase_of c first) (phase_of c p))
member_again pair c first p sound lt = by (signed (phase_of c first) (phase_of c p))
  where
    by : (b : Bool) → member_of pair ((if b then codes "!" else []) ++ name_of (signal_at pair p)) ≡ Some (p, b)
    by true = ap (with_sign true) (named_again pair p sound lt)
    by false = let t = name_unsigned (signal_at pair p) in rw t (ap (with_sign false) (named_again pair p sound lt))

-- words join one after another
abbrev pub join_all : Pair → ℕ → Joining → List (List ℕ) → Option Joining
join_all pair first j [] = Some j
join_all pair first j (w ∷ ws) = and_join (joined first j (member_of pair w)) (λ i. join_all pair first i ws)

pub as_all : (pair : Pair) (first : ℕ) (j : Joining) (ws : List (List ℕ)) (last : List ℕ) → members_from pair first j ws last ≡ join_all pair first j (ws ++ last ∷ [])
unfolding members_from
as_all pair first j [] last = by (joined first j (member_of pair last))
  where
    by : (o : Option Joining) → o ≡ and_join o (λ i. join_all pair first i [])
    by None = refl
    by (Some i) = refl
as_all pair first j (w ∷ ws) last = by (joined first j (member_of pair w)) (λ i. as_all pair first i ws last)
  where
    by : (o : Option Joining) → ((i : Joining) → members_from pair first i ws last ≡ join_all pair first i (ws ++ last ∷ [])) → and_join o (λ i. members_from pair first i ws last) ≡ and_join o (λ i. join_all pair first i (ws ++ last ∷ []))
    by None f = refl
    by (Some i) f = f i

-- the place p joins
abbrev after_join : ℕ → Joining → ℕ → Bool → Joining
after_join first j p sign = record { classes = record { least = slice_set j.classes.least p first; phase = slice_set j.classes.phase p sign }; next = p + 1 }

unread : (c : Classes) (first p : ℕ) → least_of c p ≡ first → IsDone c first p p → ⊥
unread c first p e (inl a) = absurd (omega arith)
unread c first p e (inr (f, l)) = absurd (omega arith)

joins_one : (n : ℕ) (c : Classes) (first p : ℕ) (j : Joining) (sign : Bool) → p < n → least_of c p ≡ first → j.next ≤ p → State n c first p j.classes → joined first j (Some (p, sign)) ≡ Some (after_join first j p sign)
joins_one n c first p j sign lt is le s =
    let a : leb j.next p ≡ true = le-leb j.next p le in
    let b : (least_of j.classes p == p) ≡ true = eq-eqb (least_of j.classes p) p (s.new_least p lt (unread c first p is)) in
    rw (a, b) refl

-- all members from a place on join
pub join_again : (pair : Pair) (c : Classes) (first p count : ℕ) (j : Joining) → IsSoundPair pair → p + count ≡ places_of pair → j.next ≤ p → State (places_of pair) c first p j.classes
    → (i : Joining) × (join_all pair first j (map (word pair c first) (members_past p count c first)) ≡ Some i) × State (places_of pair) c first (places_of pair) i.classes
join_again pair c first p zero j sound size le s = (j, refl, let e : p ≡ places_of pair = omega arith in subst (λ (m : ℕ). State (places_of pair) c first m j.classes) e s)
join_again pair c first p (suc count) j sound size le s =
    let lt : p < places_of pair = omega arith in
    ⊎_elim
    (λ (is : least_of c p ≡ first).
    let here : (least_of c p == first) ≡ true = eq-eqb (least_of c p) first is in
    let sign : Bool = signed (phase_of c first) (phase_of c p) in
    let same : sign ≡ relative_phase c p = ap (λ (r : ℕ). signed (phase_of c r) (phase_of c p)) (sym is) in
    let (i, e, t) = join_again pair c first (p + 1) count (after_join first j p sign) sound (omega arith) (omega arith) (taken (places_of pair) c first p j.classes sign lt is same s) in
    let m : members_past p (suc count) c first ≡ p ∷ members_past (p + 1) count c first = rw here refl in
    let o : joined first j (member_of pair (word pair c first p)) ≡ Some (after_join first j p sign) = ap (joined first j) (member_again pair c first p sound lt) ∙ joins_one (places_of pair) c first p j sign lt is le s in (
      i,
      ap (λ (ms : List ℕ). join_all pair first j (map (word pair c first) ms)) m
          ∙ ap (λ (x : Option Joining). and_join x (λ y. join_all pair first y (map (word pair c first) (members_past (p + 1) count c first)))) o ∙ e,
      t,
    ))
    (λ (ne : least_of c p ≢ first).
    let here : (least_of c p == first) ≡ false = ne_eqb (least_of c p) first ne in
    let (i, e, t) = join_again pair c first (p + 1) count j sound (omega arith) (omega arith) (passed (places_of pair) c first p j.classes ne s) in
    let m : members_past p (suc count) c first ≡ members_past (p + 1) count c first = rw here refl in
    (i, ap (λ (ms : List ℕ). join_all pair first j (map (word pair c first) ms)) m ∙ e, t))
    (cases_eq (least_of c p) first)
