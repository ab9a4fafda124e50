-- The classes that are read are a partition.
use Rattle.std.proofs.Common.{length, ◌≡◌, ◌∙◌, ◌<◌, ◌≤◌, ℕ, ◌+◌, ◌==◌, leb, Bool, true, false, List, [], ◌∷◌, slice_index, refl, sym, ap, subst, arith, ⊎_elim, length-set}
use Rattle.std.specs.Prelude.{if◌then◌else◌, drop, Option, Some, None, unwrap_or, Result, Ok, Err, slice_set, codes}
use Rattle.std.specs.List.{range_with_len}
use Rattle.std.proofs.lemmas.Bool.{cases_eq, eqb-true, leb-true, and_parts}
use Rattle.std.proofs.lemmas.List.{get_or-set_same, get_or-set_other, length-replicate}
use Rattle.std.proofs.lemmas.List.FromFn.{get_or-range_with_len, length-range_with_len}
use Rattle.std.proofs.lemmas.List.Quantifiers.{position-Some}
use Rattle.circ_model.specs.declared.netlist.Signal.{Signal}
use Rattle.circ_model.specs.declared.netlist.Signal.TheVariants.{Const}
use Rattle.circ_model.specs.Meaning.{Pair, places_of}
use Rattle.class_partition.specs.Classes.{Classes, ArePartition, least_of}
use Rattle.product_machine.specs.Cells.{signals}
use Rattle.product_machine.proofs.Size.{length_signals}
use Rattle.plain_text.specs.Pieces.{pieces, last_of}
use Rattle.corr_certificate.specs.Names.{stripped, is_signal, place_of, named, signal_of}
use Rattle.corr_certificate.specs.ClassLines.{Joining, ClassPart, none_joined, with_sign, member_of, may_join, joined, and_join, members_from, after_first, begun, class_words, or_refused, line_or_end, class_part, classes_from}

-- a partition in which no place at or past a bound is the least of another one
pub record IsOpen (n bound : ℕ) (c : Classes) : Type 0 where
  pub partition : ArePartition n c
  pub above : (q : ℕ) → q < n → bound ≤ least_of c q → least_of c q ≡ q

-- each place alone
pub none_open : (n : ℕ) → IsOpen n 0 (none_joined n).classes
none_open n =
    let at : (p : ℕ) → p < n → slice_index (range_with_len 0 n) p ≡ p = λ p lt. get_or-range_with_len 0 n p 0 lt ∙ omega arith in
    record {
      partition = record {
        least_len = length-range_with_len 0 n;
        phase_len = length-replicate n false;
        lower = λ p lt. let e = at p lt in omega arith;
        fixed = λ p lt. ap (slice_index (range_with_len 0 n)) (at p lt);
      };
      above = λ q lt low. at q lt;
    }

-- a place that is alone joins the class of a lower first place
join_open : (n first m : ℕ) (sign : Bool) (c : Classes) → IsOpen n (first + 1) c → first < m → m < n → least_of c first ≡ first → least_of c m ≡ m
    → IsOpen n (first + 1) (record { least = slice_set c.least m first; phase = slice_set c.phase m sign })
join_open n first m sign c is less lt own alone =
    let l = is.partition.least_len in
    let here : slice_index (slice_set c.least m first) m ≡ first = get_or-set_same c.least m first 0 (omega arith) in
    let other : (q : ℕ) → (q ≡ m → ⊥) → slice_index (slice_set c.least m first) q ≡ least_of c q = λ q ne. get_or-set_other c.least m q first 0 ne in
    let not_first : first ≡ m → ⊥ = λ e. omega arith in
    let not_m : (q : ℕ) → q < n → (q ≡ m → ⊥) → least_of c q ≡ m → ⊥ = λ q short ne e. ne (sym (is.above q short (omega arith)) ∙ e) in
    record {
      partition = record {
        least_len = length-set c.least m first ∙ l;
        phase_len = length-set c.phase m sign ∙ is.partition.phase_len;
        lower = λ q short. ⊎_elim
            (λ (e : q ≡ m). let h : slice_index (slice_set c.least m first) q ≡ first = ap (slice_index (slice_set c.least m first)) e ∙ here in omega arith)
            (λ (ne : q ≡ m → ⊥). let h = other q ne in let low = is.partition.lower q short in omega arith)
            (cases_eq q m);
        fixed = λ q short. ⊎_elim
            (λ (e : q ≡ m).
            let h : slice_index (slice_set c.least m first) q ≡ first = ap (slice_index (slice_set c.least m first)) e ∙ here in
            ap (slice_index (slice_set c.least m first)) h ∙ other first not_first ∙ own ∙ sym h)
            (λ (ne : q ≡ m → ⊥).
            let h = other q ne in
            ap (slice_index (slice_set c.least m first)) h ∙ other (least_of c q) (not_m q short ne) ∙ is.partition.fixed q short ∙ sym h)
            (cases_eq q m);
      };
      above = λ q short low. ⊎_elim
          (λ (e : q ≡ m). let h : slice_index (slice_set c.least m first) q ≡ first = ap (slice_index (slice_set c.least m first)) e ∙ here in absurd (omega arith))
          (λ (ne : q ≡ m → ⊥). let h = other q ne in h ∙ is.above q short (omega arith))
          (cases_eq q m);
    }

-- a name's place is one of the pair's
pub named_within : (pair : Pair) (name : List ℕ) (p : ℕ) → named pair name ≡ Some p → p < places_of pair
named_within pair name p e = by (signal_of name) e
  where
    by : (o : Option Signal) → place_of pair o ≡ Some p → p < places_of pair
    by None e = absurd cc
    by (Some s) e = let h = position-Some (is_signal s) (signals pair) p Const e in omega (arith, h.0, length_signals pair)

-- so is a member's
abbrev Within : Pair → Option (ℕ × Bool) → Type 0
Within pair o = (m : ℕ × Bool) → o ≡ Some m → m.0 < places_of pair

sign_within : (pair : Pair) (name : List ℕ) (sign : Bool) → Within pair (with_sign sign (named pair name))
sign_within pair name sign m e = by (named pair name) refl e
  where
    by : (o : Option ℕ) → named pair name ≡ o → with_sign sign o ≡ Some m → m.0 < places_of pair
    by None n e = absurd cc
    by (Some p) n e = let same : p ≡ m.0 = ap (λ (x : Option (ℕ × Bool)). (unwrap_or x m).0) e in omega (arith, named_within pair name p n)

member_within : (pair : Pair) (word : List ℕ) → Within pair (member_of pair word)
member_within pair word = by (slice_index word 0 == 33)
  where
    by : (b : Bool) → Within pair (if b then with_sign true (named pair (drop 1 word)) else with_sign false (named pair word))
    by true = sign_within pair (drop 1 word) true
    by false = sign_within pair word false

-- what holds while the members of a class are read
pub record IsGoing (n first : ℕ) (j : Joining) : Type 0 where
  pub is_open : IsOpen n (first + 1) j.classes
  pub past : first < j.next
  pub own : least_of j.classes first ≡ first

abbrev with_member : ℕ → Joining → ℕ × Bool → Joining
with_member first j m = record { classes = record { least = slice_set j.classes.least m.0 first; phase = slice_set j.classes.phase m.0 m.1 }; next = m.0 + 1 }

joined_going : (pair : Pair) (first : ℕ) (j : Joining) (o : Option (ℕ × Bool)) (i : Joining) → Within pair o → IsGoing (places_of pair) first j → joined first j o ≡ Some i → IsGoing (places_of pair) first i
joined_going pair first j None i within is e = absurd cc
joined_going pair first j (Some m) i within is e = by (may_join j m.0) refl e
  where
    going : (leb j.next m.0 ≡ true) × ((least_of j.classes m.0 == m.0) ≡ true) → IsGoing (places_of pair) first (with_member first j m)
    going (late, alone) =
        let le = leb-true j.next m.0 late in
        let past = is.past in
        record {
          is_open = join_open (places_of pair) first m.0 m.1 j.classes is.is_open (omega arith) (within m refl) is.own (eqb-true (least_of j.classes m.0) m.0 alone);
          past = omega arith;
          own = get_or-set_other j.classes.least m.0 first first 0 (λ (x : first ≡ m.0). omega arith) ∙ is.own;
        }

    by : (b : Bool) → may_join j m.0 ≡ b → (if b then Some (with_member first j m) else None) ≡ Some i → IsGoing (places_of pair) first i
    by true t e = subst (IsGoing (places_of pair) first) (ap (λ (x : Option Joining). unwrap_or x i) e) (going (and_parts (leb j.next m.0) (least_of j.classes m.0 == m.0) t))
    by false t e = absurd cc

members_going : (pair : Pair) (first : ℕ) (j : Joining) (ws : List (List ℕ)) (last : List ℕ) (i : Joining) → IsGoing (places_of pair) first j → members_from pair first j ws last ≡ Some i → IsGoing (places_of pair) first i
unfolding members_from
members_going pair first j [] last i is e = joined_going pair first j (member_of pair last) i (member_within pair last) is e
members_going pair first j (w ∷ ws) last i is e = by (λ x going due. members_going pair first x ws last i going due) (joined first j (member_of pair w)) refl e
  where
    by : ((x : Joining) → IsGoing (places_of pair) first x → members_from pair first x ws last ≡ Some i → IsGoing (places_of pair) first i)
        → (o : Option Joining) → joined first j (member_of pair w) ≡ o → and_join o (λ (x : Joining). members_from pair first x ws last) ≡ Some i → IsGoing (places_of pair) first i
    by rest None t e = absurd cc
    by rest (Some x) t e = rest x (joined_going pair first j (member_of pair w) x (member_within pair w) is t) e

-- what holds between class lines
abbrev Holds : ℕ → Joining → Type 0
Holds n j = IsOpen n j.next j.classes

abbrev started : Joining → ℕ → Joining
started j p = record { classes = j.classes; next = p + 1 }

begun_holds : (pair : Pair) (j : Joining) (o : Option ℕ) (ws : List (List ℕ)) (last : List ℕ) (i : Joining) → Holds (places_of pair) j → begun pair j o ws last ≡ Some i → Holds (places_of pair) i
begun_holds pair j None ws last i is e = absurd cc
begun_holds pair j (Some p) ws last i is e = by (may_join j p) refl e
  where
    ended : IsGoing (places_of pair) p (started j p) → (o : Option Joining) → members_from pair p (started j p) ws last ≡ o → after_first p o ≡ Some i → IsOpen (places_of pair) i.next i.classes
    ended going None t e = absurd cc
    ended going (Some x) t e =
        let all = members_going pair p (started j p) ws last x going t in
        let same : record { classes = x.classes; next = p + 1 } ≡ i = ap (λ (y : Option Joining). unwrap_or y i) e in
        subst (λ (y : Joining). IsOpen (places_of pair) y.next y.classes) same all.is_open

    by : (b : Bool) → may_join j p ≡ b → (if b then after_first p (members_from pair p (started j p) ws last) else None) ≡ Some i → IsOpen (places_of pair) i.next i.classes
    by false t e = absurd cc
    by true t e =
        let (late, alone) = and_parts (leb j.next p) (least_of j.classes p == p) t in
        let le = leb-true j.next p late in
        ended (record {
          is_open = record { partition = is.partition; above = λ q lt low. is.above q lt (omega arith) };
          past = omega arith;
          own = eqb-true (least_of j.classes p) p alone;
        }) (members_from pair p (started j p) ws last) refl e

class_holds : (pair : Pair) (j : Joining) (ws : List (List ℕ)) (last : List ℕ) (i : Joining) → Holds (places_of pair) j → class_words pair j ws last ≡ Some i → Holds (places_of pair) i
class_holds pair j [] last i is e = absurd cc
class_holds pair j (w ∷ ws) last i is e = begun_holds pair j (named pair w) ws last i is e

abbrev the_ok : ClassPart → Result ClassPart ℕ
the_ok x = Ok x

from_ok : (x y : ClassPart) → the_ok x ≡ the_ok y → x ≡ y
from_ok x y e = ap (λ (r : Result ClassPart ℕ). part_or r y) e
  where
    part_or : Result ClassPart ℕ → ClassPart → ClassPart
    part_or (Ok z) d = z
    part_or (Err n) d = d

lines_partition : (pair : Pair) (j : Joining) (n : ℕ) (ls : List (List ℕ)) (p : ClassPart) → Holds (places_of pair) j → classes_from pair j n ls ≡ Ok p → ArePartition (places_of pair) p.classes
unfolding classes_from
lines_partition pair j n [] p is e = subst (λ (c : Classes). ArePartition (places_of pair) c) (ap (λ (x : ClassPart). x.classes) (from_ok _ p e)) is.partition
lines_partition pair j n (l ∷ ls) p is e = by (λ i holds due. lines_partition pair i (n + 1) ls p holds due) (stripped (codes "class ") l) e
  where
    by_line : ((i : Joining) → IsOpen (places_of pair) i.next i.classes → classes_from pair i (n + 1) ls ≡ Ok p → ArePartition (places_of pair) p.classes)
        → (o : Option Joining) (text : List ℕ) → class_words pair j (pieces 32 text) (last_of 32 text) ≡ o → or_refused o n (λ (i : Joining). classes_from pair i (n + 1) ls) ≡ Ok p → ArePartition (places_of pair) p.classes
    by_line rest None text t e = absurd cc
    by_line rest (Some i) text t e = rest i (class_holds pair j (pieces 32 text) (last_of 32 text) i is t) e

    by : ((i : Joining) → IsOpen (places_of pair) i.next i.classes → classes_from pair i (n + 1) ls ≡ Ok p → ArePartition (places_of pair) p.classes)
        → (o : Option (List ℕ)) → line_or_end pair j o n (Ok (class_part j.classes n (l ∷ ls))) (λ (i : Joining). classes_from pair i (n + 1) ls) ≡ Ok p → ArePartition (places_of pair) p.classes
    by rest None e = subst (λ (c : Classes). ArePartition (places_of pair) c) (ap (λ (x : ClassPart). x.classes) (from_ok _ p e)) is.partition
    by rest (Some text) e = by_line rest (class_words pair j (pieces 32 text) (last_of 32 text)) text refl e

-- the classes of a certificate's class lines
pub read_partition : (pair : Pair) (n : ℕ) (ls : List (List ℕ)) (p : ClassPart) → classes_from pair (none_joined (places_of pair)) n ls ≡ Ok p → ArePartition (places_of pair) p.classes
read_partition pair n ls p e = lines_partition pair (none_joined (places_of pair)) n ls p (none_open (places_of pair)) e

pub are_read : (pair : Pair) (j : Joining) (n places line : ℕ) (ls rest : List (List ℕ)) (c : Classes) → places ≡ places_of pair → j ≡ none_joined places → classes_from pair j n ls ≡ Ok (class_part c line rest)
    → ArePartition (length c.least) c × (length c.least ≡ places_of pair)
are_read pair j n places line ls rest c e f h =
    let is : ArePartition (places_of pair) c = read_partition pair n ls (class_part c line rest) (ap (λ (i : Joining). classes_from pair i n ls) (sym (f ∙ ap none_joined e)) ∙ h) in
    (subst (λ (m : ℕ). ArePartition m c) (sym is.least_len) is, is.least_len)
