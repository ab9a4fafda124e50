-- Class lines that are written are read again.
use Rattle.std.proofs.Common.{◌≡◌, ◌≢◌, ◌∙◌, ◌<◌, ◌≤◌, ◌+◌, ◌-◌, ◌==◌, leb, ℕ, zero, suc, Bool, true, false, List, [], ◌∷◌, ◌++◌, map, Some, None, Option, Ok, refl, sym, ap, subst, arith, codes, append_assoc, append-nil, ⊎_elim, inl, inr}
use Rattle.std.specs.Prelude.{if◌then◌else◌, flat_map}
use Rattle.std.specs.List.{AllByRecursion, range_with_len}
use Rattle.std.proofs.lemmas.Bool.{eq-eqb, le-leb, cases_eq}
use Rattle.circ_model.specs.Meaning.{Pair, IsSoundPair, places_of, signed}
use Rattle.class_partition.specs.Classes.{Classes, ArePartition, least_of, phase_of}
use Rattle.class_partition.proofs.Signs.{signed-self}
use Rattle.product_machine.specs.Signals.{signal_at}
use Rattle.plain_text.specs.Pieces.{pieces, last_of}
use Rattle.plain_text.proofs.Again.{piece_again, last_again}
use Rattle.class_text.specs.ClassLines.{name_of, member_text, class_line, class_line_of}
use Rattle.class_text.specs.ClassLines.{members_from as members_past}
use Rattle.class_text.proofs.Linking.{all_members, member_here, skip_to, line_of_none, long_line}
use Rattle.corr_certificate.specs.Names.{named}
use Rattle.corr_certificate.specs.ClassLines.{Joining, class_part, may_join, members_from, after_first, begun, class_words, or_refused, line_or_end, classes_from}
use Rattle.cert_writer.proofs.NamesAgain.{small_at, named_again, name_plain}
use Rattle.cert_writer.proofs.HeadAgain.{only_again}
use Rattle.cert_writer.proofs.PartsAgain.{Follows}
use Rattle.cert_writer.proofs.JoinAgain.{IsDone, State, begins, ends, word, join_all, as_all, join_again}

-- words, each after a space
abbrev pub spaced : List (List ℕ) → List ℕ
spaced [] = []
spaced (w ∷ ws) = 32 ∷ (w ++ spaced ws)

spaced_text : (pair : Pair) (c : Classes) (first : ℕ) (ms : List ℕ) → flat_map (member_text pair c first) ms ≡ spaced (map (word pair c first) ms)
spaced_text pair c first [] = refl
spaced_text pair c first (m ∷ ms) = ap (λ (l : List ℕ). 32 ∷ (word pair c first m ++ l)) (spaced_text pair c first ms)

abbrev pub AreWithout : ℕ → List (List ℕ) → Type 0
AreWithout b [] = Unit {0}
AreWithout b (w ∷ ws) = AllByRecursion (λ d. d ≢ b) w × AreWithout b ws

word_without : (pair : Pair) (c : Classes) (first p b : ℕ) → IsSoundPair pair → p < places_of pair → b < 33 → AllByRecursion (λ d. d ≢ b) (word pair c first p)
word_without pair c first p b sound lt low = by (signed (phase_of c first) (phase_of c p))
  where
    by : (s : Bool) → AllByRecursion (λ d. d ≢ b) ((if s then codes "!" else []) ++ name_of (signal_at pair p))
    by true = ((λ e. omega arith), name_plain b (signal_at pair p) (omega arith) (small_at pair p sound lt))
    by false = name_plain b (signal_at pair p) (omega arith) (small_at pair p sound lt)

words_without : (pair : Pair) (c : Classes) (first p count b : ℕ) → IsSoundPair pair → p + count ≤ places_of pair → b < 33 → AreWithout b (map (word pair c first) (members_past p count c first))
words_without pair c first p zero b sound le low = tt
words_without pair c first p (suc count) b sound le low = by (least_of c p == first) (words_without pair c first (p + 1) count b sound (omega arith) low)
  where
    by : (t : Bool) → AreWithout b (map (word pair c first) (members_past (p + 1) count c first)) → AreWithout b (map (word pair c first) (if t then p ∷ members_past (p + 1) count c first else members_past (p + 1) count c first))
    by true h = (word_without pair c first p b sound (omega arith) low, h)
    by false h = h

all_both : (b : ℕ) (xs ys : List ℕ) → AllByRecursion (λ d. d ≢ b) xs → AllByRecursion (λ d. d ≢ b) ys → AllByRecursion (λ d. d ≢ b) (xs ++ ys)
all_both b [] ys p q = q
all_both b (x ∷ xs) ys p q = (p.0, all_both b xs ys p.1 q)

spaced_without : (b : ℕ) (ws : List (List ℕ)) → b < 32 → AreWithout b ws → AllByRecursion (λ d. d ≢ b) (spaced ws)
spaced_without b [] low all = tt
spaced_without b (w ∷ ws) low all = ((λ e. omega arith), all_both b w (spaced ws) all.0 (spaced_without b ws low all.1))

-- the words of a line are those that were written
words_again : (w : List ℕ) (ws : List (List ℕ)) → AreWithout 32 (w ∷ ws) → pieces 32 (w ++ spaced ws) ++ last_of 32 (w ++ spaced ws) ∷ [] ≡ w ∷ ws
words_again w [] all =
    let h = only_again 32 w all.0 in
    ap (λ (t : List ℕ). pieces 32 t ++ last_of 32 t ∷ []) (append-nil w) ∙ ap (λ (ps : List (List ℕ)). ps ++ last_of 32 w ∷ []) h.0 ∙ ap (λ (l : List ℕ). l ∷ []) h.1
words_again w (x ∷ xs) all =
    let rest : List ℕ = x ++ spaced xs in
    ap (λ (ps : List (List ℕ)). ps ++ last_of 32 (w ++ 32 ∷ rest) ∷ []) (piece_again 32 w rest all.0)
    ∙ ap (λ (l : List ℕ). w ∷ (pieces 32 rest ++ l ∷ [])) (last_again 32 w rest all.0)
    ∙ ap (λ (ps : List (List ℕ)). w ∷ ps) (words_again x xs all.1)

-- a class line's words, which are names of two members or more
record IsClass (pair : Pair) (c : Classes) (first : ℕ) (j : Joining) (words : List (List ℕ)) : Type 0 where
  joining : Joining
  read : class_words pair j (pieces 32 (name_of (signal_at pair first) ++ spaced words)) (last_of 32 (name_of (signal_at pair first) ++ spaced words)) ≡ Some joining
  next : joining.next ≡ first + 1
  state : State (places_of pair) c (first + 1) 0 joining.classes

class_again : (pair : Pair) (c : Classes) (first : ℕ) (j : Joining) (w : List ℕ) (ws : List (List ℕ)) → IsSoundPair pair → ArePartition (places_of pair) c → first < places_of pair → least_of c first ≡ first
    → j.next ≤ first → State (places_of pair) c first 0 j.classes → map (word pair c first) (members_past (first + 1) (places_of pair - (first + 1)) c first) ≡ w ∷ ws → IsClass pair c first j (w ∷ ws)
class_again pair c first j w ws sound partition lt least le s e =
    let n : ℕ = places_of pair in
    let name : List ℕ = name_of (signal_at pair first) in
    let rest : List ℕ = w ++ spaced ws in
    let start : Joining = record { classes = j.classes; next = first + 1 } in
    let plain : AllByRecursion (λ d. d ≢ 32) name = name_plain 32 (signal_at pair first) (omega arith) (small_at pair first sound lt) in
    let without : AreWithout 32 (w ∷ ws) = subst (AreWithout 32) e (words_without pair c first (first + 1) (n - (first + 1)) 32 sound (omega arith) (omega arith)) in
    let (i, read, t) = join_again pair c first (first + 1) (n - (first + 1)) start sound (omega arith) (omega arith) (begins n c first j.classes partition s) in
    let late : leb j.next first ≡ true = le-leb j.next first le in
    let alone : (least_of j.classes first == first) ≡ true = eq-eqb (least_of j.classes first) first (s.new_least first lt (unread c first least)) in
    let may : may_join j first ≡ true = rw (late, alone) refl in
    record {
      joining = record { classes = i.classes; next = first + 1 };
      read =
          ap (λ (ps : List (List ℕ)). class_words pair j ps (last_of 32 (name ++ 32 ∷ rest))) (piece_again 32 name rest plain)
          ∙ ap (λ (l : List ℕ). begun pair j (named pair name) (pieces 32 rest) l) (last_again 32 name rest plain)
          ∙ ap (λ (o : Option ℕ). begun pair j o (pieces 32 rest) (last_of 32 rest)) (named_again pair first sound lt)
          ∙ ap (λ (b : Bool). if b then after_first first (members_from pair first start (pieces 32 rest) (last_of 32 rest)) else None) may
          ∙ ap (after_first first) (as_all pair first start (pieces 32 rest) (last_of 32 rest) ∙ ap (join_all pair first start) (words_again w ws without ∙ sym e) ∙ read);
      next = refl;
      state = ends n c first i.classes t;
    }
  where
    unread : (c : Classes) (first : ℕ) → least_of c first ≡ first → IsDone c first 0 first → ⊥
    unread c first e (inl a) = absurd (omega arith)
    unread c first e (inr (f, l)) = absurd (omega arith)

abbrev the_some : Joining → Option Joining
the_some i = Some i

-- a class of one is passed by
some_is : (i j : Joining) → the_some i ≡ the_some j → i ≡ j
some_is i j e = ap (λ (o : Option Joining). or_else o j) e
  where
    or_else : Option Joining → Joining → Joining
    or_else None d = d
    or_else (Some x) d = x

alone_passed : (pair : Pair) (c : Classes) (first : ℕ) (j : Joining) → IsSoundPair pair → ArePartition (places_of pair) c → first < places_of pair → j.next ≤ first → State (places_of pair) c first 0 j.classes
    → members_past (first + 1) (places_of pair - (first + 1)) c first ≡ [] → State (places_of pair) c (first + 1) 0 j.classes
alone_passed pair c first j sound partition lt le s e =
    let n : ℕ = places_of pair in
    let (i, read, t) = join_again pair c first (first + 1) (n - (first + 1)) j sound (omega arith) (omega arith) (begins n c first j.classes partition s) in
    let same : j ≡ i = some_is j i (ap (λ (ms : List ℕ). join_all pair first j (map (word pair c first) ms)) (sym e) ∙ read) in
    ends n c first j.classes (subst (λ (x : Joining). State n c first n x.classes) (sym same) t)

none_past : (places first : ℕ) (c : Classes) → ArePartition places c → first < places → (least_of c first ≢ first) → members_past (first + 1) (places - (first + 1)) c first ≡ []
none_past places first c partition lt apart =
    let none : places - places ≡ 0 = omega arith in
    skip_to places (first + 1) places c first (omega arith) (omega arith) (λ q ge less e. apart (subst (λ (r : ℕ). least_of c r ≡ r) e (partition.fixed q less)))
    ∙ ap (λ n. members_past places n c first) none

-- what reading class lines comes to
pub record AreRead (pair : Pair) (c : Classes) (j : Joining) (line : ℕ) (text rest : List ℕ) : Type 0 where
  pub classes : Classes
  pub last : ℕ
  pub read : classes_from pair j line (pieces 10 text) ≡ Ok (class_part classes last (pieces 10 rest))
  pub state : State (places_of pair) c (places_of pair) 0 classes

ended : (pair : Pair) (c : Classes) (from : ℕ) (j : Joining) (line : ℕ) (rest : List ℕ) → from ≡ places_of pair → State (places_of pair) c from 0 j.classes → Follows rest → AreRead pair c j line rest rest
unfolding classes_from
ended pair c from j line rest e s f =
    let p : pieces 10 rest ≡ f.line ∷ pieces 10 f.rest = ap (pieces 10) f.is ∙ piece_again 10 f.line f.rest f.plain in
    record {
      classes = j.classes;
      last = line;
      read = subst (λ (ls : List (List ℕ)). classes_from pair j line ls ≡ Ok (class_part j.classes line ls)) (sym p)
          (ap (λ (o : Option (List ℕ)). line_or_end pair j o line (Ok (class_part j.classes line (f.line ∷ pieces 10 f.rest))) (λ i. classes_from pair i (line + 1) (pieces 10 f.rest))) f.no_class);
      state = subst (λ (m : ℕ). State (places_of pair) c m 0 j.classes) e s;
    }

-- one class line, and those behind it
line_read : (pair : Pair) (c : Classes) (from : ℕ) (j : Joining) (line : ℕ) (words : List (List ℕ)) (text more rest : List ℕ) → (k : IsClass pair c from j words)
    → text ≡ (codes "class " ++ (name_of (signal_at pair from) ++ spaced words)) ++ 10 ∷ more → AllByRecursion (λ d. d ≢ 10) (codes "class " ++ (name_of (signal_at pair from) ++ spaced words))
    → AreRead pair c k.joining (line + 1) more rest → AreRead pair c j line text rest
unfolding classes_from
line_read pair c from j line words text more rest k is plain onward =
    let body : List ℕ = name_of (signal_at pair from) ++ spaced words in
    let p : pieces 10 text ≡ (codes "class " ++ body) ∷ pieces 10 more = ap (pieces 10) is ∙ piece_again 10 (codes "class " ++ body) more plain in
    record {
      classes = onward.classes;
      last = onward.last;
      read = ap (classes_from pair j line) p ∙ ap (λ (o : Option Joining). or_refused o line (λ i. classes_from pair i (line + 1) (pieces 10 more))) k.read ∙ onward.read;
      state = onward.state;
    }

class_plain : (pair : Pair) (c : Classes) (first : ℕ) (words : List (List ℕ)) → IsSoundPair pair → first < places_of pair → AreWithout 10 words → AllByRecursion (λ d. d ≢ 10) (codes "class " ++ (name_of (signal_at pair first) ++ spaced words))
class_plain pair c first words sound lt all = (
  (λ e. omega arith),
  (
    (λ e. omega arith),
    (
      (λ e. omega arith),
      (
        (λ e. omega arith),
        (
          (λ e. omega arith),
          (
            (λ e. omega arith),
            all_both 10 (name_of (signal_at pair first)) (spaced words) (name_plain 10 (signal_at pair first) (omega arith) (small_at pair first sound lt)) (spaced_without 10 words (omega arith) all),
          ),
        ),
      ),
    ),
  ),
)

-- the text of a class line
class_text : (pair : Pair) (c : Classes) (first m : ℕ) (ms : List ℕ) → ArePartition (places_of pair) c → first < places_of pair → least_of c first ≡ first → members_past (first + 1) (places_of pair - (first + 1)) c first ≡ m ∷ ms
    → class_line pair c first ≡ (codes "class " ++ (name_of (signal_at pair first) ++ spaced (map (word pair c first) (m ∷ ms)))) ++ 10 ∷ []
class_text pair c first m ms partition lt least e =
    let n : ℕ = places_of pair in
    let name : List ℕ = name_of (signal_at pair first) in
    let all : _ ≡ first ∷ m ∷ ms = all_members n first c partition lt ∙ member_here n first c first lt least ∙ ap (λ (l : List ℕ). first ∷ l) e in
    let unsigned : word pair c first first ≡ name = ap (λ (b : Bool). (if b then codes "!" else []) ++ name) (signed-self (phase_of c first)) in
    ap (class_line_of pair c first) all ∙ long_line pair c first first m ms
    ∙ ap (λ (l : List ℕ). codes "class" ++ (l ++ 10 ∷ [])) (spaced_text pair c first (first ∷ m ∷ ms))
    ∙ ap (λ (l : List ℕ). codes "class" ++ ((32 ∷ (l ++ spaced (map (word pair c first) (m ∷ ms)))) ++ 10 ∷ [])) unsigned

-- all class lines from a place on
pub lines_read : (pair : Pair) (c : Classes) (from count : ℕ) (j : Joining) (line : ℕ) (rest : List ℕ) → IsSoundPair pair → ArePartition (places_of pair) c → from + count ≡ places_of pair
    → j.next ≤ from → State (places_of pair) c from 0 j.classes → Follows rest → AreRead pair c j line (flat_map (class_line pair c) (range_with_len from count) ++ rest) rest
lines_read pair c from zero j line rest sound partition size le s f = ended pair c from j line rest (omega arith) s f
lines_read pair c from (suc count) j line rest sound partition size le s f =
    ⊎_elim
    (λ (least : least_of c from ≡ from). by least (members_past (from + 1) (places_of pair - (from + 1)) c from) refl (λ i m lower t. lines_read pair c (from + 1) count i m rest sound partition (omega arith) lower t f))
    (λ (apart : least_of c from ≢ from).
    passed_by (line_of_none pair c from partition (omega arith) apart) (none_past (places_of pair) from c partition (omega arith) apart) (λ i m lower t. lines_read pair c (from + 1) count i m rest sound partition (omega arith) lower t f))
    (cases_eq (least_of c from) from)
  where
    passed_by : class_line pair c from ≡ [] → members_past (from + 1) (places_of pair - (from + 1)) c from ≡ []
        → ((i : Joining) (m : ℕ) → i.next ≤ from + 1 → State (places_of pair) c (from + 1) 0 i.classes → AreRead pair c i m (flat_map (class_line pair c) (range_with_len (from + 1) count) ++ rest) rest)
        → AreRead pair c j line ((class_line pair c from ++ flat_map (class_line pair c) (range_with_len (from + 1) count)) ++ rest) rest
    passed_by none e onward =
        subst (λ (l : List ℕ). AreRead pair c j line ((l ++ flat_map (class_line pair c) (range_with_len (from + 1) count)) ++ rest) rest) (sym none)
        (onward j line (omega arith) (alone_passed pair c from j sound partition (omega arith) le s e))

    by : least_of c from ≡ from → (ms : List ℕ) → members_past (from + 1) (places_of pair - (from + 1)) c from ≡ ms
        → ((i : Joining) (m : ℕ) → i.next ≤ from + 1 → State (places_of pair) c (from + 1) 0 i.classes → AreRead pair c i m (flat_map (class_line pair c) (range_with_len (from + 1) count) ++ rest) rest)
        → AreRead pair c j line ((class_line pair c from ++ flat_map (class_line pair c) (range_with_len (from + 1) count)) ++ rest) rest
    by least [] e onward =
        let lt : from < places_of pair = omega arith in
        passed_by (ap (class_line_of pair c from) (all_members (places_of pair) from c partition lt ∙ member_here (places_of pair) from c from lt least ∙ ap (λ (l : List ℕ). from ∷ l) e)) e onward
    by least (m ∷ ms) e onward =
        let lt : from < places_of pair = omega arith in
        let words : List (List ℕ) = map (word pair c from) (m ∷ ms) in
        let head : List ℕ = codes "class " ++ (name_of (signal_at pair from) ++ spaced words) in
        let more : List ℕ = flat_map (class_line pair c) (range_with_len (from + 1) count) in
        let k = class_again pair c from j (word pair c from m) (map (word pair c from) ms) sound partition lt least le s (ap (map (word pair c from)) e) in
        let without : AreWithout 10 words = subst (λ (l : List ℕ). AreWithout 10 (map (word pair c from) l)) e (words_without pair c from (from + 1) (places_of pair - (from + 1)) 10 sound (omega arith) (omega arith)) in
        let is : (class_line pair c from ++ more) ++ rest ≡ head ++ 10 ∷ (more ++ rest) =
        ap (λ (l : List ℕ). (l ++ more) ++ rest) (class_text pair c from m ms partition lt least e)
        ∙ ap (λ (l : List ℕ). l ++ rest) (append_assoc head (10 ∷ []) more)
        ∙ append_assoc head (10 ∷ more) rest in
        let next = k.next in
        line_read pair c from j line words ((class_line pair c from ++ more) ++ rest) (more ++ rest) rest k is (class_plain pair c from words sound lt without) (onward k.joining (line + 1) (omega arith) k.state)
