-- Where clap's walk over plain words stands: what it holds settles to what was given, or an option waits for its value; and the names
-- that are still to come have their places.
use Rattle.std.proofs.Common.{◌≡◌, ◌+◌, ◌||◌, ◌++◌, ℕ, Bool, true, false, List, [], ◌∷◌, Option, Some, None, min, refl, bytes_eq}
use Rattle.clap.specs.Lexer.{usize_max}
use Rattle.clap.specs.Simple.{Shape}
use Rattle.clap.specs.Faults.{react_fault, settle_fault, turn_fault}
use Rattle.clap.specs.Walk.{Row, Rule, Text, Walk, arg_by_index, settled_rows, used, walked}
use Rattle.command_line.specs.App.{Argument, Value, Flag}
use Rattle.command_line.specs.Plain.{Given, Reading, is_given, word_of}
use Rattle.clap.proofs.WalkLemmas.{both}
use Rattle.command_line.proofs.Rows.{Each}
use Rattle.command_line.proofs.Distinct.{apart_of, are_distinct, each_back, each_both, each_front, each_weaker, is_apart, other_way}
use Rattle.command_line.proofs.Uses.{IsSetter, IsTaker, given_rows}
use Rattle.command_line.proofs.Turns.{IsSettled, awaiting, held, resting}

-- ---- the arguments of a line are those of the command

-- clap meets an option at its word, and waits for its value
pub record IsValueOption (s : Shape) (o : Argument) : Type 0 where
  pub rule : Rule
  pub taker : IsTaker s.rules o rule
  pub met : (p : ℕ) (rows : List Row) (pending : Option (Text × List Text)) → walked s.rules [] (resting p (held rows pending)) (word_of o) ≡ awaiting o.id p (held (settled_rows s.rules pending rows) (Some (o.id, [])))
  pub fine : (p : ℕ) (rows : List Row) (pending : Option (Text × List Text)) → settle_fault s.rules s.args_override_self (held rows pending) ≡ [] → turn_fault s [] (resting p (held rows pending)) (word_of o) ≡ []

-- clap meets a flag at its word
pub record IsFlagOption (s : Shape) (o : Argument) : Type 0 where
  pub rule : Rule
  pub setter : IsSetter s.rules o rule
  pub met : (p : ℕ) (rows : List Row) (pending : Option (Text × List Text)) → walked s.rules [] (resting p (held rows pending)) (word_of o) ≡ resting p (held (used rule [] (settled_rows s.rules pending rows)) None)
  pub fine : (p : ℕ) (rows : List Row) (pending : Option (Text × List Text)) → react_fault s.rules s.args_override_self rule [] (held rows pending) ≡ [] → turn_fault s [] (resting p (held rows pending)) (word_of o) ≡ []

abbrev pub IsOptionBy : Value → Shape → Argument → Type 0
IsOptionBy Flag s o = IsFlagOption s o
IsOptionBy value s o = IsValueOption s o

abbrev pub IsOption : Shape → Argument → Type 0
IsOption s o = IsOptionBy o.value s o

-- the argument at a position takes the name
pub record IsPositional (s : Shape) (p : ℕ) (n : Argument) : Type 0 where
  pub rule : Rule
  pub taker : IsTaker s.rules n rule
  pub at : arg_by_index s.rules p ≡ Some rule
  pub last : rule.trailing_var_arg ≡ false

abbrev pub ArePositional : Shape → ℕ → List Argument → Type 0
ArePositional s p [] = Unit {0}
ArePositional s p (n ∷ ns) = IsPositional s p n × ArePositional s (min (p + 1) usize_max) ns

-- an id is none of theirs
abbrev pub IsApart : Text → List Argument → Type 0
IsApart id ns = Each (λ n. bytes_eq id n.id ≡ false) ns

abbrev pub AreApart : List Argument → Type 0
AreApart [] = Unit {0}
AreApart (n ∷ ns) = IsApart n.id ns × AreApart ns

-- the first of them are apart
pub front_apart : (xs ys : List Argument) → are_distinct (λ n. n.id) (xs ++ ys) ≡ true → AreApart xs
front_apart [] ys h = tt
front_apart (x ∷ xs) ys h =
    let q = both (is_apart (λ n. n.id) x.id (xs ++ ys)) (are_distinct (λ n. n.id) (xs ++ ys)) h in
    (each_front (λ n. bytes_eq x.id n.id ≡ false) xs ys (apart_of (λ n. n.id) x.id (xs ++ ys) q.0), front_apart xs ys q.1)

nothing_to_show : (ys : List Argument) → Each (λ (y : Argument). Unit {0}) ys
nothing_to_show [] = tt
nothing_to_show (y ∷ ys) = (tt, nothing_to_show ys)

-- and the others apart from these
pub back_apart : (xs ys : List Argument) → are_distinct (λ n. n.id) (xs ++ ys) ≡ true → Each (λ y. IsApart y.id xs) ys
back_apart [] ys h = nothing_to_show ys
back_apart (x ∷ xs) ys h =
    let q = both (is_apart (λ n. n.id) x.id (xs ++ ys)) (are_distinct (λ n. n.id) (xs ++ ys)) h in
    let apart = each_back (λ n. bytes_eq x.id n.id ≡ false) xs ys (apart_of (λ n. n.id) x.id (xs ++ ys) q.0) in
    let turned = each_weaker (λ n. bytes_eq x.id n.id ≡ false) (λ n. bytes_eq n.id x.id ≡ false) ys (λ n e. other_way x.id n.id e) apart in
    each_both (λ y. bytes_eq y.id x.id ≡ false) (λ y. IsApart y.id xs) ys turned (back_apart xs ys q.1)

-- ---- the names that are still to come

abbrev pub AreToCome : List Argument → List Given → Type 0
AreToCome names given = Each (λ n. is_given n.id given ≡ false) names

still_to_come : (id : Text) (given : List Given) (g : Given) → is_given id given ≡ false → bytes_eq g.id id ≡ false → is_given id (given ++ g ∷ []) ≡ false
still_to_come id [] g e d = rw d refl
still_to_come id (x ∷ xs) g e d = go (bytes_eq x.id id) e (λ h. still_to_come id xs g h d)
  where
    go : (b : Bool) → (b || is_given id xs) ≡ false → (is_given id xs ≡ false → is_given id (xs ++ g ∷ []) ≡ false) → (b || is_given id (xs ++ g ∷ [])) ≡ false
    go true h more = cc
    go false h more = more h

all_to_come : (names : List Argument) (given : List Given) (g : Given) → AreToCome names given → IsApart g.id names → AreToCome names (given ++ g ∷ [])
all_to_come [] given g h d = tt
all_to_come (n ∷ ns) given g h d = (still_to_come n.id given g h.0 d.0, all_to_come ns given g h.1 d.1)

apart_from_rest : (n : Argument) (ns options : List Argument) → Each (λ o. IsApart o.id (n ∷ ns)) options → Each (λ o. IsApart o.id ns) options
apart_from_rest n ns [] h = tt
apart_from_rest n ns (o ∷ os) h = (h.0.1, apart_from_rest n ns os h.1)

-- they have the places from p on, weren't given, and have ids of their own
pub record AreAhead (s : Shape) (options : List Argument) (p : ℕ) (names : List Argument) (given : List Given) : Type 0 where
  pub at : ArePositional s p names
  pub to_come : AreToCome names given
  pub apart : AreApart names
  pub others : Each (λ o. IsApart o.id names) options

-- another argument is given
pub still_ahead : (s : Shape) (options : List Argument) (p : ℕ) (names : List Argument) (given : List Given) (g : Given) → AreAhead s options p names given → IsApart g.id names → AreAhead s options p names (given ++ g ∷ [])
still_ahead s options p names given g h apart = record { at = h.at; to_come = all_to_come names given g h.to_come apart; apart = h.apart; others = h.others }

-- the first of them is given
pub rest_ahead : (s : Shape) (options : List Argument) (p : ℕ) (n : Argument) (ns : List Argument) (given : List Given) (text : Text) → AreAhead s options p (n ∷ ns) given
    → AreAhead s options (min (p + 1) usize_max) ns (given ++ record { id = n.id; text = text } ∷ [])
rest_ahead s options p n ns given text h = record {
  at = h.at.1;
  to_come = all_to_come ns given (record { id = n.id; text = text }) h.to_come.1 h.apart.0;
  apart = h.apart.1;
  others = apart_from_rest n ns options h.others;
}

-- ---- where the walk stands

-- an option waits for its value
pub record IsDue (s : Shape) (o : Argument) (r : Reading) (rows : List Row) (pending : Option (Text × List Text)) : Type 0 where
  pub rule : Rule
  pub taker : IsTaker s.rules o rule
  pub is : pending ≡ Some (o.id, [])
  pub kept : rows ≡ given_rows s.rules r.given
  pub fresh : is_given o.id r.given ≡ false
  pub apart : IsApart o.id r.names

abbrev pub IsHeld : Shape → Option Argument → Reading → List Row → Option (Text × List Text) → Type 0
IsHeld s None r rows pending = IsSettled s r.given rows pending
IsHeld s (Some o) r rows pending = IsDue s o r rows pending

pub record Stands (s : Shape) (options : List Argument) (r : Reading) (p : ℕ) (rows : List Row) (pending : Option (Text × List Text)) : Type 0 where
  pub held : IsHeld s r.due r rows pending
  pub ahead : AreAhead s options p r.names r.given

abbrev pub place : Option Argument → ℕ → List Row → Option (Text × List Text) → Walk
place None p rows pending = resting p (held rows pending)
place (Some o) p rows pending = awaiting o.id p (held rows pending)

-- after one word more
pub record IsNext (s : Shape) (options : List Argument) (w : Walk) (word : Text) (r : Reading) : Type 0 where
  pub position : ℕ
  pub rows : List Row
  pub pending : Option (Text × List Text)
  pub stands : Stands s options r position rows pending
  pub is : walked s.rules [] w word ≡ place r.due position rows pending
  pub fine : turn_fault s [] w word ≡ []
