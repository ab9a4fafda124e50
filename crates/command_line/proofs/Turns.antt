-- One turn of clap's walk over a plain word: where nothing waits, and where an option waits for its value.
use Rattle.std.proofs.Common.{◌≡◌, ◌∙◌, ◌+◌, ◌==◌, ◌&&◌, ◌++◌, ℕ, Bool, true, false, List, [], ◌∷◌, Option, Some, None, min, not, leb, leb-true, ne_eqb, ap, refl, arith, bytes_eq, codes}
use Rattle.std.specs.List.{list_all}
use Rattle.std.specs.Option.{option_map_or}
use Rattle.std.proofs.lemmas.Slice.Eq.{bytes_eq-Decides}
use Rattle.clap.specs.Lexer.{long_of, short_of, usize_max}
use Rattle.clap.specs.Simple.{Shape}
use Rattle.clap.specs.Faults.{settle_fault, turn_fault, use_fault}
use Rattle.clap.specs.Walk.{Held, Row, Rule, Text, Walk, arg_by_index, idle, option, settled_rows, to_positional, walked}
use Rattle.command_line.specs.App.{Argument, Number, Name, Flag, Value}
use Rattle.command_line.specs.Plain.{Given, is_decimal, is_digit, is_given, is_value}
use Rattle.clap.proofs.WalkLemmas.{both}
use Rattle.command_line.proofs.Uses.{IsTaker, given_rows, value_fine, value_used}

-- what is held between two words, and where the walk stands
abbrev pub held : List Row → Option (Text × List Text) → Held
held rows pending = record { rows = rows; pending = pending; skip = 0 }

abbrev pub resting : ℕ → Held → Walk
resting p h = record { held = h; waiting = idle; position = p; is_trailing = false; stopped = None }

abbrev pub awaiting : Text → ℕ → Held → Walk
awaiting id p h = record { held = h; waiting = option id; position = p; is_trailing = false; stopped = None }

-- what is held settles without a fault, and its rows are then those of what was given
pub record IsSettled (s : Shape) (given : List Given) (rows : List Row) (pending : Option (Text × List Text)) : Type 0 where
  pub fine : settle_fault s.rules s.args_override_self (held rows pending) ≡ []
  pub kept : settled_rows s.rules pending rows ≡ given_rows s.rules given

-- a value that is pending settles
pub value_settles : (s : Shape) (n : Argument) (a : Rule) (given : List Given) (t : Text) → IsTaker s.rules n a → is_given n.id given ≡ false → is_value n.value t ≡ true
    → IsSettled s (given ++ record { id = n.id; text = t } ∷ []) (given_rows s.rules given) (Some (n.id, t ∷ []))
value_settles s n a given t is fresh ok = record {
  fine = ap (λ (o : Option Rule). option_map_or (λ x. use_fault s.args_override_self x (t ∷ []) (given_rows s.rules given)) o []) is.own ∙ value_fine s.rules n a given fresh is s.args_override_self t ok;
  kept = rw is.own (value_used s.rules n a given fresh is t);
}

no_long : (x : ℕ) (xs : Text) → (x == 45) ≡ false → long_of (x ∷ xs) ≡ None
no_long x xs e = rw e refl

no_short : (x : ℕ) (xs : Text) → (x == 45) ≡ false → short_of (x ∷ xs) ≡ None
no_short x xs e = rw e refl

-- a word that isn't spelled as an option goes to the positional
name_walked : (s : Shape) (p : ℕ) (h : Held) (x : ℕ) (xs : Text) → (x == 45) ≡ false → walked s.rules [] (resting p h) (x ∷ xs) ≡ to_positional s.rules (arg_by_index s.rules p) (x ∷ xs) (resting p h) h
unfolding walked
name_walked s p h x xs e = let n = no_short x xs e in rw (e, n) refl

never_both : (b d : Bool) → d ≡ false → (b && d) ≡ false
never_both true d e = e
never_both false d e = refl

-- so that it is pending for it
pub positional_next : (s : Shape) (p : ℕ) (rows : List Row) (pending : Option (Text × List Text)) (n : Argument) (a : Rule) (x : ℕ) (xs : Text) → (x == 45) ≡ false
    → IsTaker s.rules n a → arg_by_index s.rules p ≡ Some a → a.trailing_var_arg ≡ false
    → walked s.rules [] (resting p (held rows pending)) (x ∷ xs) ≡ resting (min (p + 1) usize_max) (held (settled_rows s.rules pending rows) (Some (n.id, (x ∷ xs) ∷ [])))
positional_next s p rows pending n a x xs e is at last =
    let h = held rows pending in
    let both = never_both (option_map_or (λ (q : Text × List Text). bytes_eq q.0 a.id) pending false) _ is.several in
    name_walked s p h x xs e ∙ rw (at, both, is.several, is.action, last, is.same) refl

-- and what was held settles
pub positional_fine : (s : Shape) (p : ℕ) (rows : List Row) (pending : Option (Text × List Text)) (n : Argument) (a : Rule) (x : ℕ) (xs : Text) → (x == 45) ≡ false
    → IsTaker s.rules n a → arg_by_index s.rules p ≡ Some a → settle_fault s.rules s.args_override_self (held rows pending) ≡ [] → turn_fault s [] (resting p (held rows pending)) (x ∷ xs) ≡ []
positional_fine s p rows pending n a x xs e is at fine =
    let long = no_long x xs e in
    let short = no_short x xs e in
    let both = never_both (option_map_or (λ (q : Text × List Text). bytes_eq q.0 a.id) pending false) _ is.several in
    rw (e, short, at, both) fine

-- where an option waits the word is its value
pub awaited_next : (s : Shape) (p : ℕ) (rows : List Row) (n : Argument) (a : Rule) (x : ℕ) (xs : Text) → (x == 45) ≡ false → IsTaker s.rules n a
    → walked s.rules [] (awaiting n.id p (held rows (Some (n.id, [])))) (x ∷ xs) ≡ resting p (held rows (Some (n.id, (x ∷ xs) ∷ [])))
unfolding walked
awaited_next s p rows n a x xs e is =
    let short = no_short x xs e in
    let itself : bytes_eq n.id n.id ≡ true = (bytes_eq-Decides n.id n.id).1 refl in
    rw (e, short, is.own, is.same, itself, is.most) refl

pub awaited_fine : (s : Shape) (p : ℕ) (rows : List Row) (n : Argument) (a : Rule) (x : ℕ) (xs : Text) → (x == 45) ≡ false → IsTaker s.rules n a
    → turn_fault s [] (awaiting n.id p (held rows (Some (n.id, [])))) (x ∷ xs) ≡ []
awaited_fine s p rows n a x xs e is =
    let short = no_short x xs e in
    rw (e, short) refl

-- a value begins with no dash
pub record IsPlainWord (word : Text) : Type 0 where
  pub first : ℕ
  pub rest : Text
  pub is : word ≡ first ∷ rest
  pub dashless : (first == 45) ≡ false

pub no_dash : (b : Bool) → not b ≡ true → b ≡ false
no_dash true e = cc
no_dash false e = refl

pub value_is_plain : (v : Value) (word : Text) → is_value v word ≡ true → IsPlainWord word
value_is_plain Flag word e = record { first = 116; rest = 114 ∷ 117 ∷ 101 ∷ []; is = (bytes_eq-Decides word (codes "true")).0 e; dashless = refl }
value_is_plain Name [] e = cc
value_is_plain Name (x ∷ xs) e = record { first = x; rest = xs; is = refl; dashless = no_dash (x == 45) e }
value_is_plain (Number least most) [] e = cc
value_is_plain (Number least most) (x ∷ xs) e =
    let decimal = (both (is_decimal (x ∷ xs)) _ e).0 in
    let all = (both _ (list_all is_digit (x ∷ xs)) decimal).1 in
    let digit = (both (is_digit x) (list_all is_digit xs) all).0 in
    let low = leb-true 48 x (both (leb 48 x) (leb x 57) digit).0 in
    record { first = x; rest = xs; is = refl; dashless = ne_eqb x 45 (λ same. omega (arith, low, same)) }
