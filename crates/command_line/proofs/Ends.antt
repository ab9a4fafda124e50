-- What a parse has at its end, where it has no fault: each argument that is required, and each with a default.
use Rattle.std.proofs.Common.{◌≡◌, ◌<◌, ◌&&◌, ◌||◌, ◌++◌, ◌⊎◌, inl, inr, Bool, true, false, not, cond, List, [], ◌∷◌, length, Some, None, find, fold, sym, subst, refl, arith, ne_eqb, bytes_eq}
use Rattle.std.specs.List.{list_any}
use Rattle.std.specs.Option.{option_map_or}
use Rattle.std.proofs.lemmas.Slice.Eq.{bytes_eq-Decides}
use Rattle.clap.specs.Kinds.{Kinds, check_kinds, or_else, request_kinds}
use Rattle.clap.specs.Simple.{Shape}
use Rattle.clap.specs.Takes.{is_given}
use Rattle.clap.specs.Facts.{explicit_source}
use Rattle.clap.specs.Faults.{check_fault, default_fault, defaults_fault, given_default_fault, level_fault, settle_fault, values_fault, walk_fault}
use Rattle.clap.specs.Walk.{Names, Row, Rule, Text, action_of, arg_by_id, default_rows, finished, has_row, is_empty, more_values, nothing_held, reading_by, rows_after, settled, walk, walk_from, with_default}
use Rattle.clap.specs.declared.parser.matches.ValueSource.TheVariants.{DefaultValue}
use Rattle.command_line.proofs.Rows.{Each, no_fault, AreRead, KeepsRead, at_end, put}
use Rattle.command_line.proofs.Walking.{IsFineStop, settled_read, walk_fine}

-- an argument is the first with its id
abbrev pub IsOwn : List Rule → Rule → Type 0
IsOwn c a = arg_by_id c a.id ≡ Some a

-- ---- defaults

default_read : (c : List Rule) (rows : List Row) (a : Rule) → IsOwn c a → default_fault rows a ≡ [] → AreRead c rows → AreRead c (with_default rows a)
default_read c rows a own f g = go (has_row a.id rows) refl f
  where
    given : has_row a.id rows ≡ false → (ds : List Text) → cond (is_empty ds) [] (given_default_fault a ds) ≡ [] → AreRead c (default_rows a.id (reading_by a) ds rows)
    given none [] h = g
    given none (t ∷ ts) h =
        let some : is_empty (t ∷ ts) ≡ false = ne_eqb (length (t ∷ ts)) 0 (λ e. omega arith) in
        let passes : given_default_fault a (t ∷ ts) ≡ [] = subst (λ b. cond b [] (given_default_fault a (t ∷ ts)) ≡ []) some h in
        put c a own DefaultValue t ts rows none (no_fault (request_kinds (action_of a)) (values_fault a (t ∷ ts)) passes).1 g

    go : (b : Bool) → has_row a.id rows ≡ b → cond (b || is_empty a.defaults) [] (given_default_fault a a.defaults) ≡ []
        → AreRead c (cond b rows (default_rows a.id (reading_by a) a.defaults rows))
    go true e h = g
    go false e h = given e a.defaults h

defaults_read : (c xs : List Rule) (rows : List Row) → Each (IsOwn c) xs → defaults_fault rows xs ≡ [] → AreRead c rows → AreRead c (fold with_default rows xs)
unfolding defaults_fault
defaults_read c [] rows own f g = g
defaults_read c (a ∷ xs) rows own f g =
    let p = no_fault (default_fault rows a) (defaults_fault (with_default rows a) xs) f in
    defaults_read c xs (with_default rows a) own.1 p.1 (default_read c rows a own.0 p.0 g)

-- ---- rows that are there

row_stays : (id : Text) (rows : List Row) (r : Row) → has_row id rows ≡ true → has_row id (rows ++ r ∷ []) ≡ true
row_stays id [] r h = cc
row_stays id (x ∷ xs) r h = go (bytes_eq x.id id) h (λ e. row_stays id xs r e)
  where
    go : (b : Bool) → (b || has_row id xs) ≡ true → (has_row id xs ≡ true → has_row id (xs ++ r ∷ []) ≡ true) → (b || has_row id (xs ++ r ∷ [])) ≡ true
    go true e more = refl
    go false e more = more e

row_last : (id : Text) (rows : List Row) (r : Row) → bytes_eq r.id id ≡ true → has_row id (rows ++ r ∷ []) ≡ true
row_last id [] r h = rw h refl
row_last id (x ∷ xs) r h = go (bytes_eq x.id id) (row_last id xs r h)
  where
    go : (b : Bool) → has_row id (xs ++ r ∷ []) ≡ true → (b || has_row id (xs ++ r ∷ [])) ≡ true
    go true e = refl
    go false e = e

-- a default keeps the rows
default_stays : (id : Text) (rows : List Row) (a : Rule) → has_row id rows ≡ true → has_row id (with_default rows a) ≡ true
default_stays id rows a h = go (has_row a.id rows) refl
  where
    given : has_row a.id rows ≡ false → (ds : List Text) → has_row id (default_rows a.id (reading_by a) ds rows) ≡ true
    given none [] = h
    given none (t ∷ ts) =
        let row : Row = record { id = a.id; values = t ∷ ts; count = None; source = Some DefaultValue; reading = reading_by a } in
        subst (λ rs. has_row id rs ≡ true) (sym (at_end a.id (more_values DefaultValue (t ∷ ts)) (row ∷ []) rows none)) (row_stays id rows row h)

    go : (b : Bool) → has_row a.id rows ≡ b → has_row id (cond b rows (default_rows a.id (reading_by a) a.defaults rows)) ≡ true
    go true e = h
    go false e = given e a.defaults

defaults_stay : (id : Text) (xs : List Rule) (rows : List Row) → has_row id rows ≡ true → has_row id (fold with_default rows xs) ≡ true
defaults_stay id [] rows h = h
defaults_stay id (a ∷ xs) rows h = defaults_stay id xs (with_default rows a) (default_stays id rows a h)

-- and gives one
default_made : (rows : List Row) (a : Rule) → 0 < length a.defaults → has_row a.id (with_default rows a) ≡ true
default_made rows a some = go (has_row a.id rows) refl
  where
    given : has_row a.id rows ≡ false → (ds : List Text) → 0 < length ds → has_row a.id (default_rows a.id (reading_by a) ds rows) ≡ true
    given none [] lt = absurd (omega arith)
    given none (t ∷ ts) lt =
        let row : Row = record { id = a.id; values = t ∷ ts; count = None; source = Some DefaultValue; reading = reading_by a } in
        subst (λ rs. has_row a.id rs ≡ true) (sym (at_end a.id (more_values DefaultValue (t ∷ ts)) (row ∷ []) rows none))
        (row_last a.id rows row ((bytes_eq-Decides a.id a.id).1 refl))

    go : (b : Bool) → has_row a.id rows ≡ b → has_row a.id (cond b rows (default_rows a.id (reading_by a) a.defaults rows)) ≡ true
    go true e = e
    go false e = given e a.defaults some

-- one of the arguments has this id, and a default
abbrev pub HasDefault : Text → List Rule → Type 0
HasDefault id [] = ⊥
HasDefault id (a ∷ xs) = ((a.id ≡ id) × (0 < length a.defaults)) ⊎ HasDefault id xs

pub default_there : (id : Text) (xs : List Rule) (rows : List Row) → HasDefault id xs → has_row id (fold with_default rows xs) ≡ true
default_there id [] rows h = absurd h
default_there id (a ∷ xs) rows (inl p) = subst (λ i. has_row i (fold with_default rows (a ∷ xs)) ≡ true) p.0 (defaults_stay a.id xs (with_default rows a) (default_made rows a p.1))
default_there id (a ∷ xs) rows (inr h) = default_there id xs (with_default rows a) h

pub given_there : (id : Text) (rows : List Row) → is_given id rows ≡ true → has_row id rows ≡ true
given_there id [] h = cc
given_there id (r ∷ rs) h = go (bytes_eq r.id id) h (λ e. given_there id rs e)
  where
    go : (b : Bool) → option_map_or (λ x. explicit_source x.source) (cond b (Some r) (find (λ x. bytes_eq x.id id) rs)) false ≡ true → (is_given id rs ≡ true → has_row id rs ≡ true)
        → (b || has_row id rs) ≡ true
    go true e more = refl
    go false e more = more e

-- ---- one level

checked : (a b d : Bool) → check_kinds a b d ≡ [] → (b ≡ false) × (d ≡ false)
checked true b d e = cc
checked false true d e = cc
checked false false true e = cc
checked false false false e = (refl, refl)

no_missing : (negates has b : Bool) → negates ≡ false → (not (negates && has) && b) ≡ false → b ≡ false
no_missing true has b is e = cc
no_missing false has b is e = e

none_of : {X : Type 0} (p : X → Bool) (xs : List X) → list_any p xs ≡ false → Each (λ x. p x ≡ false) xs
none_of p [] h = tt
none_of p (x ∷ xs) h = go (p x) refl h (λ e. none_of p xs e)
  where
    go : (b : Bool) → p x ≡ b → (b || list_any p xs) ≡ false → (list_any p xs ≡ false → Each (λ y. p y ≡ false) xs) → (p x ≡ false) × Each (λ y. p y ≡ false) xs
    go true e bad more = cc
    go false e rest more = (e, more rest)

met_one : (has required : Bool) → required ≡ true → (not has && required) ≡ false → has ≡ true
met_one true required is e = refl
met_one false required is e = cc

-- the command's arguments are fit for a parse
pub record IsFit (s : Shape) : Type 0 where
  pub keeps : Each (KeepsRead s.rules s.args_override_self) s.rules
  pub own : Each (IsOwn s.rules) s.rules
  pub negates : s.subcommand_negates_reqs ≡ false

-- what a parse without a fault has
pub record IsRight (s : Shape) (rows : List Row) : Type 0 where
  pub read : AreRead s.rules rows
  pub required : Each (λ (a : Rule). (a.required && not (is_given a.id rows)) ≡ false) s.rules
  pub defaults : (id : Text) → HasDefault id s.rules → has_row id rows ≡ true

pub leaf_right : (s : Shape) → IsFit s → (words : List Text) → level_fault s [] nothing_held words false [] ≡ [] → IsRight s (rows_after s.rules [] words)
leaf_right s fit words f =
    let c = s.rules in
    let end = (walk c [] nothing_held words).held in
    let rows = finished c end in
    let one = no_fault (walk_fault s [] (walk_from nothing_held) words) (or_else (settle_fault c s.args_override_self end) (or_else (defaults_fault (settled c end).rows c) (check_fault s rows false))) f in
    let two = no_fault (settle_fault c s.args_override_self end) (or_else (defaults_fault (settled c end).rows c) (check_fault s rows false)) one.1 in
    let three = no_fault (defaults_fault (settled c end).rows c) (check_fault s rows false) two.1 in
    let walked = walk_fine s fit.keeps [] words (walk_from nothing_held) one.0 (tt, tt) in
    let missing = no_missing s.subcommand_negates_reqs false (list_any (λ a. a.required && not (is_given a.id rows)) c) fit.negates (checked _ _ _ three.1).1 in
    record {
      read = defaults_read c c (settled c end).rows fit.own three.0 (settled_read c s.args_override_self fit.keeps end.pending end.rows two.0 walked.0);
      required = none_of (λ (a : Rule). a.required && not (is_given a.id rows)) c missing;
      defaults = λ id h. default_there id c (settled c end).rows h;
    }

-- a command with subcommands stops at one of them, and not at help
pub top_right : (s : Shape) → IsFit s → s.subcommand_required ≡ true → (names : Names) (words : List Text) (has : Bool) (below : Kinds) → level_fault s names nothing_held words has below ≡ []
    → (has ≡ true) × (below ≡ []) × IsFineStop s.disable_help_subcommand (walk s.rules names nothing_held words).stopped
top_right s fit required names words has below f =
    let c = s.rules in
    let end = (walk c names nothing_held words).held in
    let rows = finished c end in
    let settling = settle_fault c s.args_override_self end in
    let defaulting = defaults_fault (settled c end).rows c in
    let one = no_fault (walk_fault s names (walk_from nothing_held) words) (or_else below (or_else settling (or_else defaulting (check_fault s rows has)))) f in
    let two = no_fault below (or_else settling (or_else defaulting (check_fault s rows has))) one.1 in
    let three = no_fault settling (or_else defaulting (check_fault s rows has)) two.1 in
    let four = no_fault defaulting (check_fault s rows has) three.1 in
    let walked = walk_fine s fit.keeps names words (walk_from nothing_held) one.0 (tt, tt) in
    (met_one has s.subcommand_required required (checked _ _ _ four.1).0, two.0, walked.1)
