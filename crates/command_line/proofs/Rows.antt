-- What the rows of a parse hold, where it has no fault: each is of an argument of the command, has a value, and its values pass.
use Rattle.std.proofs.Common.{◌≡◌, ◌∙◌, ◌<◌, ◌&&◌, ◌||◌, ◌++◌, Bool, true, false, not, cond, List, [], ◌∷◌, length, Some, None, find, unwrap_or, sym, ap, subst, refl, arith, append-nil, bytes_eq}
use Rattle.clap.specs.Kinds.{Kinds, or_else, range_kinds, request_kinds}
use Rattle.clap.specs.Facts.{unwrap_or_range}
use Rattle.clap.specs.Faults.{action_fault, repeat_fault, set_fault, use_fault, values_fault}
use Rattle.clap.specs.Walk.{Row, Rule, Text, action_of, arg_by_id, at_row, has_row, more_values, most_values, reading_by, used, used_as, values_or_missing, with_values, without}
use Rattle.clap.specs.declared.builder.action.ArgAction.TheVariants.{Set, SetTrue, Help}
use Rattle.clap.specs.declared.error.kind.ErrorKind.TheVariants.{ArgumentConflict}
use Rattle.clap.specs.declared.parser.matches.ValueSource.{ValueSource}
use Rattle.clap.specs.declared.parser.matches.ValueSource.TheVariants.{CommandLine}

-- a fact of each element
abbrev pub Each : {X : Type 0} → (X → Type 0) → List X → Type 0
Each P [] = Unit {0}
Each P (x ∷ xs) = P x × Each P xs

pub each_more : {X : Type 0} (P : X → Type 0) (xs : List X) (y : X) → Each P xs → P y → Each P (xs ++ y ∷ [])
each_more P [] y h p = (p, tt)
each_more P (x ∷ xs) y h p = (h.0, each_more P xs y h.1 p)

pub each_found : {X : Type 0} (P : X → Type 0) (p : X → Bool) (xs : List X) (a : X) → find p xs ≡ Some a → Each P xs → P a × (p a ≡ true)
each_found P p [] a e h = cc
each_found P p (x ∷ xs) a e h = go (p x) refl e (λ same. each_found P p xs a same h.1)
  where
    go : (b : Bool) → p x ≡ b → cond b (Some x) (find p xs) ≡ Some a → (find p xs ≡ Some a → P a × (p a ≡ true)) → P a × (p a ≡ true)
    go true hit same later = subst (λ y. P y × (p y ≡ true)) (ap (λ o. unwrap_or o x) same) (h.0, hit)
    go false miss same later = later same

-- two steps without a fault
pub no_fault : (a b : Kinds) → or_else a b ≡ [] → (a ≡ []) × (b ≡ [])
no_fault [] b e = (refl, e)
no_fault (k ∷ ks) b e = cc

-- a row is of an argument, has a value, and its values pass
pub record IsRead (c : List Rule) (r : Row) : Type 0 where
  pub rule : Rule
  pub is : arg_by_id c r.id ≡ Some rule
  pub some : 0 < length r.values
  pub values : values_fault rule r.values ≡ []
  pub reading : r.reading ≡ reading_by rule

abbrev pub AreRead : List Rule → List Row → Type 0
AreRead c rows = Each (IsRead c) rows

pub at_end : (id : Text) (change : Row → List Row) (missing rows : List Row) → has_row id rows ≡ false → at_row id change missing rows ≡ rows ++ missing
at_end id change missing [] none = refl
at_end id change missing (r ∷ rs) none = go (bytes_eq r.id id) none (λ h. at_end id change missing rs h)
  where
    go : (b : Bool) → (b || has_row id rs) ≡ false → (has_row id rs ≡ false → at_row id change missing rs ≡ rs ++ missing) → cond b (change r ++ rs) (r ∷ at_row id change missing rs) ≡ r ∷ (rs ++ missing)
    go true h later = cc
    go false h later = ap (λ t. r ∷ t) (later h)

-- values that pass are put
pub put : (c : List Rule) (a : Rule) → arg_by_id c a.id ≡ Some a → (s : ValueSource) (t : Text) (ts : List Text) (rows : List Row) → has_row a.id rows ≡ false
    → values_fault a (t ∷ ts) ≡ [] → AreRead c rows → AreRead c (with_values a.id (reading_by a) s (t ∷ ts) rows)
put c a own s t ts rows none ok g =
    let row : Row = record { id = a.id; values = t ∷ ts; count = None; source = Some s; reading = reading_by a } in
    let read : IsRead c row = record { rule = a; is = own; some = omega arith; values = ok; reading = refl } in
    subst (λ rs. AreRead c rs) (sym (at_end a.id (more_values s (t ∷ ts)) (row ∷ []) rows none)) (each_more (IsRead c) rows row g read)

no_repeat : (b : Bool) → cond (b && not false) (ArgumentConflict ∷ []) [] ≡ [] → b ≡ false
no_repeat true e = cc
no_repeat false e = refl

set_put : (c : List Rule) (a : Rule) → arg_by_id c a.id ≡ Some a → (t : Text) (ts : List Text) (rows : List Row) → set_fault false a (t ∷ ts) rows ≡ []
    → AreRead c rows → AreRead c (with_values a.id (reading_by a) CommandLine (t ∷ ts) (without a.id rows))
set_put c a own t ts rows f g =
    let p = no_fault (repeat_fault false a.id rows) (values_fault a (t ∷ ts)) f in
    let none : has_row a.id rows ≡ false = no_repeat (has_row a.id rows) p.0 in
    let kept : without a.id rows ≡ rows = at_end a.id (λ _. []) [] rows none ∙ append-nil rows in
    subst (λ rs. AreRead c (with_values a.id (reading_by a) CommandLine (t ∷ ts) rs)) (sym kept) (put c a own CommandLine t ts rows none p.1 g)

-- one use of the argument more
abbrev pub KeepsRead : List Rule → Bool → Rule → Type 0
KeepsRead c again a = (values : List Text) (rows : List Row) → use_fault again a values rows ≡ [] → AreRead c rows → AreRead c (used a values rows)

-- an argument that takes one value
pub set_keeps : (c : List Rule) (a : Rule) → arg_by_id c a.id ≡ Some a → action_of a ≡ Set → (unwrap_or_range a.range).start_inclusive ≡ 1 → KeepsRead c false a
set_keeps c a own set least [] rows f g =
    let p = no_fault (range_kinds (unwrap_or_range a.range).start_inclusive (most_values a) 0) _ f in
    let none : range_kinds 1 (most_values a) 0 ≡ [] = subst (λ n. range_kinds n (most_values a) 0 ≡ []) least p.0 in
    cc
set_keeps c a own set least (t ∷ ts) rows f g =
    let p = no_fault (range_kinds (unwrap_or_range a.range).start_inclusive (most_values a) (length (t ∷ ts))) (action_fault (action_of a) false a (t ∷ ts) rows) f in
    let q : set_fault false a (t ∷ ts) rows ≡ [] = subst (λ x. action_fault x false a (t ∷ ts) rows ≡ []) set p.1 in
    subst (λ x. AreRead c (used_as x a.id (reading_by a) (t ∷ ts) rows)) (sym set) (set_put c a own t ts rows q g)

-- a flag
pub flag_keeps : (c : List Rule) (a : Rule) (m : Text) (ms : List Text) → arg_by_id c a.id ≡ Some a → action_of a ≡ SetTrue → a.missing ≡ m ∷ ms → KeepsRead c false a
flag_keeps c a m ms own set missing [] rows f g =
    let p = no_fault (range_kinds (unwrap_or_range a.range).start_inclusive (most_values a) 0) (action_fault (action_of a) false a a.missing rows) f in
    let q : set_fault false a (m ∷ ms) rows ≡ [] = subst (λ v. set_fault false a v rows ≡ []) missing (subst (λ x. action_fault x false a a.missing rows ≡ []) set p.1) in
    subst (λ v. AreRead c (used_as (action_of a) a.id (reading_by a) v rows)) (sym missing)
    (subst (λ x. AreRead c (used_as x a.id (reading_by a) (m ∷ ms) rows)) (sym set) (set_put c a own m ms rows q g))
flag_keeps c a m ms own set missing (t ∷ ts) rows f g =
    let p = no_fault (range_kinds (unwrap_or_range a.range).start_inclusive (most_values a) (length (t ∷ ts))) (action_fault (action_of a) false a (t ∷ ts) rows) f in
    let q : set_fault false a (t ∷ ts) rows ≡ [] = subst (λ x. action_fault x false a (t ∷ ts) rows ≡ []) set p.1 in
    subst (λ x. AreRead c (used_as x a.id (reading_by a) (t ∷ ts) rows)) (sym set) (set_put c a own t ts rows q g)

-- help is never used without a fault
pub help_keeps : (c : List Rule) (a : Rule) → action_of a ≡ Help → KeepsRead c false a
help_keeps c a help values rows f g =
    let p = no_fault (range_kinds (unwrap_or_range a.range).start_inclusive (most_values a) (length values)) (action_fault (action_of a) false a (values_or_missing a values) rows) f in
    let q : request_kinds Help ≡ [] = subst (λ x. action_fault x false a (values_or_missing a values) rows ≡ []) help p.1 in
    cc
