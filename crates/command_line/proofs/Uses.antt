-- One use of an argument with a value that it takes: it has no fault, and leaves one row more.
use Rattle.std.proofs.Common.{◌≡◌, ◌∙◌, ◌||◌, ◌++◌, Bool, true, false, List, [], ◌∷◌, Option, Some, None, map, sym, ap, refl, append-nil, bytes_eq, codes}
use Rattle.std.specs.Option.{option_map_or}
use Rattle.std.proofs.lemmas.List.{map-append}
use Rattle.clap.specs.Kinds.{range_kinds}
use Rattle.clap.specs.Facts.{parser_of_value, unwrap_or_range}
use Rattle.clap.specs.Faults.{use_fault}
use Rattle.clap.specs.ValueTests.{accepts}
use Rattle.clap.specs.Walk.{Row, Rule, Text, action_of, arg_by_id, has_row, more_values, most_values, reading_by, takes_several, used, with_values, without}
use Rattle.clap.specs.declared.builder.action.ArgAction.TheVariants.{Set, SetTrue}
use Rattle.clap.specs.declared.builder.value_parser.Reading.{Reading}
use Rattle.clap.specs.declared.builder.value_parser.Reading.TheVariants.{AsWritten}
use Rattle.clap.specs.declared.parser.matches.ValueSource.TheVariants.{CommandLine}
use Rattle.command_line.specs.App.{Argument}
use Rattle.command_line.specs.Plain.{Given, is_given, is_value}
use Rattle.command_line.proofs.Rows.{at_end}

-- the row of an argument that was given
abbrev pub row_with : Text → Text → Reading → Row
row_with id text how = record { id = id; values = text ∷ []; count = None; source = Some CommandLine; reading = how }

abbrev pub reading_at : List Rule → Text → Reading
reading_at c id = option_map_or reading_by (arg_by_id c id) AsWritten

abbrev pub given_row : List Rule → Given → Row
given_row c g = row_with g.id g.text (reading_at c g.id)

abbrev pub given_rows : List Rule → List Given → List Row
given_rows c given = map (given_row c) given

pub row_is_given : (c : List Rule) (id : Text) (given : List Given) → has_row id (given_rows c given) ≡ is_given id given
row_is_given c id [] = refl
row_is_given c id (g ∷ gs) = ap (λ (b : Bool). bytes_eq g.id id || b) (row_is_given c id gs)

-- the rule of an argument that takes one value
pub record IsTaker (c : List Rule) (n : Argument) (a : Rule) : Type 0 where
  pub own : arg_by_id c n.id ≡ Some a
  pub same : a.id ≡ n.id
  pub action : action_of a ≡ Set
  pub range : range_kinds (unwrap_or_range a.range).start_inclusive (most_values a) 1 ≡ []
  pub several : takes_several a ≡ false
  pub most : most_values a ≡ 1
  pub passes : (t : Text) → is_value n.value t ≡ true → accepts a.ignore_case (parser_of_value a.parser) t ≡ true

-- the rule of a flag
pub record IsSetter (c : List Rule) (n : Argument) (a : Rule) : Type 0 where
  pub own : arg_by_id c n.id ≡ Some a
  pub same : a.id ≡ n.id
  pub action : action_of a ≡ SetTrue
  pub range : range_kinds (unwrap_or_range a.range).start_inclusive (most_values a) 0 ≡ []
  pub missing : a.missing ≡ codes "true" ∷ []
  pub passes : accepts a.ignore_case (parser_of_value a.parser) (codes "true") ≡ true

-- the rows with this value more
pub added : (c : List Rule) (a : Rule) (id t : Text) (given : List Given) → arg_by_id c id ≡ Some a → a.id ≡ id → is_given id given ≡ false
    → with_values a.id (reading_by a) CommandLine (t ∷ []) (without a.id (given_rows c given)) ≡ given_rows c (given ++ record { id = id; text = t } ∷ [])
added c a id t given own same fresh =
    let rows = given_rows c given in
    let none : has_row id rows ≡ false = row_is_given c id given ∙ fresh in
    let kept : without id rows ≡ rows = at_end id (λ _. []) [] rows none ∙ append-nil rows in
    let how : reading_by a ≡ reading_at c id = sym (ap (λ (o : Option Rule). option_map_or reading_by o AsWritten) own) in
    let g : Given = record { id = id; text = t } in
    ap (λ (i : Text). with_values i (reading_by a) CommandLine (t ∷ []) (without i rows)) same
    ∙ ap (with_values id (reading_by a) CommandLine (t ∷ [])) kept
    ∙ at_end id (more_values CommandLine (t ∷ [])) (row_with id t (reading_by a) ∷ []) rows none
    ∙ ap (λ (h : Reading). rows ++ row_with id t h ∷ []) how
    ∙ sym (map-append (given_row c) given (g ∷ []))

none_yet : (c : List Rule) (a : Rule) (id : Text) (given : List Given) → a.id ≡ id → is_given id given ≡ false → has_row a.id (given_rows c given) ≡ false
none_yet c a id given same fresh = ap (λ (i : Text). has_row i (given_rows c given)) same ∙ row_is_given c id given ∙ fresh

module _ (c : List Rule) (n : Argument) (a : Rule) (given : List Given) (fresh : is_given n.id given ≡ false) where
  pub value_fine : IsTaker c n a → (again : Bool) (t : Text) → is_value n.value t ≡ true → use_fault again a (t ∷ []) (given_rows c given) ≡ []
  value_fine is again t ok =
      let none = none_yet c a n.id given is.same fresh in
      let passes = is.passes t ok in
      rw (is.range, is.action, none, passes) refl

  pub value_used : IsTaker c n a → (t : Text) → used a (t ∷ []) (given_rows c given) ≡ given_rows c (given ++ record { id = n.id; text = t } ∷ [])
  value_used is t = rw is.action (added c a n.id t given is.own is.same fresh)

  pub flag_fine : IsSetter c n a → (again : Bool) → use_fault again a [] (given_rows c given) ≡ []
  flag_fine is again =
      let none = none_yet c a n.id given is.same fresh in
      rw (is.range, is.action, is.missing, none, is.passes) refl

  pub flag_used : IsSetter c n a → used a [] (given_rows c given) ≡ given_rows c (given ++ record { id = n.id; text = codes "true" } ∷ [])
  flag_used is = rw (is.action, is.missing) (added c a n.id (codes "true") given is.own is.same fresh)
