-- What words mean: plain words what they say, and other words what clap's matches say, where clap takes them.
use Rattle.std.specs.Prelude.{◌≡◌, ℕ, Bool, true, false, if◌then◌else◌, List, [], ◌∷◌, codes, bytes_eq, Option, None, Some}
use Rattle.std.specs.Str.Parse.{digits_value, without_leading_plus}
use Rattle.clap.specs.Words.{Kinds, Row, fault_of, first_of, one_of, subcommand_of}
use Rattle.clap.specs.ValueTests.{is_unsigned_in}
use Rattle.command_line.specs.declared.app.Subcommand.{Subcommand}
use Rattle.command_line.specs.declared.app.Subcommand.TheVariants as subcommands
use Rattle.command_line.specs.Asked.{Asked, Values, batch_of, check_of, climb_of, demo_of, reduce_of, replay_of, verify_of}
use Rattle.command_line.specs.App.{batch_line, check_line, climb_line, demo_line, reduce_line, replay_line, sec_app, verify_line}
use Rattle.command_line.specs.Plain.{plain_command}

-- the number that a text spells for clap, where it is within these limits: decimal, maybe with zeros or a plus before it
abbrev pub number_in : ℕ → ℕ → Option (List ℕ) → Option ℕ
number_in least most None = None
number_in least most (Some text) = if is_unsigned_in least most text then Some (digits_value 10 (without_leading_plus text)) else None

abbrev pub number_of : List ℕ → ℕ → ℕ → List Row → Option ℕ
number_of id least most rows = number_in least most (one_of id rows)

abbrev pub is_true : Option (List ℕ) → Bool
is_true None = false
is_true (Some text) = bytes_eq text (codes "true")

abbrev pub has_flag : List ℕ → List Row → Bool
has_flag id rows = is_true (first_of id rows)

-- what clap's matches have of the arguments
abbrev pub values_matched : List Row → Values
values_matched rows = record {
  text = λ id. first_of id rows;
  size = λ id most. number_of id 0 most rows;
  number = λ id most. number_of id 1 most rows;
  optional = λ id most. number_of id 1 most rows;
  flag = λ id. has_flag id rows;
}

-- what the values ask for under each subcommand
abbrev pub asked_under : Subcommand → Values → Option Asked
asked_under subcommands.Check v = check_of v
asked_under subcommands.Replay v = replay_of v
asked_under subcommands.Verify v = verify_of v
asked_under subcommands.Demo v = demo_of v
asked_under subcommands.Climb v = climb_of v
asked_under subcommands.Reduce v = reduce_of v
asked_under subcommands.Batch v = batch_of v

abbrev pub asked_where_named : Option Subcommand → List Row → Option Asked
asked_where_named None rows = None
asked_where_named (Some s) rows = asked_under s (values_matched rows)

-- what clap's matches say, by the name of the subcommand
abbrev pub matched : Option (List ℕ × List Row) → Option Asked
matched None = None
matched (Some m) =
    if bytes_eq m.0 check_line.command then check_of (values_matched m.1)
    else if bytes_eq m.0 replay_line.command then replay_of (values_matched m.1)
    else if bytes_eq m.0 verify_line.command then verify_of (values_matched m.1)
    else if bytes_eq m.0 demo_line.command then demo_of (values_matched m.1)
    else if bytes_eq m.0 climb_line.command then climb_of (values_matched m.1)
    else if bytes_eq m.0 reduce_line.command then reduce_of (values_matched m.1)
    else if bytes_eq m.0 batch_line.command then batch_of (values_matched m.1)
    else None

abbrev pub are_none : Kinds → Bool
are_none [] = true
are_none (k ∷ ks) = false

-- clap takes the words: there is no kind of error that it may end with but want of memory
abbrev pub is_taken : List (List ℕ) → Bool
is_taken words = are_none (fault_of sec_app words)

-- what words that clap takes ask for
abbrev pub taken_command : List (List ℕ) → Option Asked
taken_command words = if is_taken words then matched (subcommand_of sec_app words) else None

abbrev pub or_else : Option Asked → Option Asked → Option Asked
or_else None other = other
or_else (Some asked) other = Some asked

-- what words ask for, if anything
unfoldable pub meant : List (List ℕ) → Option Asked
meant words = or_else (plain_command words) (taken_command words)

-- words that ask for nothing: they aren't plain, and clap doesn't take them
pub record AreNoCommand (words : List (List ℕ)) : Type 0 where
  pub plain : plain_command words ≡ None
  pub taken : is_taken words ≡ false
