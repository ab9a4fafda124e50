-- How clap's parse of the command ends, by its fault.
use Rattle.std.proofs.Common.{◌≡◌, ◌≢◌, ◌∙◌, ℕ, true, false, List, [], ◌∷◌, Option, None, Some, IsSome, is_some, option_map, refl, sym, ap, subst, inl, inr}
use Rattle.clap.specs.Words.{App, HasKind, HasMatchesOf, Kinds, fault_of, is_simple_and_free, kind_of, subcommand_rows_of}
use Rattle.clap.specs.Simple.{is_simple}
use Rattle.clap.specs.declared.error.Error.{Error}
use Rattle.clap.specs.declared.error.kind.ErrorKind.TheVariants.{OutOfMemory}
use Rattle.clap.proofs.OnLiterals.{clap_on_literals}
use Rattle.clap.specs.declared.parser.matches.ArgMatches.{ArgMatches}
use Rattle.command_line.specs.declared.command.Command.{Command}
use Rattle.command_line.specs.Asked.{Asked, asked_of}
use Rattle.command_line.specs.Meant.{are_none, is_taken, matched, taken_command}
use Rattle.command_line.specs.App.{sec_app, check_app, replay_app, verify_app, demo_app, climb_app, reduce_app, batch_app}
use Rattle.command_line.proofs.Leaves.{taken_asks}

-- the command has only what clap's own definitions speak of
pub is_simple_command : is_simple_and_free sec_app ≡ true
unfolding clap_on_literals sec_app check_app replay_app verify_app demo_app climb_app reduce_app batch_app
is_simple_command = refl

pub is_plain_command : is_simple sec_app ≡ true
unfolding clap_on_literals sec_app check_app replay_app verify_app demo_app climb_app reduce_app batch_app
is_plain_command = refl

-- a parse that ends well has the matches of the command, which has no fault at the words
pub taken : (words : List (List ℕ)) (app : App) (m : ArgMatches) → app ≡ sec_app → (is_simple_and_free app ≡ true → fault_of app words ≡ []) → HasMatchesOf app words m → taken_command words ≡ matched (subcommand_rows_of m)
taken words app m is none has =
    let free : fault_of sec_app words ≡ [] = subst (λ (a : App). is_simple_and_free a ≡ true → fault_of a words ≡ []) is none is_simple_command in
    let rows = subst (λ (a : App). HasMatchesOf a words m) is has is_plain_command in
    rw (free, ← rows.1) refl

-- and has a command
pub has_command : (words : List (List ℕ)) (app : App) (m : ArgMatches) → app ≡ sec_app → (is_simple_and_free app ≡ true → fault_of app words ≡ []) → HasMatchesOf app words m → is_some (matched (subcommand_rows_of m)) ≡ true
has_command words app m is none has =
    let free : fault_of sec_app words ≡ [] = subst (λ (a : App). is_simple_and_free a ≡ true → fault_of a words ≡ []) is none is_simple_command in
    let rows = subst (λ (a : App). HasMatchesOf a words m) is has is_plain_command in
    rw (rows.1) (taken_asks words free)

-- and one without a fault fails only for want of memory
pub refused : (words : List (List ℕ)) (app : App) (e : Error) → app ≡ sec_app → (is_simple_and_free app ≡ true → HasKind (fault_of app words) e) → kind_of e ≢ OutOfMemory → is_taken words ≡ false
refused words app e is fails other = go (fault_of sec_app words) (subst (λ (a : App). is_simple_and_free a ≡ true → HasKind (fault_of a words) e) is fails is_simple_command)
  where
    go : (kinds : Kinds) → HasKind kinds e → are_none kinds ≡ false
    go [] (inl h) = absurd (other h)
    go [] (inr h) = absurd h
    go (k ∷ ks) h = refl

-- so that the words ask for nothing
pub refused_asks : (words : List (List ℕ)) → is_taken words ≡ false → taken_command words ≡ None
refused_asks words h = rw h refl

-- the command that is there
pub command_there : (o : Option Command) (want : Option Asked) → option_map asked_of o ≡ want → is_some want ≡ true → IsSome o
command_there None want is some = let none : is_some {T = Asked} None ≡ true = subst (λ w. is_some w ≡ true) (sym is) some in cc
command_there (Some c) want is some = refl

pub command_is : (o : Option Command) (c : Command) (want : Option Asked) → option_map asked_of o ≡ want → o ≡ Some c → want ≡ Some (asked_of c)
command_is o c want is at = sym is ∙ ap (option_map asked_of) at
