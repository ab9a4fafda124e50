-- What each call of a builder makes of a command.
use Rattle.std.proofs.Common.{◌≡◌, ◌∙◌, ◌||◌, ◌<◌, ◌+◌, ◌++◌, ℕ, Bool, false, Err, IfOk, List, Ok, Result, [], ◌∷◌, ap, ap₂, get_or, length, map, subst, sym, take}
use Rattle.std.proofs.lemmas.List.{map-append, map_more}
use Rattle.clap.specs.Words.{App, Rule, AddsArg, AddsInTurn, AddsSubcommand, rule_of, with_rule, with_subcommand}
use Rattle.clap.specs.declared.builder.arg.Arg.{Arg}
use Rattle.clap.specs.declared.builder.command.Command.{Command}
use Rattle.command_line.specs.declared.app.Part.{Part}
use Rattle.command_line.specs.declared.app.Subcommand.{Subcommand}
use Rattle.command_line.specs.App.{AreArgsOf, AreCommandsOf, IsCommand, part_rule, subcommand_app, with_parts, with_subcommands}

-- what follows of a value follows of an answer
pub ok_map : {A E : Type 0} (P Q : A → Type 0) (o : Result A E) → ((x : A) → P x → Q x) → IfOk o P → IfOk o Q
ok_map P Q (Ok x) f h = f x h
ok_map P Q (Err x) f h = tt

-- one argument more
pub with_one_rule : (old new : Command) (a : Arg) (app : App) (rule : Rule) → AddsArg old a new → a.global ≡ false → rule_of a ≡ rule → IsCommand app old → IsCommand (with_rule app rule) new
with_one_rule old new a app rule added local is h = record {
  same = added.shape local ∙ ap₂ with_rule h.same is;
  local = added.globals ∙ ap₂ (λ (x y : Bool). x || y) h.local local;
}

-- one subcommand more
pub with_one_subcommand : (old new sub : Command) (app below : App) → AddsSubcommand old sub new → IsCommand below sub → IsCommand app old → IsCommand (with_subcommand app below.top) new
with_one_subcommand old new sub app below added is h = record {
  same = added.shape is.local ∙ ap₂ with_subcommand h.same (ap (λ (a : App). a.top) is.same);
  local = added.globals ∙ ap₂ (λ (x y : Bool). x || y) h.local is.local;
}

-- two lists that are the same begin and go on the same
same_front : {X Y : Type 0} (p q : X × Y) (xs ys : List (X × Y)) → p ∷ xs ≡ q ∷ ys → (p.0 ≡ q.0) × (p.1 ≡ q.1) × (xs ≡ ys)
same_front {X = X} {Y = Y} p q xs ys e =
    let first : p ≡ q = cc in
    (ap (λ (x : X × Y). x.0) first, ap (λ (x : X × Y). x.1) first, cc)

-- arguments in turn
pub with_args : (old new : Command) (args : List Arg) (ps : List Part) (app : App) → AddsInTurn AddsArg old args new → AreArgsOf args ps → IsCommand app old → IsCommand (with_parts app ps) new
with_args old new [] [] app added are is = subst (IsCommand app) added is
with_args old new [] (p ∷ ps) app added are is = cc
with_args old new (a ∷ args) [] app added are is = cc
with_args old new (a ∷ args) (p ∷ ps) app added are is =
    let same = same_front _ _ _ _ are in
    with_args added.0 new args ps (with_rule app (part_rule p)) added.2 same.2 (with_one_rule old added.0 a app (part_rule p) added.1 same.1 same.0 is)

-- subcommands in turn
pub with_commands : (old new : Command) (commands : List Command) (all : List Subcommand) (app : App) → AddsInTurn AddsSubcommand old commands new → AreCommandsOf commands all → IsCommand app old → IsCommand (with_subcommands app all) new
with_commands old new [] [] app added are is = subst (IsCommand app) added is
with_commands old new [] (s ∷ all) app added are is = cc
with_commands old new (c ∷ commands) [] app added are is = cc
with_commands old new (c ∷ commands) (s ∷ all) app added are is =
    let same = same_front _ _ _ _ are in
    let below : IsCommand (subcommand_app s) c = record { same = same.0; local = same.1 } in
    with_commands added.0 new commands all (with_subcommand app (subcommand_app s).top) added.2 same.2 (with_one_subcommand old added.0 c app (subcommand_app s) added.1 below is)

-- a list that grows along another
pub pushed : {X Y Z : Type 0} (f : X → Z) (g : Y → Z) (xs new : List X) (x : X) (ys : List Y) (i : ℕ) (d : Y) → i < length ys → new ≡ xs ++ x ∷ [] → f x ≡ g (get_or ys i d) → map f xs ≡ map g (take i ys) → map f new ≡ map g (take (i + 1) ys)
pushed f g xs new x ys i d lt is here before =
    ap (map f) is ∙ map-append f xs (x ∷ []) ∙ ap₂ (λ zs z. zs ++ z ∷ []) before here ∙ sym (map_more g ys i d lt)
