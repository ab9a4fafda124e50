-- The lines of the usage text, and the command that is made of them for clap: a required subcommand for each line, and nothing else
-- but clap's own help.
use Rattle.std.specs.Prelude.{◌≡◌, ℕ, Bool, true, false, codes, List, [], ◌∷◌, Some, fold, map}
use Rattle.clap.specs.Words.{App, Rule, Shape, Text, new_app, new_rule, with_rule, with_subcommand, app_of, rule_of}
use Rattle.clap.specs.Simple.{on_top}
use Rattle.clap.specs.declared.builder.action.ArgAction.TheVariants.{Set, SetTrue}
use Rattle.clap.specs.declared.builder.arg.Arg.{Arg}
use Rattle.clap.specs.declared.builder.command.Command.{Command}
use Rattle.clap.specs.declared.builder.command.Command.TheViews.{out-Command as fields_of}
use Rattle.clap.specs.declared.builder.value_parser.ValueParser.TheVariants as readers
use Rattle.command_line.specs.declared.app.Part.{Part}
use Rattle.command_line.specs.declared.app.Part.TheVariants as parts
use Rattle.command_line.specs.declared.app.Subcommand.{Subcommand}
use Rattle.command_line.specs.declared.app.Subcommand.TheVariants as subcommands
use Rattle.command_line.specs.Asked.{most_depth, most_search_depth, most_size, most_workers}

-- how an argument is spelled: a name by its place, an option as `-k` or as `--trace`
pub data Spelling : Type 0 where
  Place : Spelling
  Short : ℕ → Spelling
  Long : Text → Spelling

-- the value of an argument: a flag has none, and a number is within its limits
pub data Value : Type 0 where
  Flag : Value
  Name : Value
  Number : ℕ → ℕ → Value

-- a name or an option of a command, with the id that clap knows it by, and what an option is where it is left out
pub record Argument : Type 0 where
  pub id : Text
  pub spelling : Spelling
  pub value : Value
  pub default : List Text

-- a line of the usage text
pub record Line : Type 0 where
  pub command : Text
  pub names : List Argument
  pub options : List Argument

abbrev pub name : Text → Argument
name id = record { id = id; spelling = Place; value = Name; default = [] }

abbrev pub size : Argument
size = record { id = codes "N"; spelling = Place; value = Number 0 most_size; default = [] }

abbrev pub number : Text → ℕ → ℕ → List Text → Argument
number id letter most default = record { id = id; spelling = Short letter; value = Number 1 most; default = default }

abbrev pub file : Text → Argument
file id = record { id = id; spelling = Long id; value = Name; default = [] }

abbrev pub flag : Text → Argument
flag id = record { id = id; spelling = Long id; value = Flag; default = [] }

abbrev pub depth : Argument
depth = number (codes "k") 107 most_depth (codes "1" ∷ [])

abbrev pub search_depth : Argument
search_depth = number (codes "d") 100 most_search_depth []

abbrev pub most : Argument
most = number (codes "m") 109 most_depth []

abbrev pub workers : Argument
workers = number (codes "j") 106 most_workers (codes "1" ∷ [])

abbrev pub check_line : Line
check_line = record {
  command = codes "check";
  names = name (codes "LEFT") ∷ name (codes "RIGHT") ∷ [];
  options = depth ∷ search_depth ∷ workers ∷ flag (codes "classes") ∷ flag (codes "stats") ∷ file (codes "trace") ∷ file (codes "cert") ∷ flag (codes "tie") ∷ flag (codes "least") ∷ [];
}

abbrev pub replay_line : Line
replay_line = record { command = codes "replay"; names = name (codes "LEFT") ∷ name (codes "RIGHT") ∷ name (codes "TRACE") ∷ []; options = flag (codes "tie") ∷ [] }

abbrev pub verify_line : Line
verify_line = record { command = codes "verify"; names = name (codes "LEFT") ∷ name (codes "RIGHT") ∷ name (codes "CERT") ∷ []; options = flag (codes "tie") ∷ [] }

abbrev pub demo_line : Line
demo_line = record { command = codes "demo"; names = size ∷ []; options = depth ∷ workers ∷ [] }

abbrev pub climb_line : Line
climb_line = record { command = codes "climb"; names = name (codes "LEFT") ∷ name (codes "RIGHT") ∷ []; options = most ∷ workers ∷ flag (codes "least") ∷ [] }

abbrev pub reduce_line : Line
reduce_line = record { command = codes "reduce"; names = name (codes "NET") ∷ name (codes "OUT") ∷ []; options = depth ∷ workers ∷ flag (codes "binary") ∷ [] }

abbrev pub batch_line : Line
batch_line = record { command = codes "batch"; names = name (codes "LIST") ∷ []; options = depth ∷ workers ∷ [] }

-- ---- the command for clap

abbrev pub spelled : Spelling → Rule → Rule
spelled Place r = r
spelled (Short letter) r = record r { short = Some letter }
spelled (Long id) r = record r { long = Some id }

abbrev pub valued : Value → Rule → Rule
valued Flag r = record r { action = Some SetTrue }
valued Name r = record r { action = Some Set }
valued (Number least most) r = record r { action = Some Set; parser = Some (readers.Unsigned least most) }

-- a name has to be there
abbrev pub name_rule : Argument → Rule
name_rule a = record (valued a.value (new_rule a.id)) { required = true }

abbrev pub option_rule : Argument → Rule
option_rule a = record (spelled a.spelling (valued a.value (new_rule a.id))) { defaults = a.default }

abbrev pub with_names : App → List Argument → App
with_names app names = fold (λ a n. with_rule a (name_rule n)) app names

abbrev pub with_options : App → List Argument → App
with_options app options = fold (λ a o. with_rule a (option_rule o)) app options

abbrev pub app_for : Line → App
app_for l = with_options (with_names (new_app l.command) l.names) l.options

-- the rule of a part of a command
abbrev pub part_rule : Part → Rule
part_rule (parts.Name id) = name_rule (name id.now)
part_rule parts.Size = name_rule size
part_rule parts.Depth = option_rule depth
part_rule parts.SearchDepth = option_rule search_depth
part_rule parts.Most = option_rule most
part_rule parts.Workers = option_rule workers
part_rule (parts.Flag id) = option_rule (flag id.now)
part_rule (parts.File id) = option_rule (file id.now)

-- arguments have the rules of these parts, and none is global
abbrev pub AreArgsOf : List Arg → List Part → Type 0
AreArgsOf args ps = map {B = Rule × Bool} (λ a. (rule_of a, a.global)) args ≡ map {B = Rule × Bool} (λ p. (part_rule p, false)) ps

abbrev pub with_parts : App → List Part → App
with_parts app ps = fold (λ a p. with_rule a (part_rule p)) app ps

unfoldable pub check_app : App
check_app = app_for check_line

unfoldable pub replay_app : App
replay_app = app_for replay_line

unfoldable pub verify_app : App
verify_app = app_for verify_line

unfoldable pub demo_app : App
demo_app = app_for demo_line

unfoldable pub climb_app : App
climb_app = app_for climb_line

unfoldable pub reduce_app : App
reduce_app = app_for reduce_line

unfoldable pub batch_app : App
batch_app = app_for batch_line

abbrev pub subcommand_app : Subcommand → App
subcommand_app subcommands.Check = check_app
subcommand_app subcommands.Replay = replay_app
subcommand_app subcommands.Verify = verify_app
subcommand_app subcommands.Demo = demo_app
subcommand_app subcommands.Climb = climb_app
subcommand_app subcommands.Reduce = reduce_app
subcommand_app subcommands.Batch = batch_app

-- commands are those of these subcommands
abbrev pub AreCommandsOf : List Command → List Subcommand → Type 0
AreCommandsOf commands all = map {B = App × Bool} (λ c. (app_of c, (fields_of c).has_globals)) commands ≡ map {B = App × Bool} (λ s. (subcommand_app s, false)) all

abbrev pub with_subcommands : App → List Subcommand → App
with_subcommands app all = fold (λ a s. with_subcommand a (subcommand_app s).top) app all

abbrev pub with_required_subcommand : App → App
with_required_subcommand a = on_top (λ (s : Shape). record s { subcommand_required = true }) a

unfoldable pub sec_app : App
sec_app = with_subcommand (with_subcommand (with_subcommand (with_subcommand (with_subcommand (with_subcommand (with_subcommand (with_required_subcommand (new_app (codes "sec"))) check_app.top) replay_app.top) verify_app.top) demo_app.top) climb_app.top) reduce_app.top) batch_app.top

-- a command is this one
pub record IsCommand (app : App) (c : Command) : Type 0 where
  pub same : app_of c ≡ app
  pub local : (fields_of c).has_globals ≡ false
