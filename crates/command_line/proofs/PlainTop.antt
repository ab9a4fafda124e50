-- The command with subcommands over plain words: it enters the one that the first word names.
use Rattle.std.proofs.Common.{◌≡◌, ◌∙◌, ◌++◌, true, false, List, [], ◌∷◌, Some, find, fold, is_some, sym, ap, refl, append_assoc, append-nil}
use Rattle.clap.specs.Kinds.{Kinds, or_else}
use Rattle.clap.specs.Simple.{App, Shape, entered, label_of, names_of, rows_at}
use Rattle.clap.specs.Faults.{built_fault, check_fault, defaults_fault, entered_fault, level_fault, settle_fault, turn_fault, walk_fault}
use Rattle.clap.specs.Walk.{Names, Rule, Text, Walk, answers_to, finished, nothing_held, settled, walk, walk_from, walked}

-- the walk stopped at a subcommand, with the words after it
abbrev pub stopping : Text → List Text → Walk
stopping name words = record (walk_from nothing_held) { stopped = Some (name, words) }

stopped_walk : (c : List Rule) (names : Names) (name : Text) (before words : List Text) → fold (walked c names) (stopping name before) words ≡ stopping name (before ++ words)
unfolding walked
stopped_walk c names name before [] = ap (stopping name) (sym (append-nil before))
stopped_walk c names name before (w ∷ ws) = stopped_walk c names name (before ++ w ∷ []) ws ∙ ap (stopping name) (append_assoc before (w ∷ []) ws)

stopped_fine : (s : Shape) (names : Names) (name : Text) (before words : List Text) → walk_fault s names (stopping name before) words ≡ []
unfolding walked walk_fault
stopped_fine s names name before [] = refl
stopped_fine s names name before (w ∷ ws) = stopped_fine s names name (before ++ w ∷ []) ws

-- the first word names a subcommand, and nothing else is wanted
pub record IsEntered (a : App) (name : Text) (s : Shape) : Type 0 where
  pub meets : walked a.top.rules (names_of a) (walk_from nothing_held) name ≡ stopping name []
  pub fine : turn_fault a.top (names_of a) (walk_from nothing_held) name ≡ []
  pub is : find (λ t. answers_to name (label_of t)) a.subs ≡ Some s
  pub nothing_else : or_else (settle_fault a.top.rules a.top.args_override_self nothing_held) (or_else (defaults_fault (settled a.top.rules nothing_held).rows a.top.rules) (check_fault a.top (finished a.top.rules nothing_held) true)) ≡ []

module _ (a : App) (name : Text) (s : Shape) (enters : IsEntered a name s) (words : List Text) where
  walks : walk a.top.rules (names_of a) nothing_held (name ∷ words) ≡ stopping name words
  walks = ap (λ (w : Walk). fold (walked a.top.rules (names_of a)) w words) enters.meets ∙ stopped_walk a.top.rules (names_of a) name [] words

  pub enters_it : entered a (walk a.top.rules (names_of a) nothing_held (name ∷ words)).stopped ≡ Some (rows_at s words)
  enters_it = ap (λ (w : Walk). entered a w.stopped) walks ∙ rw enters.is refl

  pub entered_fine : level_fault s [] nothing_held words false [] ≡ [] → built_fault a nothing_held (name ∷ words) ≡ []
  unfolding walk_fault
  entered_fine below =
      let walk_fine : walk_fault a.top (names_of a) (walk_from nothing_held) (name ∷ words) ≡ [] = rw enters.fine (ap (λ (w : Walk). walk_fault a.top (names_of a) w words) enters.meets ∙ stopped_fine a.top (names_of a) name [] words) in
      let rest : Walk → Kinds = λ w. or_else (entered_fault a w.stopped) (or_else (settle_fault a.top.rules a.top.args_override_self w.held) (or_else (defaults_fault (settled a.top.rules w.held).rows a.top.rules) (check_fault a.top (finished a.top.rules w.held) (is_some (entered a w.stopped))))) in
      let at_stop : rest (stopping name words) ≡ [] = rw (enters.is, below) enters.nothing_else in
      let all : rest (walk a.top.rules (names_of a) nothing_held (name ∷ words)) ≡ [] = ap rest walks ∙ at_stop in
      rw walk_fine all
