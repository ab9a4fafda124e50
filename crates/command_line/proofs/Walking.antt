-- Clap's walk over the words, where it has no fault: its rows are read as `Rows.antt` says, and it stops at no call for help.
use Rattle.std.proofs.Common.{◌≡◌, ◌&&◌, ℕ, zero, suc, Bool, true, false, not, cond, List, [], ◌∷◌, length, drop, Option, Some, None, find, fold, is_some, refl, bytes_eq, codes, slice_get, chars, encode_utf8}
use Rattle.std.specs.Option.{option_map_or}
use Rattle.clap.specs.Kinds.{Kinds, or_else}
use Rattle.clap.specs.Lexer.{long_of, short_of}
use Rattle.clap.specs.Simple.{Shape}
use Rattle.clap.specs.Faults.{bundle_fault, bundle_step_fault, flag_word_fault, flags_fault, long_fault, option_fault, other_fault, positional_fault, react_fault, settle_fault, short_fault, step_fault, stray_fault, turn_fault, use_fault, walk_fault, word_fault}
use Rattle.clap.specs.Walk.{Held, Names, Outcome, done, waits, plain, refused, Waiting, idle, option, positional, Step, next, trailing, subcommand, value, Row, Rule, Text, Walk, after_flag, after_step, arg_by_id, arg_by_index, arg_by_long, arg_by_short, attached_value, bundle, bundle_met, bundle_step, flag_met, is_pending, long_met, long_or_other, option_met, option_word, plain_word, reacted, settled, settled_rows, short_met, short_or_plain, subcommand_met, subcommand_or_other, takes_several, takes_values, to_positional, used_by_id, walked, walked_from, word_met}
use Rattle.clap.specs.declared.error.kind.ErrorKind.TheVariants.{DisplayHelp, InvalidSubcommand, TooManyValues}
use Rattle.command_line.proofs.Rows.{Each, each_found, no_fault, AreRead, KeepsRead}

module _ (c : List Rule) (again : Bool) (each : Each (KeepsRead c again) c) where
  -- a rule that is found
  found : (p : Rule → Bool) (a : Rule) → find p c ≡ Some a → KeepsRead c again a
  found p a e = (each_found (KeepsRead c again) p c a e each).0

  -- the argument that waits is used
  pub settled_read : (p : Option (Text × List Text)) (rows : List Row) → option_map_or (λ q. option_map_or (λ a. use_fault again a q.1 rows) (arg_by_id c q.0) []) p [] ≡ []
      → AreRead c rows → AreRead c (settled_rows c p rows)
  settled_read None rows f g = g
  settled_read (Some q) rows f g = go (arg_by_id c q.0) refl f
    where
      go : (o : Option Rule) → arg_by_id c q.0 ≡ o → option_map_or (λ a. use_fault again a q.1 rows) o [] ≡ [] → AreRead c (used_by_id o q.1 rows)
      go None e h = g
      go (Some a) e h = found (λ r. bytes_eq r.id q.0) a e q.1 rows h g

  reacted_read : (a : Rule) → KeepsRead c again a → (values : List Text) (h : Held) → react_fault c again a values h ≡ [] → AreRead c h.rows → AreRead c (reacted c a values h).rows
  reacted_read a keeps values h f g =
      let p = no_fault (settle_fault c again h) (use_fault again a values (settled c h).rows) f in
      keeps values (settled c h).rows p.1 (settled_read h.pending h.rows p.0 g)

  option_read : (a : Rule) → KeepsRead c again a → (v : Option Text) (h : Held) → option_fault c again a v h ≡ [] → AreRead c h.rows → AreRead c (option_met c a v h).0.rows
  option_read a keeps None h f g = settled_read h.pending h.rows f g
  option_read a keeps (Some v) h f g = reacted_read a keeps (v ∷ []) h f g

  flag_read : (a : Rule) → KeepsRead c again a → (v : Option Text) (h : Held) → cond (is_some v) (TooManyValues ∷ []) (react_fault c again a [] h) ≡ []
      → AreRead c h.rows → AreRead c (flag_met c a v h).0.rows
  flag_read a keeps None h f g = reacted_read a keeps [] h f g
  flag_read a keeps (Some v) h f g = g

  long_read : (o : Option Rule) → ((a : Rule) → o ≡ Some a → KeepsRead c again a) → (v : Option Text) (h : Held) → long_fault c again o v h ≡ [] → AreRead c h.rows → AreRead c (long_met c o v h).0.rows
  long_read None keeps v h f g = g
  long_read (Some a) keeps v h f g = go (takes_values a) f
    where
      go : (b : Bool) → cond b (option_fault c again a v h) (cond (is_some v) (TooManyValues ∷ []) (react_fault c again a [] h)) ≡ [] → AreRead c (cond b (option_met c a v h) (flag_met c a v h)).0.rows
      go true e = option_read a (keeps a refl) v h e g
      go false e = flag_read a (keeps a refl) v h e g

  short_read : (o : Option Rule) → ((a : Rule) → o ≡ Some a → KeepsRead c again a) → (rest : Text) (h : Held) (then : Held → Held × Outcome) (later : Held → Kinds)
      → ((held : Held) → later held ≡ [] → AreRead c held.rows → AreRead c (then held).0.rows)
      → short_fault c again o rest h later ≡ [] → AreRead c h.rows → AreRead c (short_met c o rest h then).0.rows
  short_read None keeps rest h then later more f g = g
  short_read (Some a) keeps rest h then later more f g = go (takes_values a) f
    where
      go : (b : Bool) → cond b (option_fault c again a (attached_value rest) h) (or_else (react_fault c again a [] h) (later (reacted c a [] h))) ≡ []
          → AreRead c (cond b (option_met c a (attached_value rest) h) (then (reacted c a [] h))).0.rows
      go true e = option_read a (keeps a refl) (attached_value rest) h e g
      go false e =
          let p = no_fault (react_fault c again a [] h) (later (reacted c a [] h)) e in
          more (reacted c a [] h) p.1 (reacted_read a (keeps a refl) [] h p.0 g)

  bundle_read : (k : ℕ) (flags : Text) (skip : ℕ) (so_far : Outcome) (h : Held) → flags_fault c again k flags skip h ≡ [] → AreRead c h.rows → AreRead c (bundle_met c k flags skip so_far h).0.rows
  unfolding bundle_met flags_fault
  bundle_read zero flags skip so_far h f g = g
  bundle_read (suc k) flags skip so_far h f g = go (slice_get (chars flags) 0) skip f (bundle_read k)
    where
      go : (o : Option ℕ) (n : ℕ) → bundle_step_fault c again o flags n h (flags_fault c again k) ≡ []
          → ((fs : Text) (m : ℕ) (so : Outcome) (held : Held) → flags_fault c again k fs m held ≡ [] → AreRead c held.rows → AreRead c (bundle_met c k fs m so held).0.rows)
          → AreRead c (bundle_step c o flags n so_far h (bundle_met c k)).0.rows
      go None n e more = g
      go (Some x) zero e more =
          let rest = drop (length (encode_utf8 x)) flags in
          short_read (arg_by_short c x) (λ a is. found _ a is) rest h (bundle_met c k rest 0 done) (flags_fault c again k rest 0) (more rest 0 done) e g
      go (Some x) (suc n) e more = more (drop (length (encode_utf8 x)) flags) n so_far h e g

  -- a word that is no flag
  plain_read : (waiting : Waiting) (word : Text) (h : Held) → AreRead c h.rows → AreRead c (plain_word c waiting word h).0.rows
  plain_read idle word h g = g
  plain_read positional word h g = g
  plain_read (option id) word h g = go (arg_by_id c id)
    where
      go : (o : Option Rule) → AreRead c (option_word o id word h).0.rows
      go None = g
      go (Some a) = g

  after_read : (waiting : Waiting) (word : Text) (h : Held) (o : Outcome) → AreRead c h.rows → AreRead c (after_flag c waiting word h o).0.rows
  after_read waiting word h done g = g
  after_read waiting word h (waits id) g = g
  after_read waiting word h plain g = plain_read waiting word h g
  after_read waiting word h refused g = plain_read waiting word h g

-- a subcommand that is met is no help, where there is such a subcommand
abbrev pub IsFineStep : Bool → Step → Type 0
IsFineStep off (next w) = Unit {0}
IsFineStep off (trailing p) = Unit {0}
IsFineStep off (subcommand name) = (bytes_eq name (codes "help") && not off) ≡ false
IsFineStep off value = Unit {0}

abbrev pub IsFineStop : Bool → Option (Text × List Text) → Type 0
IsFineStop off None = Unit {0}
IsFineStop off (Some p) = (bytes_eq p.0 (codes "help") && not off) ≡ false

plain_fine : (off : Bool) (c : List Rule) (waiting : Waiting) (word : Text) (h : Held) → IsFineStep off (plain_word c waiting word h).1
plain_fine off c idle word h = tt
plain_fine off c positional word h = tt
plain_fine off c (option id) word h = tt

after_fine : (off : Bool) (c : List Rule) (waiting : Waiting) (word : Text) (h : Held) (o : Outcome) → IsFineStep off (after_flag c waiting word h o).1
after_fine off c waiting word h done = tt
after_fine off c waiting word h (waits id) = tt
after_fine off c waiting word h plain = plain_fine off c waiting word h
after_fine off c waiting word h refused = plain_fine off c waiting word h

not_help : (b : Bool) → cond b (DisplayHelp ∷ InvalidSubcommand ∷ []) [] ≡ [] → b ≡ false
not_help true e = cc
not_help false e = refl

module _ (s : Shape) (each : Each (KeepsRead s.rules s.args_override_self) s.rules) where
  -- what a word comes to
  abbrev IsFineWord : Held × Step → Type 0
  IsFineWord met = AreRead s.rules met.0.rows × IsFineStep s.disable_help_subcommand met.1

  bundle_fine : (o : Option Text) (waiting : Waiting) (word : Text) (h : Held) → option_map_or (λ flags. bundle_fault s.rules s.args_override_self flags h) o [] ≡ [] → AreRead s.rules h.rows
      → IsFineWord (short_or_plain s.rules waiting word o h)
  bundle_fine None waiting word h f g = (plain_read s.rules s.args_override_self each waiting word h g, plain_fine s.disable_help_subcommand s.rules waiting word h)
  bundle_fine (Some flags) waiting word h f g =
      let met = bundle s.rules flags h in
      let r = bundle_read s.rules s.args_override_self each (length flags) flags h.skip plain (record h { skip = 0 }) f g in
      (after_read s.rules s.args_override_self each waiting word met.0 met.1 r, after_fine s.disable_help_subcommand s.rules waiting word met.0 met.1)

  flag_fine : (o : Option (Text × Option Text)) (waiting : Waiting) (word : Text) (h : Held) → flag_word_fault s.rules s.args_override_self o word h ≡ [] → AreRead s.rules h.rows
      → IsFineWord (long_or_other s.rules waiting word o h)
  flag_fine None waiting word h f g = bundle_fine (short_of word) waiting word h f g
  flag_fine (Some p) waiting word h f g =
      let met = long_met s.rules (arg_by_long s.rules p.0) p.1 h in
      let r = long_read s.rules s.args_override_self each (arg_by_long s.rules p.0) (λ a is. found s.rules s.args_override_self each _ a is) p.1 h f g in
      (after_read s.rules s.args_override_self each waiting word met.0 met.1 r, after_fine s.disable_help_subcommand s.rules waiting word met.0 met.1)

  other_fine : (o : Option Text) (waiting : Waiting) (position : ℕ) (word : Text) (h : Held) → other_fault s o word h ≡ [] → AreRead s.rules h.rows
      → IsFineWord (subcommand_or_other s.rules o waiting position word h)
  other_fine (Some name) waiting position word h f g = (g, not_help (bytes_eq name (codes "help") && not s.disable_help_subcommand) f)
  other_fine None waiting position word h f g = go (bytes_eq word (45 ∷ 45 ∷ [])) f
    where
      go : (b : Bool) → cond b [] (flag_word_fault s.rules s.args_override_self (long_of word) word h) ≡ []
          → IsFineWord (cond b (h, trailing position) (long_or_other s.rules waiting word (long_of word) h))
      go true e = (g, tt)
      go false e = flag_fine (long_of word) waiting word h e g

  word_fine : (names : Names) (is_trailing : Bool) (waiting : Waiting) (position : ℕ) (word : Text) (h : Held) → word_fault s names is_trailing waiting word h ≡ [] → AreRead s.rules h.rows
      → IsFineWord (word_met s.rules names is_trailing waiting position word h)
  word_fine names true waiting position word h f g = (g, tt)
  word_fine names false waiting position word h f g = other_fine (subcommand_met names waiting word) waiting position word h f g

  -- where the walk stands
  abbrev pub IsFineWalk : Walk → Type 0
  IsFineWalk w = AreRead s.rules w.held.rows × IsFineStop s.disable_help_subcommand w.stopped

  positional_fine : (o : Option Rule) (word : Text) (w : Walk) (h : Held) → option_map_or (λ a. positional_fault s.rules s.args_override_self a h) o (stray_fault s) ≡ []
      → AreRead s.rules h.rows → IsFineStop s.disable_help_subcommand w.stopped → IsFineWalk (to_positional s.rules o word w h)
  positional_fine None word w h f g fine = (g, fine)
  positional_fine (Some a) word w h f g fine = (go (is_pending a h.pending && takes_several a) f, tt)
    where
      go : (b : Bool) → cond b [] (settle_fault s.rules s.args_override_self h) ≡ [] → AreRead s.rules (cond b h (settled s.rules h)).rows
      go true e = g
      go false e = settled_read s.rules s.args_override_self each h.pending h.rows e g

  step_fine : (step : Step) (word : Text) (w : Walk) (h : Held) → step_fault s w.position h step ≡ [] → AreRead s.rules h.rows → IsFineStep s.disable_help_subcommand step
      → IsFineStop s.disable_help_subcommand w.stopped → IsFineWalk (after_step s.rules word w h step)
  step_fine (next waiting) word w h f g is fine = (g, fine)
  step_fine (trailing position) word w h f g is fine = (g, fine)
  step_fine (subcommand name) word w h f g is fine = (g, is)
  step_fine value word w h f g is fine = positional_fine (arg_by_index s.rules w.position) word w h f g fine

  turn_fine : (names : Names) (w : Walk) (word : Text) → turn_fault s names w word ≡ [] → IsFineWalk w → IsFineWalk (walked s.rules names w word)
  unfolding walked
  turn_fine names w word f fine = go w.stopped f fine.1
    where
      go : (o : Option (Text × List Text)) → cond (is_some o) [] (or_else (word_fault s names w.is_trailing w.waiting word w.held)
          (step_fault s w.position (word_met s.rules names w.is_trailing w.waiting w.position word w.held).0 (word_met s.rules names w.is_trailing w.waiting w.position word w.held).1)) ≡ []
          → IsFineStop s.disable_help_subcommand o → IsFineWalk (walked_from s.rules names o w word)
      go (Some p) e is = (fine.0, is)
      go None e is =
          let met = word_met s.rules names w.is_trailing w.waiting w.position word w.held in
          let p = no_fault (word_fault s names w.is_trailing w.waiting word w.held) (step_fault s w.position met.0 met.1) e in
          let m = word_fine names w.is_trailing w.waiting w.position word w.held p.0 fine.0 in
          step_fine met.1 word w met.0 p.1 m.0 m.1 fine.1

  -- the whole walk
  pub walk_fine : (names : Names) (words : List Text) (w : Walk) → walk_fault s names w words ≡ [] → IsFineWalk w → IsFineWalk (fold (walked s.rules names) w words)
  unfolding walk_fault
  walk_fine names [] w f fine = fine
  walk_fine names (word ∷ rest) w f fine =
      let p = no_fault (turn_fault s names w word) (walk_fault s names (walked s.rules names w word) rest) f in
      walk_fine names rest (walked s.rules names w word) p.1 (turn_fine names w word p.0 fine)
