-- A command's parse of plain words: it has no fault, and its rows are those of what the words give, and the defaults.
use Rattle.std.proofs.Common.{◌≡◌, ◌∙◌, ◌&&◌, ◌||◌, ◌++◌, ℕ, Bool, true, false, not, cond, List, [], ◌∷◌, Option, Some, None, find, fold, option_map, option_and_then, ap, subst, subst₂, refl, bytes_eq}
use Rattle.std.specs.List.{list_all, list_any}
use Rattle.std.specs.Option.{option_map_or}
use Rattle.std.proofs.lemmas.Slice.Eq.{bytes_eq-Decides}
use Rattle.clap.specs.Kinds.{Kinds, or_else}
use Rattle.clap.specs.Simple.{Shape}
use Rattle.clap.specs.Takes.{is_given as is_in}
use Rattle.clap.specs.Facts.{explicit_source}
use Rattle.clap.specs.Faults.{check_fault, defaults_fault, given_default_fault, level_fault, settle_fault}
use Rattle.clap.specs.Walk.{Held, Row, Rule, Text, Walk, finished, has_row, is_empty, nothing_held, rows_after, settled, walk, with_default}
use Rattle.command_line.specs.App.{Argument, Line}
use Rattle.command_line.specs.Plain.{Given, Reading, complete, given_by, is_given, read_all}
use Rattle.command_line.proofs.Rows.{Each}
use Rattle.command_line.proofs.Uses.{given_row, given_rows}
use Rattle.command_line.proofs.Turns.{IsSettled, held, resting}
use Rattle.command_line.proofs.Standing.{ArePositional, AreToCome, IsHeld, IsOption, Stands, place, back_apart, front_apart}
use Rattle.command_line.proofs.PlainWalk.{plain_walk}
use Rattle.command_line.proofs.Distinct.{are_distinct, each_back, each_front, found_by_id}
use Rattle.command_line.specs.Meant.{are_none}
use Rattle.clap.proofs.WalkLemmas.{both}
use Rattle.command_line.proofs.Reading.{IsGood, IsListed, IsOn, all_on, is_covered, is_named, named_by_id}
use Rattle.command_line.proofs.Finding.{or_row, row_found}

-- the line of the usage text is that of the command as built
pub record IsLineOf (s : Shape) (l : Line) : Type 0 where
  pub options : Each (IsOption s) l.options
  pub names : ArePositional s 1 l.names
  pub distinct : are_distinct (λ (n : Argument). n.id) (l.names ++ l.options) ≡ true
  pub defaults : list_all (λ (a : Rule). is_empty a.defaults || are_none (given_default_fault a a.defaults)) s.rules ≡ true
  pub required : list_all (λ (a : Rule). not a.required || is_named a.id l.names) s.rules ≡ true
  pub no_help : s.arg_required_else_help ≡ false
  pub no_subcommand : s.subcommand_required ≡ false
  pub negates : s.subcommand_negates_reqs ≡ false

completed : (d : Option Argument) (ns : List Argument) (g given : List Given) → complete d ns g ≡ Some given → (d ≡ None) × (ns ≡ []) × (g ≡ given)
completed None [] g given e = (refl, refl, ap (λ (o : Option (List Given)). option_map_or (λ x. x) o g) e)
completed None (n ∷ ns) g given e = cc
completed (Some o) ns g given e = cc

nothing_given : (ns : List Argument) → AreToCome ns []
nothing_given [] = tt
nothing_given (n ∷ ns) = (refl, nothing_given ns)

no_kind : (ks : Kinds) → are_none ks ≡ true → ks ≡ []
no_kind [] e = refl
no_kind (k ∷ ks) e = cc

defaults_fine : (xs : List Rule) (rows : List Row) → list_all (λ (a : Rule). is_empty a.defaults || are_none (given_default_fault a a.defaults)) xs ≡ true → defaults_fault rows xs ≡ []
unfolding defaults_fault
defaults_fine [] rows h = refl
defaults_fine (a ∷ xs) rows h =
    let q = both (is_empty a.defaults || are_none (given_default_fault a a.defaults)) _ h in
    go (has_row a.id rows) (is_empty a.defaults) q.0 (defaults_fine xs (with_default rows a) q.1)
  where
    go : (b d : Bool) → (d || are_none (given_default_fault a a.defaults)) ≡ true → defaults_fault (with_default rows a) xs ≡ []
        → or_else (cond (b || d) [] (given_default_fault a a.defaults)) (defaults_fault (with_default rows a) xs) ≡ []
    go true d e more = more
    go false true e more = more
    go false false e more = let none = no_kind (given_default_fault a a.defaults) e in rw none more

named_given : (id : Text) (ns : List Argument) (given : List Given) → Each (λ n. is_covered n.id given [] ≡ true) ns → is_named id ns ≡ true → is_given id given ≡ true
named_given id [] given h e = cc
named_given id (n ∷ ns) given h e = go (bytes_eq n.id id) refl e (λ more. named_given id ns given h.1 more)
  where
    or_none : (b : Bool) → (b || false) ≡ true → b ≡ true
    or_none true q = refl
    or_none false q = cc

    go : (b : Bool) → bytes_eq n.id id ≡ b → (b || is_named id ns) ≡ true → (is_named id ns ≡ true → is_given id given ≡ true) → is_given id given ≡ true
    go true same q later = or_none (is_given id given) (subst (λ (i : Text). is_covered i given [] ≡ true) ((bytes_eq-Decides n.id id).0 same) h.0)
    go false same q later = later q

given_found : (c : List Rule) (id : Text) (given : List Given) (other : Option Row) → is_given id given ≡ true → option_map_or (λ r. explicit_source r.source) (or_row (option_map (given_row c) (find (λ g. bytes_eq g.id id) given)) other) false ≡ true
given_found c id [] other e = cc
given_found c id (g ∷ gs) other e = go (bytes_eq g.id id) e (λ more. given_found c id gs other more)
  where
    go : (b : Bool) → (b || is_given id gs) ≡ true → (is_given id gs ≡ true → option_map_or (λ r. explicit_source r.source) (or_row (option_map (given_row c) (find (λ x. bytes_eq x.id id) gs)) other) false ≡ true)
        → option_map_or (λ r. explicit_source r.source) (or_row (option_map (given_row c) (cond b (Some g) (find (λ x. bytes_eq x.id id) gs))) other) false ≡ true
    go true q later = refl
    go false q later = later q

-- the rows at the end
abbrev pub end_rows : List Rule → List Given → List Row
end_rows c given = fold with_default (given_rows c given) c

none_missing : (c xs : List Rule) (names : List Argument) (given : List Given) → Each (λ n. is_covered n.id given [] ≡ true) names → list_all (λ (a : Rule). not a.required || is_named a.id names) xs ≡ true
    → list_any (λ (a : Rule). a.required && not (is_in a.id (end_rows c given))) xs ≡ false
none_missing c [] names given covered h = refl
none_missing c (a ∷ xs) names given covered h =
    let q = both (not a.required || is_named a.id names) _ h in
    go a.required (is_named a.id names) refl q.0 (none_missing c xs names given covered q.1)
  where
    there : is_named a.id names ≡ true → is_in a.id (end_rows c given) ≡ true
    there e = ap (λ (o : Option Row). option_map_or (λ r. explicit_source r.source) o false) (row_found c a.id given) ∙ given_found c a.id given _ (named_given a.id names given covered e)

    go : (required b : Bool) → is_named a.id names ≡ b → (not required || b) ≡ true → list_any (λ (x : Rule). x.required && not (is_in x.id (end_rows c given))) xs ≡ false
        → ((required && not (is_in a.id (end_rows c given))) || list_any (λ (x : Rule). x.required && not (is_in x.id (end_rows c given))) xs) ≡ false
    go false b is q more = more
    go true true is q more = rw (there is) more
    go true false is q more = cc

-- plain words are taken, and have these rows
pub record IsParsed (s : Shape) (l : Line) (words : List Text) (given : List Given) : Type 0 where
  pub fine : level_fault s [] nothing_held words false [] ≡ []
  pub rows : rows_after s.rules [] words ≡ end_rows s.rules given
  pub good : Each (IsGood l) given

module _ (s : Shape) (l : Line) (fit : IsLineOf s l) (words : List Text) where
  ended : (given : List Given) (p : ℕ) (rows : List Row) (pending : Option (Text × List Text)) → IsSettled s given rows pending → Each (λ n. is_covered n.id given [] ≡ true) l.names
      → or_else (settle_fault s.rules s.args_override_self (held rows pending)) (or_else (defaults_fault (settled s.rules (held rows pending)).rows s.rules) (check_fault s (finished s.rules (held rows pending)) false)) ≡ []
  ended given p rows pending at covered =
      let defaults = defaults_fine s.rules (given_rows s.rules given) fit.defaults in
      let missing = none_missing s.rules s.rules l.names given covered fit.required in
      rw (at.fine, at.kept, defaults, fit.no_help, fit.no_subcommand, fit.negates, missing) refl

  pub plain_parsed : (given : List Given) → given_by l words ≡ Some given → IsParsed s l words given
  plain_parsed given e = go (read_all l.options (Some start) words) refl e
    where
      start : Reading
      start = record { given = []; names = l.names; due = None }

      go : (o : Option Reading) → read_all l.options (Some start) words ≡ o → option_and_then (λ r. complete r.due r.names r.given) o ≡ Some given → IsParsed s l words given
      go None is h = cc
      go (Some end) is h =
          let q = completed end.due end.names end.given given h in
          let stands : Stands s l.options start 1 [] None = record {
            held = record { fine = refl; kept = refl };
            ahead = record { at = fit.names; to_come = nothing_given l.names; apart = front_apart l.names l.options fit.distinct; others = back_apart l.names l.options fit.distinct };
          } in
          let reached = plain_walk s l.options fit.options words start end 1 [] None stands is in
          let listed : Each (IsListed l) (l.names ++ l.options) = found_by_id (λ (n : Argument). n.id) (l.names ++ l.options) fit.distinct in
          let first : IsOn l start = record { good = tt; covered = named_by_id l.names; names = each_front (IsListed l) l.names l.options listed; due = refl } in
          let on = all_on l (each_back (IsListed l) l.names l.options listed) words start end first is in
          let p = reached.position in
          let rows = reached.rows in
          let pending = reached.pending in
          let at : IsSettled s given rows pending = subst (λ (g : List Given). IsSettled s g rows pending) q.2 (subst (λ (d : Option Argument). IsHeld s d end rows pending) q.0 reached.stands.held) in
          let stops : walk s.rules [] nothing_held words ≡ resting p (held rows pending) = reached.is ∙ ap (λ (d : Option Argument). place d p rows pending) q.0 in
          let covered : Each (λ n. is_covered n.id given [] ≡ true) l.names = subst₂ (λ (ns : List Argument) (g : List Given). Each (λ n. is_covered n.id g ns ≡ true) l.names) q.1 q.2 on.covered in
          let rest : Held → Kinds = λ h. or_else (settle_fault s.rules s.args_override_self h) (or_else (defaults_fault (settled s.rules h).rows s.rules) (check_fault s (finished s.rules h) false)) in
          record {
            fine = rw reached.fine (ap (λ (w : Walk). rest w.held) stops ∙ ended given p rows pending at covered);
            rows = ap (λ (w : Walk). finished s.rules w.held) stops ∙ ap (λ (rs : List Row). fold with_default rs s.rules) at.kept;
            good = subst (λ (g : List Given). Each (IsGood l) g) q.2 on.good;
          }
