-- What the reading of plain words gives: each name of the line, and to each argument a value that it takes.
use Rattle.std.proofs.Common.{◌≡◌, ◌||◌, ◌++◌, Bool, true, false, cond, List, [], ◌∷◌, Option, Some, None, find, sym, ap, subst, refl, bytes_eq, codes, unwrap_or}
use Rattle.std.specs.List.{list_any}
use Rattle.std.specs.Option.{option_map_or}
use Rattle.clap.specs.Walk.{Text}
use Rattle.command_line.specs.App.{Argument, Line, Value, Flag, Name, Number}
use Rattle.command_line.specs.Plain.{Given, Reading, due_read, is_given, is_value, name_read, option_read, read_all, step, word_read, word_of}
use Rattle.command_line.proofs.Distinct.{each_weaker, itself}
use Rattle.command_line.proofs.Rows.{Each, each_found, each_more}

-- the argument of a line with an id
abbrev pub argument_at : Line → Text → Option Argument
argument_at l id = find (λ n. bytes_eq n.id id) (l.names ++ l.options)

-- what was given is a value of its argument
abbrev pub IsGood : Line → Given → Type 0
IsGood l g = option_map_or (λ n. is_value n.value g.text) (argument_at l g.id) false ≡ true

-- the arguments are found by their ids
abbrev pub IsListed : Line → Argument → Type 0
IsListed l n = argument_at l n.id ≡ Some n

abbrev pub is_named : Text → List Argument → Bool
is_named id names = list_any (λ n. bytes_eq n.id id) names

-- an id is given already, or it is that of a name that is still to come
abbrev pub is_covered : Text → List Given → List Argument → Bool
is_covered id given names = is_given id given || is_named id names

-- each is named among them
pub named_by_id : (xs : List Argument) → Each (λ n. is_named n.id xs ≡ true) xs
named_by_id [] = tt
named_by_id (x ∷ xs) =
    let first = itself x.id in
    (rw first refl, each_weaker (λ n. is_named n.id xs ≡ true) (λ n. is_named n.id (x ∷ xs) ≡ true) xs (λ n e. or_true (bytes_eq x.id n.id) (is_named n.id xs) e) (named_by_id xs))
  where
    or_true : (a b : Bool) → b ≡ true → (a || b) ≡ true
    or_true true b e = refl
    or_true false b e = e

given_more : (id : Text) (given : List Given) (g : Given) → is_given id (given ++ g ∷ []) ≡ (is_given id given || bytes_eq g.id id)
given_more id [] g = or_none (bytes_eq g.id id)
  where
    or_none : (b : Bool) → (b || false) ≡ b
    or_none true = refl
    or_none false = refl
given_more id (x ∷ xs) g = go (bytes_eq x.id id) (given_more id xs g)
  where
    go : (b : Bool) → is_given id (xs ++ g ∷ []) ≡ (is_given id xs || bytes_eq g.id id) → (b || is_given id (xs ++ g ∷ [])) ≡ ((b || is_given id xs) || bytes_eq g.id id)
    go true h = refl
    go false h = h

or_more : (a b d : Bool) → (a || b) ≡ true → ((a || d) || b) ≡ true
or_more true b d e = refl
or_more false true true e = refl
or_more false true false e = refl
or_more false false d e = cc

or_moved : (a b d : Bool) → (a || (d || b)) ≡ true → ((a || d) || b) ≡ true
or_moved true b d e = refl
or_moved false b d e = e

-- where the reading stands
pub record IsOn (l : Line) (r : Reading) : Type 0 where
  pub good : Each (IsGood l) r.given
  pub covered : Each (λ n. is_covered n.id r.given r.names ≡ true) l.names
  pub names : Each (IsListed l) r.names
  pub due : option_map_or (λ o. argument_at l o.id) r.due None ≡ r.due

covered_by_given : (ns names : List Argument) (given : List Given) (g : Given) → Each (λ n. is_covered n.id given names ≡ true) ns → Each (λ n. is_covered n.id (given ++ g ∷ []) names ≡ true) ns
covered_by_given [] names given g h = tt
covered_by_given (n ∷ ns) names given g h =
    let b : is_covered n.id (given ++ g ∷ []) names ≡ true = rw (given_more n.id given g) (or_more (is_given n.id given) (is_named n.id names) (bytes_eq g.id n.id) h.0) in
    (b, covered_by_given ns names given g h.1)

covered_by_name : (ns : List Argument) (m : Argument) (names : List Argument) (given : List Given) (g : Given) → g.id ≡ m.id → Each (λ n. is_covered n.id given (m ∷ names) ≡ true) ns → Each (λ n. is_covered n.id (given ++ g ∷ []) names ≡ true) ns
covered_by_name [] m names given g same h = tt
covered_by_name (n ∷ ns) m names given g same h =
    let b : is_covered n.id (given ++ g ∷ []) names ≡ true = rw (given_more n.id given g, same) (or_moved (is_given n.id given) (is_named n.id names) (bytes_eq m.id n.id) h.0) in
    (b, covered_by_name ns m names given g same h.1)

-- a word that was read
pub value_given : (b : Bool) (x next : Reading) → cond b (Some x) None ≡ Some next → (b ≡ true) × (next ≡ x)
value_given true x next e = (refl, ap (λ (o : Option Reading). unwrap_or o x) (sym e))
value_given false x next e = cc

good_value : (l : Line) (n : Argument) (word : Text) → IsListed l n → is_value n.value word ≡ true → IsGood l (record { id = n.id; text = word })
good_value l n word listed ok = rw listed ok

module _ (l : Line) (options : Each (IsListed l) l.options) where
  step_on : (r next : Reading) (word : Text) → IsOn l r → step l.options r word ≡ Some next → IsOn l next
  step_on r next word on e = go r.due on.due e
    where
      named : (ns : List Argument) → Each (IsListed l) ns → Each (λ n. is_covered n.id r.given ns ≡ true) l.names → name_read word r.given ns ≡ Some next → IsOn l next
      named [] listed covered h = cc
      named (n ∷ ns) listed covered h =
          let q = value_given (is_value n.value word) _ next h in
          let g : Given = record { id = n.id; text = word } in
          let result : IsOn l (record { given = r.given ++ g ∷ []; names = ns; due = None }) = record {
            good = each_more (IsGood l) r.given g on.good (good_value l n word listed.0 q.0);
            covered = covered_by_name l.names n ns r.given g refl covered;
            names = listed.1;
            due = refl;
          } in
          subst (IsOn l) (sym q.1) result

      by_value : (v : Value) (o : Argument) → o.value ≡ v → IsListed l o → option_read v o r ≡ Some next → IsOn l next
      by_value Flag o is listed h =
          let g : Given = record { id = o.id; text = codes "true" } in
          let ok : is_value o.value (codes "true") ≡ true = rw is refl in
          let result : IsOn l (record r { given = r.given ++ g ∷ []; due = None }) = record {
            good = each_more (IsGood l) r.given g on.good (good_value l o (codes "true") listed ok);
            covered = covered_by_given l.names r.names r.given g on.covered;
            names = on.names;
            due = refl;
          } in
          subst (IsOn l) (ap (λ (x : Option Reading). unwrap_or x next) h) result
      by_value Name o is listed h =
          let result : IsOn l (record r { due = Some o }) = record { good = on.good; covered = on.covered; names = on.names; due = listed } in
          subst (IsOn l) (ap (λ (x : Option Reading). unwrap_or x next) h) result
      by_value (Number least most) o is listed h =
          let result : IsOn l (record r { due = Some o }) = record { good = on.good; covered = on.covered; names = on.names; due = listed } in
          subst (IsOn l) (ap (λ (x : Option Reading). unwrap_or x next) h) result

      fresh : (o : Argument) → IsListed l o → (b : Bool) → cond b None (option_read o.value o r) ≡ Some next → IsOn l next
      fresh o listed true h = cc
      fresh o listed false h = by_value o.value o refl listed h

      met : (o : Option Argument) → find (λ o. bytes_eq (word_of o) word) l.options ≡ o → word_read o word r ≡ Some next → IsOn l next
      met None is h = named r.names on.names on.covered h
      met (Some o) is h = fresh o (each_found (IsListed l) (λ x. bytes_eq (word_of x) word) l.options o is options).0 (is_given o.id r.given) h

      go : (d : Option Argument) → option_map_or (λ o. argument_at l o.id) d None ≡ d → due_read l.options d word r ≡ Some next → IsOn l next
      go (Some o) listed h =
          let q = value_given (is_value o.value word) _ next h in
          let g : Given = record { id = o.id; text = word } in
          let result : IsOn l (record { given = r.given ++ g ∷ []; names = r.names; due = None }) = record {
            good = each_more (IsGood l) r.given g on.good (good_value l o word listed q.0);
            covered = covered_by_given l.names r.names r.given g on.covered;
            names = on.names;
            due = refl;
          } in
          subst (IsOn l) (sym q.1) result
      go None listed h = met (find (λ o. bytes_eq (word_of o) word) l.options) refl h

  pub all_on : (words : List Text) (r end : Reading) → IsOn l r → read_all l.options (Some r) words ≡ Some end → IsOn l end
  all_on [] r end on e = subst (IsOn l) (ap (λ (x : Option Reading). unwrap_or x end) e) on
  all_on (word ∷ rest) r end on e = go (step l.options r word) refl e (λ next is. all_on rest next end is)
    where
      go : (o : Option Reading) → step l.options r word ≡ o → read_all l.options o rest ≡ Some end → ((next : Reading) → IsOn l next → read_all l.options (Some next) rest ≡ Some end → IsOn l end) → IsOn l end
      go None is h later = cc
      go (Some next) is h later = later next (step_on r next word on is) h
