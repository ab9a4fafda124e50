-- Clap's walk over plain words, by induction over the words: it has no fault, and stands where the reading does.
use Rattle.std.proofs.Common.{◌≡◌, ◌∙◌, ◌+◌, ◌++◌, ℕ, Bool, true, false, cond, List, [], ◌∷◌, Option, Some, None, find, fold, min, sym, ap, ap₂, subst, subst₂, unwrap_or, refl, bytes_eq, codes}
use Rattle.std.proofs.lemmas.Slice.Eq.{bytes_eq-Decides}
use Rattle.clap.specs.Lexer.{usize_max}
use Rattle.clap.specs.Simple.{Shape}
use Rattle.clap.specs.Faults.{react_fault, turn_fault, walk_fault}
use Rattle.clap.specs.Walk.{Row, Text, Walk, used, walked}
use Rattle.command_line.specs.App.{Argument, Value, Flag, Name, Number}
use Rattle.command_line.specs.Plain.{Given, Reading, due_read, is_given, is_value, name_read, option_read, read_all, step, word_read, word_of}
use Rattle.command_line.proofs.Rows.{Each, each_found}
use Rattle.command_line.proofs.Uses.{flag_fine, flag_used, given_rows}
use Rattle.command_line.proofs.Turns.{IsSettled, awaited_fine, awaited_next, awaiting, held, positional_fine, positional_next, resting, value_is_plain, value_settles}
use Rattle.command_line.proofs.Reading.{value_given}
use Rattle.command_line.proofs.Standing.{AreAhead, IsApart, IsDue, IsFlagOption, IsHeld, IsNext, IsOption, IsOptionBy, IsValueOption, Stands, place, rest_ahead, still_ahead}

module _ (s : Shape) (options : List Argument) where
  -- a value where an option waits
  due_next : (o : Argument) (r next : Reading) (p : ℕ) (rows : List Row) (pending : Option (Text × List Text)) (word : Text) → IsDue s o r rows pending
      → AreAhead s options p r.names r.given → is_value o.value word ≡ true → next ≡ record { given = r.given ++ record { id = o.id; text = word } ∷ []; names = r.names; due = None }
      → IsNext s options (awaiting o.id p (held rows pending)) word next
  due_next o r next p rows pending word due ahead ok is =
      let w = value_is_plain o.value word ok in
      let g : Given = record { id = o.id; text = word } in
      let to : Reading = record { given = r.given ++ g ∷ []; names = r.names; due = None } in
      let settles = value_settles s o due.rule r.given word due.taker due.fresh ok in
      let stands : Stands s options to p (given_rows s.rules r.given) (Some (o.id, word ∷ [])) = record {
        held = settles;
        ahead = still_ahead s options p r.names r.given g ahead due.apart;
      } in
      let before : awaiting o.id p (held rows pending) ≡ awaiting o.id p (held (given_rows s.rules r.given) (Some (o.id, []))) = ap₂ (λ (rs : List Row) (q : Option (Text × List Text)). awaiting o.id p (held rs q)) due.kept due.is in
      let result : IsNext s options (awaiting o.id p (held rows pending)) word to = record {
        position = p;
        rows = given_rows s.rules r.given;
        pending = Some (o.id, word ∷ []);
        stands = stands;
        is = rw (before, w.is) (awaited_next s p (given_rows s.rules r.given) o due.rule w.first w.rest w.dashless due.taker);
        fine = subst₂ (λ (x : Walk) (t : Text). turn_fault s [] x t ≡ []) (sym before) (sym w.is) (awaited_fine s p (given_rows s.rules r.given) o due.rule w.first w.rest w.dashless due.taker);
      } in
      subst (λ (x : Reading). IsNext s options (awaiting o.id p (held rows pending)) word x) (sym is) result

  -- a name
  name_next : (n : Argument) (ns : List Argument) (r next : Reading) (p : ℕ) (rows : List Row) (pending : Option (Text × List Text)) (word : Text) → IsSettled s r.given rows pending
      → AreAhead s options p (n ∷ ns) r.given → is_value n.value word ≡ true → next ≡ record { given = r.given ++ record { id = n.id; text = word } ∷ []; names = ns; due = None }
      → IsNext s options (resting p (held rows pending)) word next
  name_next n ns r next p rows pending word settled ahead ok is =
      let w = value_is_plain n.value word ok in
      let g : Given = record { id = n.id; text = word } in
      let to : Reading = record { given = r.given ++ g ∷ []; names = ns; due = None } in
      let pos = ahead.at.0 in
      let stands : Stands s options to (min (p + 1) usize_max) (given_rows s.rules r.given) (Some (n.id, word ∷ [])) = record {
        held = value_settles s n pos.rule r.given word pos.taker ahead.to_come.0 ok;
        ahead = rest_ahead s options p n ns r.given word ahead;
      } in
      let result : IsNext s options (resting p (held rows pending)) word to = record {
        position = min (p + 1) usize_max;
        rows = given_rows s.rules r.given;
        pending = Some (n.id, word ∷ []);
        stands = stands;
        is = rw (w.is, ← settled.kept) (positional_next s p rows pending n pos.rule w.first w.rest w.dashless pos.taker pos.at pos.last);
        fine = rw w.is (positional_fine s p rows pending n pos.rule w.first w.rest w.dashless pos.taker pos.at settled.fine);
      } in
      subst (λ (x : Reading). IsNext s options (resting p (held rows pending)) word x) (sym is) result

  -- an option that waits for its value
  option_next : (o : Argument) (r next : Reading) (p : ℕ) (rows : List Row) (pending : Option (Text × List Text)) → IsSettled s r.given rows pending → IsValueOption s o
      → AreAhead s options p r.names r.given → IsApart o.id r.names
      → is_given o.id r.given ≡ false → next ≡ record r { due = Some o } → IsNext s options (resting p (held rows pending)) (word_of o) next
  option_next o r next p rows pending settled met ahead own fresh is =
      let to : Reading = record r { due = Some o } in
      let stands : Stands s options to p (given_rows s.rules r.given) (Some (o.id, [])) = record {
        held = record { rule = met.rule; taker = met.taker; is = refl; kept = refl; fresh = fresh; apart = own };
        ahead = ahead;
      } in
      let result : IsNext s options (resting p (held rows pending)) (word_of o) to = record {
        position = p;
        rows = given_rows s.rules r.given;
        pending = Some (o.id, []);
        stands = stands;
        is = rw (← settled.kept) (met.met p rows pending);
        fine = met.fine p rows pending settled.fine;
      } in
      subst (λ (x : Reading). IsNext s options (resting p (held rows pending)) (word_of o) x) (sym is) result

  -- a flag
  flag_next : (o : Argument) (r next : Reading) (p : ℕ) (rows : List Row) (pending : Option (Text × List Text)) → IsSettled s r.given rows pending → IsFlagOption s o
      → AreAhead s options p r.names r.given → IsApart o.id r.names
      → is_given o.id r.given ≡ false → next ≡ record { given = r.given ++ record { id = o.id; text = codes "true" } ∷ []; names = r.names; due = None }
      → IsNext s options (resting p (held rows pending)) (word_of o) next
  flag_next o r next p rows pending settled met ahead own fresh is =
      let g : Given = record { id = o.id; text = codes "true" } in
      let to : Reading = record { given = r.given ++ g ∷ []; names = r.names; due = None } in
      let now = flag_used s.rules o met.rule r.given fresh met.setter in
      let ok = flag_fine s.rules o met.rule r.given fresh met.setter s.args_override_self in
      let react : react_fault s.rules s.args_override_self met.rule [] (held rows pending) ≡ [] = rw (settled.fine, settled.kept) ok in
      let stands : Stands s options to p (given_rows s.rules (r.given ++ g ∷ [])) None = record {
        held = record { fine = refl; kept = refl };
        ahead = still_ahead s options p r.names r.given g ahead own;
      } in
      let result : IsNext s options (resting p (held rows pending)) (word_of o) to = record {
        position = p;
        rows = given_rows s.rules (r.given ++ g ∷ []);
        pending = None;
        stands = stands;
        is = met.met p rows pending ∙ ap (λ (rs : List Row). resting p (held rs None)) (ap (used met.rule []) settled.kept ∙ now);
        fine = met.fine p rows pending react;
      } in
      subst (λ (x : Reading). IsNext s options (resting p (held rows pending)) (word_of o) x) (sym is) result

  -- ---- one word more

  met_next : (v : Value) (o : Argument) (r next : Reading) (p : ℕ) (rows : List Row) (pending : Option (Text × List Text)) → IsOptionBy v s o → IsSettled s r.given rows pending
      → AreAhead s options p r.names r.given → IsApart o.id r.names
      → is_given o.id r.given ≡ false → option_read v o r ≡ Some next → IsNext s options (resting p (held rows pending)) (word_of o) next
  met_next Flag o r next p rows pending met settled ahead own fresh e =
      flag_next o r next p rows pending settled met ahead own fresh (ap (λ (x : Option Reading). unwrap_or x next) (sym e))
  met_next Name o r next p rows pending met settled ahead own fresh e =
      option_next o r next p rows pending settled met ahead own fresh (ap (λ (x : Option Reading). unwrap_or x next) (sym e))
  met_next (Number least most) o r next p rows pending met settled ahead own fresh e =
      option_next o r next p rows pending settled met ahead own fresh (ap (λ (x : Option Reading). unwrap_or x next) (sym e))

  step_next : Each (IsOption s) options → (r next : Reading) (p : ℕ) (rows : List Row) (pending : Option (Text × List Text)) (word : Text) → Stands s options r p rows pending
      → step options r word ≡ Some next → IsNext s options (place r.due p rows pending) word next
  step_next each r next p rows pending word stands e = go r.due stands.held e
    where
      named : (ns : List Argument) → IsSettled s r.given rows pending → AreAhead s options p ns r.given → name_read word r.given ns ≡ Some next → IsNext s options (resting p (held rows pending)) word next
      named [] settled ahead h = cc
      named (n ∷ ns) settled ahead h =
          let q = value_given (is_value n.value word) _ next h in
          name_next n ns r next p rows pending word settled ahead q.0 q.1

      fresh : (o : Argument) → IsSettled s r.given rows pending → IsOption s o → IsApart o.id r.names → (b : Bool) → is_given o.id r.given ≡ b → cond b None (option_read o.value o r) ≡ Some next
          → IsNext s options (resting p (held rows pending)) (word_of o) next
      fresh o settled met own true is h = cc
      fresh o settled met own false is h = met_next o.value o r next p rows pending met settled stands.ahead own is h

      met : IsSettled s r.given rows pending → (o : Option Argument) → find (λ o. bytes_eq (word_of o) word) options ≡ o → word_read o word r ≡ Some next → IsNext s options (resting p (held rows pending)) word next
      met settled None is h = named r.names settled stands.ahead h
      met settled (Some o) is h =
          let q = each_found (IsOption s) (λ x. bytes_eq (word_of x) word) options o is each in
          let own = (each_found (λ x. IsApart x.id r.names) (λ x. bytes_eq (word_of x) word) options o is stands.ahead.others).0 in
          let same : (word_of o) ≡ word = (bytes_eq-Decides (word_of o) word).0 q.1 in
          subst (λ (w : Text). IsNext s options (resting p (held rows pending)) w next) same (fresh o settled q.0 own (is_given o.id r.given) refl h)

      go : (d : Option Argument) → IsHeld s d r rows pending → due_read options d word r ≡ Some next → IsNext s options (place d p rows pending) word next
      go (Some o) due h =
          let q = value_given (is_value o.value word) _ next h in
          due_next o r next p rows pending word due stands.ahead q.0 q.1
      go None settled h = met settled (find (λ o. bytes_eq (word_of o) word) options) refl h

  -- ---- all words

  pub record IsReached (w : Walk) (words : List Text) (end : Reading) : Type 0 where
    pub position : ℕ
    pub rows : List Row
    pub pending : Option (Text × List Text)
    pub stands : Stands s options end position rows pending
    pub is : fold (walked s.rules []) w words ≡ place end.due position rows pending
    pub fine : walk_fault s [] w words ≡ []

  pub plain_walk : Each (IsOption s) options → (words : List Text) (r end : Reading) (p : ℕ) (rows : List Row) (pending : Option (Text × List Text)) → Stands s options r p rows pending
      → read_all options (Some r) words ≡ Some end → IsReached (place r.due p rows pending) words end
  unfolding walk_fault
  plain_walk each [] r end p rows pending stands e =
      let same : r ≡ end = ap (λ (x : Option Reading). unwrap_or x end) e in
      subst (λ (x : Reading). IsReached (place r.due p rows pending) [] x) same (record { position = p; rows = rows; pending = pending; stands = stands; is = refl; fine = refl })
  plain_walk each (word ∷ rest) r end p rows pending stands e = go (step options r word) refl e (λ next q rs pend at h. plain_walk each rest next end q rs pend at h)
    where
      go : (o : Option Reading) → step options r word ≡ o → read_all options o rest ≡ Some end
          → ((next : Reading) (q : ℕ) (rs : List Row) (pend : Option (Text × List Text)) → Stands s options next q rs pend → read_all options (Some next) rest ≡ Some end → IsReached (place next.due q rs pend) rest end)
          → IsReached (place r.due p rows pending) (word ∷ rest) end
      go None is h later = cc
      go (Some next) is h later =
          let one = step_next each r next p rows pending word stands is in
          let more = later next one.position one.rows one.pending one.stands h in
          record {
            position = more.position;
            rows = more.rows;
            pending = more.pending;
            stands = more.stands;
            is = ap (λ (w : Walk). fold (walked s.rules []) w rest) one.is ∙ more.is;
            fine = rw one.fine (ap (λ (w : Walk). walk_fault s [] w rest) one.is ∙ more.fine);
          }
