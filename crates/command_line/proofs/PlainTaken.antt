-- Plain words are always taken by clap, and what its matches say of them is what they say.
use Rattle.std.proofs.Common.{◌≡◌, ◌∙◌, Bool, true, false, cond, List, [], ◌∷◌, Option, Some, None, option_and_then, sym, ap, subst, refl, bytes_eq, codes, is_some, arith}
use Rattle.std.proofs.lemmas.Slice.Eq.{bytes_eq-Decides}
use Rattle.clap.specs.Simple.{Shape, built}
use Rattle.clap.specs.Walk.{Row, Text}
use Rattle.clap.specs.Words.{fault_of, subcommand_of}
use Rattle.clap.proofs.OnLiterals.{clap_on_literals}
use Rattle.command_line.specs.Asked.{Asked, Values, batch_of, check_of, climb_of, demo_of, most_depth, most_search_depth, most_size, most_workers, reduce_of, replay_of, verify_of}
use Rattle.command_line.specs.App.{sec_app, check_app, replay_app, verify_app, demo_app, climb_app, reduce_app, batch_app}
use Rattle.command_line.specs.Meant.{is_taken, matched, meant, or_else, taken_command}
use Rattle.command_line.specs.App.{Line, batch_line, check_line, climb_line, demo_line, depth, most, reduce_line, replay_line, search_depth, size, verify_line, workers}
use Rattle.command_line.specs.Plain.{Given, asked_by, given_by, plain_command, values_given}
use Rattle.command_line.proofs.Rows.{Each}
use Rattle.command_line.proofs.Leaves.{sub}
use Rattle.command_line.proofs.Reading.{IsGood}
use Rattle.command_line.proofs.Lines.{check_is, replay_is, verify_is, demo_is, climb_is, reduce_is, batch_is}
use Rattle.command_line.proofs.PlainLevel.{IsLineOf, end_rows, plain_parsed}
use Rattle.command_line.proofs.PlainTop.{IsEntered, entered_fine, enters_it}
use Rattle.command_line.proofs.Saying.{flag_same, option_same, size_same, text_same}

-- clap takes the words, and its matches ask for this
pub record IsTakenFor (words : List Text) (a : Asked) : Type 0 where
  pub fine : fault_of sec_app words ≡ []
  pub asks : matched (subcommand_of sec_app words) ≡ Some a

-- the words after a command
command_taken : (l : Line) (s : Shape) (asks : Values → Option Asked) → IsLineOf s l → IsEntered (built sec_app) l.command s
    → ((given : List Given) → Each (IsGood l) given → matched (Some (s.name, end_rows s.rules given)) ≡ asks (values_given given))
    → (program : Text) (words : List Text) (a : Asked) → asked_by l asks words ≡ Some a → IsTakenFor (program ∷ l.command ∷ words) a
unfolding sec_app
command_taken l s asks fit enters says program words a e = go (given_by l words) refl e
  where
    go : (o : Option (List Given)) → given_by l words ≡ o → option_and_then (λ g. asks (values_given g)) o ≡ Some a → IsTakenFor (program ∷ l.command ∷ words) a
    go None is h = cc
    go (Some given) is h =
        let parsed = plain_parsed s l fit words given is in
        record {
          fine = entered_fine (built sec_app) l.command s enters words parsed.fine;
          asks = ap matched (enters_it (built sec_app) l.command s enters words) ∙ ap (λ (rs : List Row). matched (Some (s.name, rs))) parsed.rows ∙ says given parsed.good ∙ h;
        }

check_enters : IsEntered (built sec_app) check_line.command (sub 0)
unfolding clap_on_literals sec_app check_app replay_app verify_app demo_app climb_app reduce_app batch_app
check_enters = record { meets = refl; fine = refl; is = refl; nothing_else = refl }

replay_enters : IsEntered (built sec_app) replay_line.command (sub 1)
unfolding clap_on_literals sec_app check_app replay_app verify_app demo_app climb_app reduce_app batch_app
replay_enters = record { meets = refl; fine = refl; is = refl; nothing_else = refl }

verify_enters : IsEntered (built sec_app) verify_line.command (sub 2)
unfolding clap_on_literals sec_app check_app replay_app verify_app demo_app climb_app reduce_app batch_app
verify_enters = record { meets = refl; fine = refl; is = refl; nothing_else = refl }

demo_enters : IsEntered (built sec_app) demo_line.command (sub 3)
unfolding clap_on_literals sec_app check_app replay_app verify_app demo_app climb_app reduce_app batch_app
demo_enters = record { meets = refl; fine = refl; is = refl; nothing_else = refl }

climb_enters : IsEntered (built sec_app) climb_line.command (sub 4)
unfolding clap_on_literals sec_app check_app replay_app verify_app demo_app climb_app reduce_app batch_app
climb_enters = record { meets = refl; fine = refl; is = refl; nothing_else = refl }

reduce_enters : IsEntered (built sec_app) reduce_line.command (sub 5)
unfolding clap_on_literals sec_app check_app replay_app verify_app demo_app climb_app reduce_app batch_app
reduce_enters = record { meets = refl; fine = refl; is = refl; nothing_else = refl }

batch_enters : IsEntered (built sec_app) batch_line.command (sub 6)
unfolding clap_on_literals sec_app check_app replay_app verify_app demo_app climb_app reduce_app batch_app
batch_enters = record { meets = refl; fine = refl; is = refl; nothing_else = refl }

check_says : (given : List Given) → Each (IsGood check_line) given → matched (Some ((sub 0).name, end_rows (sub 0).rules given)) ≡ check_of (values_given given)
unfolding sec_app check_app replay_app verify_app demo_app climb_app reduce_app batch_app
check_says given good =
    let c = (sub 0).rules in
    let left = text_same c (codes "LEFT") given refl in
    let right = text_same c (codes "RIGHT") given refl in
    let k = option_same c (codes "k") given check_line depth 1 most_depth good refl refl refl (omega arith) refl in
    let d = size_same c (codes "d") given check_line search_depth 1 most_search_depth good refl refl refl (omega arith) refl in
    let w = option_same c (codes "j") given check_line workers 1 most_workers good refl refl refl (omega arith) refl in
    let classes = flag_same c (codes "classes") given refl in
    let stats = flag_same c (codes "stats") given refl in
    let trace = text_same c (codes "trace") given refl in
    let cert = text_same c (codes "cert") given refl in
    let tie = flag_same c (codes "tie") given refl in
    let least = flag_same c (codes "least") given refl in
    rw (left, right, k, d, w, classes, stats, trace, cert, tie, least) refl

replay_says : (given : List Given) → Each (IsGood replay_line) given → matched (Some ((sub 1).name, end_rows (sub 1).rules given)) ≡ replay_of (values_given given)
unfolding sec_app check_app replay_app verify_app demo_app climb_app reduce_app batch_app
replay_says given good =
    let c = (sub 1).rules in
    let left = text_same c (codes "LEFT") given refl in
    let right = text_same c (codes "RIGHT") given refl in
    let third = text_same c (codes "TRACE") given refl in
    let tie = flag_same c (codes "tie") given refl in
    rw (left, right, third, tie) refl

verify_says : (given : List Given) → Each (IsGood verify_line) given → matched (Some ((sub 2).name, end_rows (sub 2).rules given)) ≡ verify_of (values_given given)
unfolding sec_app check_app replay_app verify_app demo_app climb_app reduce_app batch_app
verify_says given good =
    let c = (sub 2).rules in
    let left = text_same c (codes "LEFT") given refl in
    let right = text_same c (codes "RIGHT") given refl in
    let third = text_same c (codes "CERT") given refl in
    let tie = flag_same c (codes "tie") given refl in
    rw (left, right, third, tie) refl

demo_says : (given : List Given) → Each (IsGood demo_line) given → matched (Some ((sub 3).name, end_rows (sub 3).rules given)) ≡ demo_of (values_given given)
unfolding sec_app check_app replay_app verify_app demo_app climb_app reduce_app batch_app
demo_says given good =
    let c = (sub 3).rules in
    let n = size_same c (codes "N") given demo_line size 0 most_size good refl refl refl (omega arith) refl in
    let k = option_same c (codes "k") given demo_line depth 1 most_depth good refl refl refl (omega arith) refl in
    let w = option_same c (codes "j") given demo_line workers 1 most_workers good refl refl refl (omega arith) refl in
    rw (n, k, w) refl

climb_says : (given : List Given) → Each (IsGood climb_line) given → matched (Some ((sub 4).name, end_rows (sub 4).rules given)) ≡ climb_of (values_given given)
unfolding sec_app check_app replay_app verify_app demo_app climb_app reduce_app batch_app
climb_says given good =
    let c = (sub 4).rules in
    let left = text_same c (codes "LEFT") given refl in
    let right = text_same c (codes "RIGHT") given refl in
    let m = size_same c (codes "m") given climb_line most 1 most_depth good refl refl refl (omega arith) refl in
    let w = option_same c (codes "j") given climb_line workers 1 most_workers good refl refl refl (omega arith) refl in
    let least = flag_same c (codes "least") given refl in
    rw (left, right, m, w, least) refl

reduce_says : (given : List Given) → Each (IsGood reduce_line) given → matched (Some ((sub 5).name, end_rows (sub 5).rules given)) ≡ reduce_of (values_given given)
unfolding sec_app check_app replay_app verify_app demo_app climb_app reduce_app batch_app
reduce_says given good =
    let c = (sub 5).rules in
    let net = text_same c (codes "NET") given refl in
    let out = text_same c (codes "OUT") given refl in
    let k = option_same c (codes "k") given reduce_line depth 1 most_depth good refl refl refl (omega arith) refl in
    let w = option_same c (codes "j") given reduce_line workers 1 most_workers good refl refl refl (omega arith) refl in
    let binary = flag_same c (codes "binary") given refl in
    rw (net, out, k, w, binary) refl

batch_says : (given : List Given) → Each (IsGood batch_line) given → matched (Some ((sub 6).name, end_rows (sub 6).rules given)) ≡ batch_of (values_given given)
unfolding sec_app check_app replay_app verify_app demo_app climb_app reduce_app batch_app
batch_says given good =
    let c = (sub 6).rules in
    let list = text_same c (codes "LIST") given refl in
    let k = option_same c (codes "k") given batch_line depth 1 most_depth good refl refl refl (omega arith) refl in
    let w = option_same c (codes "j") given batch_line workers 1 most_workers good refl refl refl (omega arith) refl in
    rw (list, k, w) refl

-- what the words after a command ask for, where it is none of the first few
abbrev from_batch : Text → List Text → Option Asked
from_batch command words = cond (bytes_eq command batch_line.command) (asked_by batch_line batch_of words) None

abbrev from_reduce : Text → List Text → Option Asked
from_reduce command words = cond (bytes_eq command reduce_line.command) (asked_by reduce_line reduce_of words) (from_batch command words)

abbrev from_climb : Text → List Text → Option Asked
from_climb command words = cond (bytes_eq command climb_line.command) (asked_by climb_line climb_of words) (from_reduce command words)

abbrev from_demo : Text → List Text → Option Asked
from_demo command words = cond (bytes_eq command demo_line.command) (asked_by demo_line demo_of words) (from_climb command words)

abbrev from_verify : Text → List Text → Option Asked
from_verify command words = cond (bytes_eq command verify_line.command) (asked_by verify_line verify_of words) (from_demo command words)

abbrev from_replay : Text → List Text → Option Asked
from_replay command words = cond (bytes_eq command replay_line.command) (asked_by replay_line replay_of words) (from_verify command words)

-- plain words
pub plain_taken : (words : List Text) (a : Asked) → plain_command words ≡ Some a → IsTakenFor words a
unfolding plain_command
plain_taken [] a e = cc
plain_taken (program ∷ []) a e = cc
plain_taken (program ∷ command ∷ words) a e = first (bytes_eq command check_line.command) refl e
  where
    by : (word : Text) → bytes_eq command word ≡ true → IsTakenFor (program ∷ word ∷ words) a → IsTakenFor (program ∷ command ∷ words) a
    by word same h = subst (λ (w : Text). IsTakenFor (program ∷ w ∷ words) a) (sym ((bytes_eq-Decides command word).0 same)) h

    seventh : (b : Bool) → bytes_eq command batch_line.command ≡ b → cond b (asked_by batch_line batch_of words) None ≡ Some a → IsTakenFor (program ∷ command ∷ words) a
    seventh true same h = by batch_line.command same (command_taken batch_line (sub 6) batch_of batch_is batch_enters batch_says program words a h)
    seventh false same h = cc

    sixth : (b : Bool) → bytes_eq command reduce_line.command ≡ b → cond b (asked_by reduce_line reduce_of words) (from_batch command words) ≡ Some a → IsTakenFor (program ∷ command ∷ words) a
    sixth true same h = by reduce_line.command same (command_taken reduce_line (sub 5) reduce_of reduce_is reduce_enters reduce_says program words a h)
    sixth false same h = seventh (bytes_eq command batch_line.command) refl h

    fifth : (b : Bool) → bytes_eq command climb_line.command ≡ b → cond b (asked_by climb_line climb_of words) (from_reduce command words) ≡ Some a → IsTakenFor (program ∷ command ∷ words) a
    fifth true same h = by climb_line.command same (command_taken climb_line (sub 4) climb_of climb_is climb_enters climb_says program words a h)
    fifth false same h = sixth (bytes_eq command reduce_line.command) refl h

    fourth : (b : Bool) → bytes_eq command demo_line.command ≡ b → cond b (asked_by demo_line demo_of words) (from_climb command words) ≡ Some a → IsTakenFor (program ∷ command ∷ words) a
    fourth true same h = by demo_line.command same (command_taken demo_line (sub 3) demo_of demo_is demo_enters demo_says program words a h)
    fourth false same h = fifth (bytes_eq command climb_line.command) refl h

    third : (b : Bool) → bytes_eq command verify_line.command ≡ b → cond b (asked_by verify_line verify_of words) (from_demo command words) ≡ Some a → IsTakenFor (program ∷ command ∷ words) a
    third true same h = by verify_line.command same (command_taken verify_line (sub 2) verify_of verify_is verify_enters verify_says program words a h)
    third false same h = fourth (bytes_eq command demo_line.command) refl h

    second : (b : Bool) → bytes_eq command replay_line.command ≡ b → cond b (asked_by replay_line replay_of words) (from_verify command words) ≡ Some a → IsTakenFor (program ∷ command ∷ words) a
    second true same h = by replay_line.command same (command_taken replay_line (sub 1) replay_of replay_is replay_enters replay_says program words a h)
    second false same h = third (bytes_eq command verify_line.command) refl h

    first : (b : Bool) → bytes_eq command check_line.command ≡ b → cond b (asked_by check_line check_of words) (from_replay command words) ≡ Some a → IsTakenFor (program ∷ command ∷ words) a
    first true same h = by check_line.command same (command_taken check_line (sub 0) check_of check_is check_enters check_says program words a h)
    first false same h = second (bytes_eq command replay_line.command) refl h

-- clap's matches of plain words say what these say
pub plain_agrees : (words : List Text) (a : Asked) → plain_command words ≡ Some a → taken_command words ≡ Some a
plain_agrees words a is =
    let t = plain_taken words a is in
    let fine = t.fine in
    rw fine t.asks

-- clap takes plain words
pub plain_is_taken : (words : List Text) → is_some (plain_command words) ≡ true → is_taken words ≡ true
plain_is_taken words e = go (plain_command words) refl e
  where
    go : (o : Option Asked) → plain_command words ≡ o → is_some o ≡ true → is_taken words ≡ true
    go None is h = cc
    go (Some a) is h = let taken = (plain_taken words a is).fine in rw taken refl

-- words that clap doesn't take aren't plain
pub refused_is_not_plain : (words : List Text) → is_taken words ≡ false → plain_command words ≡ None
refused_is_not_plain words e = go (plain_command words) refl
  where
    go : (o : Option Asked) → plain_command words ≡ o → o ≡ None
    go None is = refl
    go (Some a) is = let taken = (plain_taken words a is).fine in let bad : true ≡ false = (rw taken refl) ∙ e in cc

-- what words mean is what clap says of them
pub meant_is_taken : (words : List Text) → meant words ≡ taken_command words
unfolding meant
meant_is_taken words = go (plain_command words) refl
  where
    go : (o : Option Asked) → plain_command words ≡ o → or_else o (taken_command words) ≡ taken_command words
    go None is = refl
    go (Some a) is = sym (plain_agrees words a is)
