-- Words that clap takes ask for something: the matches of each subcommand have what its line of the usage text asks for.
use Rattle.std.proofs.Common.{◌≡◌, ◌&&◌, ◌||◌, inl, inr, ℕ, Bool, true, false, not, List, [], Option, Some, None, find, is_some, option_map, refl, sym, subst, arith, bytes_eq, codes, slice_index_or}
use Rattle.std.specs.Option.{option_map_or}
use Rattle.std.proofs.lemmas.Slice.Eq.{bytes_eq-Decides}
use Rattle.clap.specs.Simple.{App, Shape, argument_words, built, entered, help_rule, help_shape, label_of, names_of, rows_at}
use Rattle.clap.specs.Takes.{is_given}
use Rattle.clap.specs.Faults.{built_fault, entered_fault, level_fault}
use Rattle.clap.specs.Walk.{Row, Rule, Text, answers_to, first_of, nothing_held, rows_after, walk}
use Rattle.clap.specs.Words.{fault_of, subcommand_of}
use Rattle.command_line.specs.App.{sec_app, check_app, replay_app, verify_app, demo_app, climb_app, reduce_app, batch_app}
use Rattle.command_line.specs.Asked.{CheckAsked, batch_from, check_from, climb_from, reduce_from, replay_from, verify_from, demo_from, most_depth, most_from, most_size, most_workers}
use Rattle.command_line.specs.Meant.{has_flag, matched, number_of}
use Rattle.command_line.proofs.Rows.{Each, each_found}
use Rattle.command_line.proofs.Walking.{IsFineStop}
use Rattle.command_line.proofs.Ends.{IsFit, IsRight, leaf_right, top_right, given_there}
use Rattle.command_line.proofs.Fitting.{fits}
use Rattle.command_line.proofs.Spelling.{text_there, number_there}

-- the subcommand at a place, as built, and an argument of it
abbrev pub sub : ℕ → Shape
sub i = slice_index_or (built sec_app).subs i help_shape

abbrev pub rule : ℕ → ℕ → Rule
rule i k = slice_index_or (sub i).rules k help_rule

is_there : (id : Text) (rows : List Row) → not (is_given id rows) ≡ false → is_given id rows ≡ true
is_there id rows h = go (is_given id rows) h
  where
    go : (b : Bool) → not b ≡ false → b ≡ true
    go true e = refl
    go false e = cc

check_some : (l r : Option Text) (k w : Option ℕ) (asked : Text → Text → ℕ → ℕ → CheckAsked) → is_some l ≡ true → is_some r ≡ true → is_some k ≡ true → is_some w ≡ true
    → is_some (check_from l r k w asked) ≡ true
check_some None r k w asked a b c d = cc
check_some (Some l) None k w asked a b c d = cc
check_some (Some l) (Some r) None w asked a b c d = cc
check_some (Some l) (Some r) (Some k) None asked a b c d = cc
check_some (Some l) (Some r) (Some k) (Some w) asked a b c d = refl

replay_some : (l r t : Option Text) (tied : Bool) → is_some l ≡ true → is_some r ≡ true → is_some t ≡ true → is_some (replay_from l r t tied) ≡ true
replay_some None r t tied a b c = cc
replay_some (Some l) None t tied a b c = cc
replay_some (Some l) (Some r) None tied a b c = cc
replay_some (Some l) (Some r) (Some t) tied a b c = refl

verify_some : (l r t : Option Text) (tied : Bool) → is_some l ≡ true → is_some r ≡ true → is_some t ≡ true → is_some (verify_from l r t tied) ≡ true
verify_some None r t tied a b c = cc
verify_some (Some l) None t tied a b c = cc
verify_some (Some l) (Some r) None tied a b c = cc
verify_some (Some l) (Some r) (Some t) tied a b c = refl

demo_some : (n k w : Option ℕ) → is_some n ≡ true → is_some k ≡ true → is_some w ≡ true → is_some (demo_from n k w) ≡ true
demo_some None k w a b c = cc
demo_some (Some n) None w a b c = cc
demo_some (Some n) (Some k) None a b c = cc
demo_some (Some n) (Some k) (Some w) a b c = refl

climb_some : (l r : Option Text) (w : Option ℕ) (most : ℕ) (least : Bool) → is_some l ≡ true → is_some r ≡ true → is_some w ≡ true → is_some (climb_from l r w most least) ≡ true
climb_some None r w most least a b c = cc
climb_some (Some l) None w most least a b c = cc
climb_some (Some l) (Some r) None most least a b c = cc
climb_some (Some l) (Some r) (Some w) most least a b c = refl

reduce_some : (n o : Option Text) (k w : Option ℕ) (binary : Bool) → is_some n ≡ true → is_some o ≡ true → is_some k ≡ true → is_some w ≡ true → is_some (reduce_from n o k w binary) ≡ true
reduce_some None o k w binary a b c d = cc
reduce_some (Some n) None k w binary a b c d = cc
reduce_some (Some n) (Some o) None w binary a b c d = cc
reduce_some (Some n) (Some o) (Some k) None binary a b c d = cc
reduce_some (Some n) (Some o) (Some k) (Some w) binary a b c d = refl

batch_some : (l : Option Text) (k w : Option ℕ) → is_some l ≡ true → is_some k ≡ true → is_some w ≡ true → is_some (batch_from l k w) ≡ true
batch_some None k w a b c = cc
batch_some (Some l) None w a b c = cc
batch_some (Some l) (Some k) None a b c = cc
batch_some (Some l) (Some k) (Some w) a b c = refl

-- what a subcommand's words ask for, where they have no fault and it is no call for help
abbrev pub AsksFor : Bool → Text → Shape → Type 0
AsksFor off word s = answers_to word (label_of s) ≡ true → (bytes_eq word (codes "help") && not off) ≡ false → (words : List Text) → level_fault s [] nothing_held words false [] ≡ []
    → is_some (matched (Some (rows_at s words))) ≡ true

check_fit : IsFit (sub 0)
unfolding sec_app check_app replay_app verify_app demo_app climb_app reduce_app batch_app
check_fit = fits (sub 0) refl refl refl refl

replay_fit : IsFit (sub 1)
unfolding sec_app check_app replay_app verify_app demo_app climb_app reduce_app batch_app
replay_fit = fits (sub 1) refl refl refl refl

verify_fit : IsFit (sub 2)
unfolding sec_app check_app replay_app verify_app demo_app climb_app reduce_app batch_app
verify_fit = fits (sub 2) refl refl refl refl

demo_fit : IsFit (sub 3)
unfolding sec_app check_app replay_app verify_app demo_app climb_app reduce_app batch_app
demo_fit = fits (sub 3) refl refl refl refl

climb_fit : IsFit (sub 4)
unfolding sec_app check_app replay_app verify_app demo_app climb_app reduce_app batch_app
climb_fit = fits (sub 4) refl refl refl refl

reduce_fit : IsFit (sub 5)
unfolding sec_app check_app replay_app verify_app demo_app climb_app reduce_app batch_app
reduce_fit = fits (sub 5) refl refl refl refl

batch_fit : IsFit (sub 6)
unfolding sec_app check_app replay_app verify_app demo_app climb_app reduce_app batch_app
batch_fit = fits (sub 6) refl refl refl refl

top_fit : IsFit (built sec_app).top
unfolding sec_app check_app replay_app verify_app demo_app climb_app reduce_app batch_app
top_fit = fits (built sec_app).top refl refl refl refl

check_right : (rows : List Row) → IsRight (sub 0) rows → is_some (matched (Some ((sub 0).name, rows))) ≡ true
unfolding sec_app check_app replay_app verify_app demo_app climb_app reduce_app batch_app
check_right rows r =
    let left = given_there (codes "LEFT") rows (is_there (codes "LEFT") rows r.required.0) in
    let right = given_there (codes "RIGHT") rows (is_there (codes "RIGHT") rows r.required.1.0) in
    let depth = r.defaults (codes "k") (inr (inr (inl (refl, omega arith)))) in
    let workers = r.defaults (codes "j") (inr (inr (inr (inr (inl (refl, omega arith)))))) in
    check_some (first_of (codes "LEFT") rows) (first_of (codes "RIGHT") rows) (number_of (codes "k") 1 most_depth rows) (number_of (codes "j") 1 most_workers rows) _
    (text_there (sub 0).rules (codes "LEFT") rows left r.read) (text_there (sub 0).rules (codes "RIGHT") rows right r.read)
    (number_there (sub 0).rules (codes "k") rows (rule 0 2) 1 most_depth refl refl depth r.read) (number_there (sub 0).rules (codes "j") rows (rule 0 4) 1 most_workers refl refl workers r.read)

replay_right : (rows : List Row) → IsRight (sub 1) rows → is_some (matched (Some ((sub 1).name, rows))) ≡ true
unfolding sec_app check_app replay_app verify_app demo_app climb_app reduce_app batch_app
replay_right rows r =
    let left = given_there (codes "LEFT") rows (is_there (codes "LEFT") rows r.required.0) in
    let right = given_there (codes "RIGHT") rows (is_there (codes "RIGHT") rows r.required.1.0) in
    let trace = given_there (codes "TRACE") rows (is_there (codes "TRACE") rows r.required.1.1.0) in
    replay_some (first_of (codes "LEFT") rows) (first_of (codes "RIGHT") rows) (first_of (codes "TRACE") rows) (has_flag (codes "tie") rows)
    (text_there (sub 1).rules (codes "LEFT") rows left r.read) (text_there (sub 1).rules (codes "RIGHT") rows right r.read) (text_there (sub 1).rules (codes "TRACE") rows trace r.read)

verify_right : (rows : List Row) → IsRight (sub 2) rows → is_some (matched (Some ((sub 2).name, rows))) ≡ true
unfolding sec_app check_app replay_app verify_app demo_app climb_app reduce_app batch_app
verify_right rows r =
    let left = given_there (codes "LEFT") rows (is_there (codes "LEFT") rows r.required.0) in
    let right = given_there (codes "RIGHT") rows (is_there (codes "RIGHT") rows r.required.1.0) in
    let cert = given_there (codes "CERT") rows (is_there (codes "CERT") rows r.required.1.1.0) in
    verify_some (first_of (codes "LEFT") rows) (first_of (codes "RIGHT") rows) (first_of (codes "CERT") rows) (has_flag (codes "tie") rows)
    (text_there (sub 2).rules (codes "LEFT") rows left r.read) (text_there (sub 2).rules (codes "RIGHT") rows right r.read) (text_there (sub 2).rules (codes "CERT") rows cert r.read)

demo_right : (rows : List Row) → IsRight (sub 3) rows → is_some (matched (Some ((sub 3).name, rows))) ≡ true
unfolding sec_app check_app replay_app verify_app demo_app climb_app reduce_app batch_app
demo_right rows r =
    let size = given_there (codes "N") rows (is_there (codes "N") rows r.required.0) in
    let depth = r.defaults (codes "k") (inr (inl (refl, omega arith))) in
    let workers = r.defaults (codes "j") (inr (inr (inl (refl, omega arith)))) in
    demo_some (number_of (codes "N") 0 most_size rows) (number_of (codes "k") 1 most_depth rows) (number_of (codes "j") 1 most_workers rows)
    (number_there (sub 3).rules (codes "N") rows (rule 3 0) 0 most_size refl refl size r.read)
    (number_there (sub 3).rules (codes "k") rows (rule 3 1) 1 most_depth refl refl depth r.read) (number_there (sub 3).rules (codes "j") rows (rule 3 2) 1 most_workers refl refl workers r.read)

climb_right : (rows : List Row) → IsRight (sub 4) rows → is_some (matched (Some ((sub 4).name, rows))) ≡ true
unfolding sec_app check_app replay_app verify_app demo_app climb_app reduce_app batch_app
climb_right rows r =
    let left = given_there (codes "LEFT") rows (is_there (codes "LEFT") rows r.required.0) in
    let right = given_there (codes "RIGHT") rows (is_there (codes "RIGHT") rows r.required.1.0) in
    let workers = r.defaults (codes "j") (inr (inr (inr (inl (refl, omega arith))))) in
    climb_some (first_of (codes "LEFT") rows) (first_of (codes "RIGHT") rows) (number_of (codes "j") 1 most_workers rows) (most_from (number_of (codes "m") 1 most_depth rows)) (has_flag (codes "least") rows)
    (text_there (sub 4).rules (codes "LEFT") rows left r.read) (text_there (sub 4).rules (codes "RIGHT") rows right r.read)
    (number_there (sub 4).rules (codes "j") rows (rule 4 3) 1 most_workers refl refl workers r.read)

reduce_right : (rows : List Row) → IsRight (sub 5) rows → is_some (matched (Some ((sub 5).name, rows))) ≡ true
unfolding sec_app check_app replay_app verify_app demo_app climb_app reduce_app batch_app
reduce_right rows r =
    let net = given_there (codes "NET") rows (is_there (codes "NET") rows r.required.0) in
    let out = given_there (codes "OUT") rows (is_there (codes "OUT") rows r.required.1.0) in
    let depth = r.defaults (codes "k") (inr (inr (inl (refl, omega arith)))) in
    let workers = r.defaults (codes "j") (inr (inr (inr (inl (refl, omega arith))))) in
    reduce_some (first_of (codes "NET") rows) (first_of (codes "OUT") rows) (number_of (codes "k") 1 most_depth rows) (number_of (codes "j") 1 most_workers rows) (has_flag (codes "binary") rows)
    (text_there (sub 5).rules (codes "NET") rows net r.read) (text_there (sub 5).rules (codes "OUT") rows out r.read)
    (number_there (sub 5).rules (codes "k") rows (rule 5 2) 1 most_depth refl refl depth r.read) (number_there (sub 5).rules (codes "j") rows (rule 5 3) 1 most_workers refl refl workers r.read)

batch_right : (rows : List Row) → IsRight (sub 6) rows → is_some (matched (Some ((sub 6).name, rows))) ≡ true
unfolding sec_app check_app replay_app verify_app demo_app climb_app reduce_app batch_app
batch_right rows r =
    let list = given_there (codes "LIST") rows (is_there (codes "LIST") rows r.required.0) in
    let depth = r.defaults (codes "k") (inr (inl (refl, omega arith))) in
    let workers = r.defaults (codes "j") (inr (inr (inl (refl, omega arith)))) in
    batch_some (first_of (codes "LIST") rows) (number_of (codes "k") 1 most_depth rows) (number_of (codes "j") 1 most_workers rows)
    (text_there (sub 6).rules (codes "LIST") rows list r.read)
    (number_there (sub 6).rules (codes "k") rows (rule 6 1) 1 most_depth refl refl depth r.read) (number_there (sub 6).rules (codes "j") rows (rule 6 2) 1 most_workers refl refl workers r.read)

asks : (off : Bool) (word : Text) (s : Shape) → IsFit s → ((rows : List Row) → IsRight s rows → is_some (matched (Some (s.name, rows))) ≡ true) → AsksFor off word s
asks off word s fit right answers other words f = right (rows_after s.rules [] words) (leaf_right s fit words f)

left_of : (b : Bool) → (b || false) ≡ true → b ≡ true
left_of true e = refl
left_of false e = cc

help_asks : (word : Text) → AsksFor false word (sub 7)
unfolding sec_app check_app replay_app verify_app demo_app climb_app reduce_app batch_app
help_asks word answers other words f =
    let same : codes "help" ≡ word = (bytes_eq-Decides (codes "help") word).0 (left_of (bytes_eq (codes "help") word) answers) in
    let bad : true ≡ false = subst (λ w. (bytes_eq w (codes "help") && not false) ≡ false) (sym same) other in
    cc

each_asks : (word : Text) → Each (AsksFor (built sec_app).top.disable_help_subcommand word) (built sec_app).subs
unfolding sec_app check_app replay_app verify_app demo_app climb_app reduce_app batch_app
each_asks word = (asks false word (sub 0) check_fit check_right, (asks false word (sub 1) replay_fit replay_right, (asks false word (sub 2) verify_fit verify_right, (asks false word (sub 3) demo_fit demo_right, (asks false word (sub 4) climb_fit climb_right, (asks false word (sub 5) reduce_fit reduce_right, (asks false word (sub 6) batch_fit batch_right, (help_asks word, tt))))))))

-- the subcommand that a walk stopped at
entered_asks : (a : App) → ((word : Text) → Each (AsksFor a.top.disable_help_subcommand word) a.subs) → (stop : Option (Text × List Text)) → is_some (entered a stop) ≡ true → entered_fault a stop ≡ []
    → IsFineStop a.top.disable_help_subcommand stop → is_some (matched (entered a stop)) ≡ true
entered_asks a each None has f fine = cc
entered_asks a each (Some p) has f fine = go (find (λ s. answers_to p.0 (label_of s)) a.subs) refl has f
  where
    go : (o : Option Shape) → find (λ s. answers_to p.0 (label_of s)) a.subs ≡ o → is_some (option_map (λ s. rows_at s p.1) o) ≡ true → option_map_or (λ s. level_fault s [] nothing_held p.1 false []) o [] ≡ []
        → is_some (matched (option_map (λ s. rows_at s p.1) o)) ≡ true
    go None e none h = cc
    go (Some s) e some h =
        let q = each_found (AsksFor a.top.disable_help_subcommand p.0) (λ t. answers_to p.0 (label_of t)) a.subs s e (each p.0) in
        q.0 q.1 fine p.1 h

built_asks : (a : App) → IsFit a.top → a.top.subcommand_required ≡ true → ((word : Text) → Each (AsksFor a.top.disable_help_subcommand word) a.subs) → (words : List Text) → built_fault a nothing_held words ≡ []
    → is_some (matched (entered a (walk a.top.rules (names_of a) nothing_held words).stopped)) ≡ true
built_asks a fit required each words f =
    let stop = (walk a.top.rules (names_of a) nothing_held words).stopped in
    let t = top_right a.top fit required (names_of a) words (is_some (entered a stop)) (entered_fault a stop) f in
    entered_asks a each stop t.0 t.1 t.2

top_required : (built sec_app).top.subcommand_required ≡ true
unfolding sec_app
top_required = refl

-- words that clap takes ask for something
pub taken_asks : (words : List Text) → fault_of sec_app words ≡ [] → is_some (matched (subcommand_of sec_app words)) ≡ true
taken_asks words f = built_asks (built sec_app) top_fit top_required each_asks (argument_words sec_app words) f
