-- The row of an argument at the end of a parse: what was given for it, or its default.
use Rattle.std.proofs.Common.{◌≡◌, ◌∙◌, ◌||◌, ◌++◌, Bool, true, false, cond, List, [], ◌∷◌, Option, Some, None, find, fold, option_map, sym, ap, subst, refl, bytes_eq}
use Rattle.std.proofs.lemmas.Slice.Eq.{bytes_eq-Decides}
use Rattle.clap.specs.Walk.{Row, Rule, Text, default_rows, has_row, more_values, reading_by, with_default}
use Rattle.clap.specs.declared.builder.value_parser.Reading.{Reading}
use Rattle.clap.specs.declared.parser.matches.ValueSource.TheVariants.{DefaultValue}
use Rattle.command_line.specs.Plain.{Given}
use Rattle.command_line.proofs.Rows.{at_end}
use Rattle.command_line.proofs.Uses.{given_row, given_rows}

abbrev pub row_at : Text → List Row → Option Row
row_at id rows = find (λ r. bytes_eq r.id id) rows

abbrev pub or_row : Option Row → Option Row → Option Row
or_row None other = other
or_row (Some r) other = Some r

-- the row of the first default with an id
abbrev pub default_row : Text → Reading → List Text → Option Row → Option Row
default_row id how [] other = other
default_row id how (v ∷ vs) other = Some (record { id = id; values = v ∷ vs; count = None; source = Some DefaultValue; reading = how })

abbrev pub default_at : Text → List Rule → Option Row
default_at id [] = None
default_at id (a ∷ xs) = cond (bytes_eq a.id id) (default_row a.id (reading_by a) a.defaults (default_at id xs)) (default_at id xs)

none_there : (id : Text) (rows : List Row) (r : Row) → row_at id (rows ++ r ∷ []) ≡ or_row (row_at id rows) (cond (bytes_eq r.id id) (Some r) None)
none_there id [] r = refl
none_there id (x ∷ xs) r = go (bytes_eq x.id id) (none_there id xs r)
  where
    go : (b : Bool) → row_at id (xs ++ r ∷ []) ≡ or_row (row_at id xs) (cond (bytes_eq r.id id) (Some r) None)
        → cond b (Some x) (row_at id (xs ++ r ∷ [])) ≡ or_row (cond b (Some x) (row_at id xs)) (cond (bytes_eq r.id id) (Some r) None)
    go true h = refl
    go false h = h

there : (id : Text) (rows : List Row) (other else : Option Row) → has_row id rows ≡ true → or_row (row_at id rows) other ≡ or_row (row_at id rows) else
there id [] other else h = cc
there id (x ∷ xs) other else h = go (bytes_eq x.id id) h (there id xs other else)
  where
    go : (b : Bool) → (b || has_row id xs) ≡ true → (has_row id xs ≡ true → or_row (row_at id xs) other ≡ or_row (row_at id xs) else) → or_row (cond b (Some x) (row_at id xs)) other ≡ or_row (cond b (Some x) (row_at id xs)) else
    go true e more = refl
    go false e more = more e

or_same : (b : Bool) (o other : Option Row) → or_row o (cond b other other) ≡ or_row o other
or_same true o other = refl
or_same false o other = refl

or_twice : (b : Bool) (o : Option Row) (r : Row) (other : Option Row) → or_row (or_row o (cond b (Some r) None)) other ≡ or_row o (cond b (Some r) other)
or_twice true None r other = refl
or_twice true (Some x) r other = refl
or_twice false None r other = refl
or_twice false (Some x) r other = refl

-- one default more
default_found : (id : Text) (rows : List Row) (a : Rule) (other : Option Row)
    → or_row (row_at id (with_default rows a)) other ≡ or_row (row_at id rows) (cond (bytes_eq a.id id) (default_row a.id (reading_by a) a.defaults other) other)
default_found id rows a other = go (has_row a.id rows) refl
  where
    kept : (b : Bool) → bytes_eq a.id id ≡ b → has_row a.id rows ≡ true → or_row (row_at id rows) other ≡ or_row (row_at id rows) (cond b (default_row a.id (reading_by a) a.defaults other) other)
    kept true same h = there id rows other _ (subst (λ (i : Text). has_row i rows ≡ true) ((bytes_eq-Decides a.id id).0 same) h)
    kept false same h = refl

    given : has_row a.id rows ≡ false → (ds : List Text) → or_row (row_at id (default_rows a.id (reading_by a) ds rows)) other ≡ or_row (row_at id rows) (cond (bytes_eq a.id id) (default_row a.id (reading_by a) ds other) other)
    given none [] = sym (or_same (bytes_eq a.id id) (row_at id rows) other)
    given none (v ∷ vs) =
        let row : Row = record { id = a.id; values = v ∷ vs; count = None; source = Some DefaultValue; reading = reading_by a } in
        ap (λ (rs : List Row). or_row (row_at id rs) other) (at_end a.id (more_values DefaultValue (v ∷ vs)) (row ∷ []) rows none)
        ∙ ap (λ (o : Option Row). or_row o other) (none_there id rows row)
        ∙ or_twice (bytes_eq a.id id) (row_at id rows) row other

    go : (b : Bool) → has_row a.id rows ≡ b → or_row (row_at id (cond b rows (default_rows a.id (reading_by a) a.defaults rows))) other
        ≡ or_row (row_at id rows) (cond (bytes_eq a.id id) (default_row a.id (reading_by a) a.defaults other) other)
    go true e = kept (bytes_eq a.id id) refl e
    go false e = given e a.defaults

or_nothing : (o : Option Row) → or_row o None ≡ o
or_nothing None = refl
or_nothing (Some r) = refl

found_after : (id : Text) (xs : List Rule) (rows : List Row) → row_at id (fold with_default rows xs) ≡ or_row (row_at id rows) (default_at id xs)
found_after id [] rows = sym (or_nothing (row_at id rows))
found_after id (a ∷ xs) rows = found_after id xs (with_default rows a) ∙ default_found id rows a (default_at id xs)

row_given : (c : List Rule) (id : Text) (given : List Given) → row_at id (given_rows c given) ≡ option_map (given_row c) (find (λ g. bytes_eq g.id id) given)
row_given c id [] = refl
row_given c id (g ∷ gs) = go (bytes_eq g.id id) (row_given c id gs)
  where
    go : (b : Bool) → row_at id (given_rows c gs) ≡ option_map (given_row c) (find (λ g. bytes_eq g.id id) gs)
        → cond b (Some (given_row c g)) (row_at id (given_rows c gs)) ≡ option_map (given_row c) (cond b (Some g) (find (λ g. bytes_eq g.id id) gs))
    go true h = refl
    go false h = h

-- the row at the end
pub row_found : (c : List Rule) (id : Text) (given : List Given) → row_at id (fold with_default (given_rows c given) c) ≡ or_row (option_map (given_row c) (find (λ g. bytes_eq g.id id) given)) (default_at id c)
row_found c id given = found_after id c (given_rows c given) ∙ ap (λ (o : Option Row). or_row o (default_at id c)) (row_given c id given)
