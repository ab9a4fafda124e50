-- What a row that is there says, where it is read: a text, or a number within its limits.
use Rattle.std.proofs.Common.{◌≡◌, ◌∙◌, ◌<◌, ◌||◌, ℕ, Bool, true, false, cond, List, [], ◌∷◌, length, Option, Some, None, find, is_some, option_map, option_and_then, unwrap_or, slice_get, sym, ap, subst, refl, arith, bytes_eq}
use Rattle.std.proofs.lemmas.Slice.Eq.{bytes_eq-Decides}
use Rattle.clap.specs.Kinds.{value_kinds, values_kinds}
use Rattle.clap.specs.Values.{read_as, reading_of, refused_kind}
use Rattle.clap.specs.Facts.{parser_of_value}
use Rattle.clap.specs.ValueTests.{accepts}
use Rattle.clap.specs.Walk.{Row, Rule, Text, arg_by_id, first_of, has_row, row_text}
use Rattle.clap.specs.declared.builder.value_parser.Reading.{Reading}
use Rattle.clap.specs.declared.builder.value_parser.Reading.TheVariants.{AsWritten}
use Rattle.clap.specs.declared.builder.value_parser.ValueParser.TheVariants.{Unsigned}
use Rattle.clap.specs.declared.error.kind.ErrorKind.{ErrorKind}
use Rattle.command_line.specs.Meant.{number_in, number_of}
use Rattle.command_line.proofs.Rows.{each_found, no_fault, AreRead, IsRead}

found_there : (id : Text) (rows : List Row) → has_row id rows ≡ true → is_some (find (λ r. bytes_eq r.id id) rows) ≡ true
found_there id [] h = cc
found_there id (r ∷ rs) h = go (bytes_eq r.id id) h (λ e. found_there id rs e)
  where
    go : (b : Bool) → (b || has_row id rs) ≡ true → (has_row id rs ≡ true → is_some (find (λ x. bytes_eq x.id id) rs) ≡ true) → is_some (cond b (Some r) (find (λ x. bytes_eq x.id id) rs)) ≡ true
    go true e more = refl
    go false e more = more e

head_there : (vs : List Text) → 0 < length vs → is_some (slice_get vs 0) ≡ true
head_there [] lt = absurd (omega arith)
head_there (v ∷ vs) lt = refl

-- a text
pub text_there : (c : List Rule) (id : Text) (rows : List Row) → has_row id rows ≡ true → AreRead c rows → is_some (first_of id rows) ≡ true
text_there c id rows h g = go (find (λ r. bytes_eq r.id id) rows) refl (found_there id rows h)
  where
    go : (o : Option Row) → find (λ r. bytes_eq r.id id) rows ≡ o → is_some o ≡ true → is_some (option_and_then (λ r. slice_get r.values 0) o) ≡ true
    go None e none = cc
    go (Some r) e some = head_there r.values (each_found (IsRead c) (λ x. bytes_eq x.id id) rows r e g).0.some

no_refusal : (b : Bool) (k : ErrorKind) → cond b [] (k ∷ []) ≡ [] → b ≡ true
no_refusal true k e = refl
no_refusal false k e = cc

number_read : (least most : ℕ) (ignore_case : Bool) (how : Reading) (vs : List Text) → how ≡ AsWritten → 0 < length vs → values_kinds ignore_case (Unsigned least most) vs ≡ []
    → is_some (number_in least most (option_map (read_as how) (slice_get vs 0))) ≡ true
number_read least most ignore_case how [] is lt f = absurd (omega arith)
number_read least most ignore_case how (v ∷ vs) is lt f =
    let p = no_fault (value_kinds ignore_case (Unsigned least most) v) (values_kinds ignore_case (Unsigned least most) vs) f in
    let ok : accepts ignore_case (Unsigned least most) v ≡ true = no_refusal (accepts ignore_case (Unsigned least most) v) (refused_kind (Unsigned least most)) p.0 in
    rw (is, ok) refl

-- a number
pub number_there : (c : List Rule) (id : Text) (rows : List Row) (a : Rule) (least most : ℕ) → arg_by_id c id ≡ Some a → a.parser ≡ Some (Unsigned least most) → has_row id rows ≡ true
    → AreRead c rows → is_some (number_of id least most rows) ≡ true
number_there c id rows a least most own parser h g = go (find (λ r. bytes_eq r.id id) rows) refl (found_there id rows h)
  where
    of_row : (r : Row) → IsRead c r → r.id ≡ id → is_some (number_in least most (row_text r)) ≡ true
    of_row r read same =
        let rule : read.rule ≡ a = ap (λ o. unwrap_or o a) (sym read.is ∙ (ap (arg_by_id c) same ∙ own)) in
        let is : parser_of_value read.rule.parser ≡ Unsigned least most = ap (λ (x : Rule). parser_of_value x.parser) rule ∙ ap parser_of_value parser in
        let how : r.reading ≡ AsWritten = read.reading ∙ ap reading_of is in
        number_read least most read.rule.ignore_case r.reading r.values how read.some (subst (λ p. values_kinds read.rule.ignore_case p r.values ≡ []) is read.values)

    go : (o : Option Row) → find (λ r. bytes_eq r.id id) rows ≡ o → is_some o ≡ true → is_some (number_in least most (option_and_then row_text o)) ≡ true
    go None e none = cc
    go (Some r) e some =
        let p = each_found (IsRead c) (λ x. bytes_eq x.id id) rows r e g in
        of_row r p.0 ((bytes_eq-Decides r.id id).0 p.1)
