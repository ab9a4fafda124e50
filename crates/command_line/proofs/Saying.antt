-- What the rows of a parse of plain words say: of each argument what was given for it, or its default.
use Rattle.std.proofs.Common.{◌≡◌, ◌∙◌, ◌<◌, ◌^◌, ℕ, true, false, List, Option, Some, None, find, option_map, option_and_then, slice_get, ap, subst, refl, bytes_eq, codes}
use Rattle.std.specs.Option.{option_map_or}
use Rattle.std.specs.Str.Parse.{digits_value}
use Rattle.std.proofs.lemmas.Slice.Eq.{bytes_eq-Decides}
use Rattle.clap.specs.Values.{read_as}
use Rattle.clap.specs.Walk.{Row, Rule, Text, first_of, row_text}
use Rattle.clap.specs.declared.builder.value_parser.Reading.{Reading}
use Rattle.clap.specs.declared.builder.value_parser.Reading.TheVariants.{AsWritten}
use Rattle.command_line.specs.Meant.{has_flag, is_true, number_in, number_of}
use Rattle.command_line.specs.App.{Argument, Line, Number}
use Rattle.command_line.specs.Plain.{Given, is_on, is_value, number_or_one, text_of}
use Rattle.command_line.proofs.Rows.{Each, each_found}
use Rattle.command_line.proofs.Uses.{given_row, reading_at}
use Rattle.command_line.proofs.Decimals.{number_is}
use Rattle.command_line.proofs.Reading.{IsGood, argument_at}
use Rattle.command_line.proofs.Finding.{default_at, or_row, row_found}
use Rattle.command_line.proofs.PlainLevel.{end_rows}

abbrev pub first_text : Option Row → Option Text
first_text o = option_and_then (λ r. slice_get r.values 0) o

module _ (c : List Rule) (id : Text) (given : List Given) where
  -- a text without a default
  pub text_same : default_at id c ≡ None → first_of id (end_rows c given) ≡ text_of id given
  text_same none = ap first_text (row_found c id given) ∙ ap (λ (d : Option Row). first_text (or_row (option_map (given_row c) (find (λ g. bytes_eq g.id id) given)) d)) none ∙ go (find (λ g. bytes_eq g.id id) given)
    where
      go : (o : Option Given) → first_text (or_row (option_map (given_row c) o) None) ≡ option_map (λ g. g.text) o
      go None = refl
      go (Some g) = refl

  -- a flag
  pub flag_same : first_text (default_at id c) ≡ Some (codes "false") → has_flag id (end_rows c given) ≡ is_on (text_of id given)
  flag_same off = ap (λ (o : Option Row). is_true (first_text o)) (row_found c id given) ∙ go (find (λ g. bytes_eq g.id id) given)
    where
      go : (o : Option Given) → is_true (first_text (or_row (option_map (given_row c) o) (default_at id c))) ≡ is_on (option_map (λ g. g.text) o)
      go None = ap is_true off
      go (Some g) = refl

  abbrev pub number_or : Option ℕ → Option Text → Option ℕ
  number_or other None = other
  number_or other (Some text) = Some (digits_value 10 text)

  -- a number, or what its default says
  pub number_same : (l : Line) (n : Argument) (least most : ℕ) → Each (IsGood l) given → argument_at l id ≡ Some n → n.value ≡ Number least most → reading_at c id ≡ AsWritten → most < 2 ^ 64
      → number_of id least most (end_rows c given) ≡ number_or (number_in least most (option_and_then row_text (default_at id c))) (text_of id given)
  number_same l n least most good listed number how fits = ap (λ (o : Option Row). number_in least most (option_and_then row_text o)) (row_found c id given) ∙ go (find (λ g. bytes_eq g.id id) given) refl
    where
      go : (o : Option Given) → find (λ g. bytes_eq g.id id) given ≡ o
          → number_in least most (option_and_then row_text (or_row (option_map (given_row c) o) (default_at id c))) ≡ number_or (number_in least most (option_and_then row_text (default_at id c))) (option_map (λ g. g.text) o)
      go None e = refl
      go (Some g) e =
          let q = each_found (IsGood l) (λ x. bytes_eq x.id id) given g e good in
          let same : g.id ≡ id = (bytes_eq-Decides g.id id).0 q.1 in
          let of_id : option_map_or (λ (a : Argument). is_value a.value g.text) (argument_at l id) false ≡ true = subst (λ (i : Text). option_map_or (λ (a : Argument). is_value a.value g.text) (argument_at l i) false ≡ true) same q.0 in
          let ok : is_value n.value g.text ≡ true = subst (λ (o : Option Argument). option_map_or (λ (a : Argument). is_value a.value g.text) o false ≡ true) listed of_id in
          let value : is_value (Number least most) g.text ≡ true = subst (λ v. is_value v g.text ≡ true) number ok in
          let reading : reading_at c g.id ≡ AsWritten = ap (reading_at c) same ∙ how in
          ap (λ (r : Reading). number_in least most (Some (read_as r g.text))) reading ∙ number_is least most g.text fits value

-- the number of an option that is 1 by default
pub option_same : (c : List Rule) (id : Text) (given : List Given) (l : Line) (n : Argument) (least most : ℕ) → Each (IsGood l) given → argument_at l id ≡ Some n → n.value ≡ Number least most → reading_at c id ≡ AsWritten
    → most < 2 ^ 64 → number_in least most (option_and_then row_text (default_at id c)) ≡ Some 1 → number_of id least most (end_rows c given) ≡ Some (number_or_one (text_of id given))
option_same c id given l n least most good listed number how fits one = number_same c id given l n least most good listed number how fits ∙ go (text_of id given)
  where
    go : (o : Option Text) → number_or c id given (number_in least most (option_and_then row_text (default_at id c))) o ≡ Some (number_or_one o)
    go None = one
    go (Some text) = refl

-- a number without a default
pub size_same : (c : List Rule) (id : Text) (given : List Given) (l : Line) (n : Argument) (least most : ℕ) → Each (IsGood l) given → argument_at l id ≡ Some n → n.value ≡ Number least most → reading_at c id ≡ AsWritten
    → most < 2 ^ 64 → default_at id c ≡ None → number_of id least most (end_rows c given) ≡ option_map (digits_value 10) (text_of id given)
size_same c id given l n least most good listed number how fits none = number_same c id given l n least most good listed number how fits ∙ go (text_of id given)
  where
    go : (o : Option Text) → number_or c id given (number_in least most (option_and_then row_text (default_at id c))) o ≡ option_map (digits_value 10) o
    go None = ap (λ (d : Option Row). number_in least most (option_and_then row_text d)) none
    go (Some text) = refl
