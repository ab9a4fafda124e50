-- The words of a run that are plain: the program's name, a command, its names in their order, and before, between and after these
-- its options, each at most once. An option is spelled as the usage text spells it, and its value is the next word.
use Rattle.std.specs.Prelude.{◌==◌, ℕ, leb, ◌&&◌, ◌||◌, Bool, true, false, not, if◌then◌else◌, List, [], ◌∷◌, ◌++◌, codes, bytes_eq, String, map, find, string_bytes, Option, None, Some, option_map, option_and_then}
use Rattle.std.specs.List.{list_all, list_any}
use Rattle.std.specs.Str.Parse.{digits_value}
use Rattle.command_line.specs.Asked.{Asked, Values, batch_of, check_of, climb_of, demo_of, reduce_of, replay_of, verify_of}
use Rattle.command_line.specs.App.{Argument, Flag, Line, Long, Name, Number, Place, Short, Spelling, Value, batch_line, check_line, climb_line, demo_line, reduce_line, replay_line, verify_line}

-- the words as their bytes
abbrev pub texts : {Z : Type 0} → List (String Z) → List (List ℕ)
texts words = map string_bytes words

-- a name is a nonempty word that doesn't begin with `-`
abbrev pub is_name : List ℕ → Bool
is_name [] = false
is_name (c ∷ cs) = not (c == 45)

abbrev pub is_digit : ℕ → Bool
is_digit b = leb 48 b && leb b 57

abbrev pub is_end : List ℕ → Bool
is_end [] = true
is_end (c ∷ cs) = false

-- a number is in decimal, without a sign and without a leading zero but in 0 itself
abbrev pub is_decimal : List ℕ → Bool
is_decimal [] = false
is_decimal (c ∷ cs) = (not (c == 48) || is_end cs) && list_all is_digit (c ∷ cs)

-- a text can be this value; a flag that is there is `true`, and a number is within its limits
abbrev pub is_value : Value → List ℕ → Bool
is_value Flag word = bytes_eq word (codes "true")
is_value Name word = is_name word
is_value (Number least most) word = is_decimal word && (leb least (digits_value 10 word) && leb (digits_value 10 word) most)

-- the word of an option
abbrev pub spelled_word : Spelling → List ℕ
spelled_word Place = []
spelled_word (Short letter) = 45 ∷ letter ∷ []
spelled_word (Long id) = 45 ∷ 45 ∷ id

abbrev pub word_of : Argument → List ℕ
word_of o = spelled_word o.spelling

-- an argument that was given, with its value
pub record Given : Type 0 where
  pub id : List ℕ
  pub text : List ℕ

abbrev pub is_given : List ℕ → List Given → Bool
is_given id given = list_any (λ g. bytes_eq g.id id) given

-- what the words so far give, the names that are still to come, and the option whose value is the next word
pub record Reading : Type 0 where
  pub given : List Given
  pub names : List Argument
  pub due : Option Argument

-- the word as the value of this argument
abbrev pub value_read : Argument → List ℕ → List Given → List Argument → Option Reading
value_read a word given names = if is_value a.value word then Some (record { given = given ++ record { id = a.id; text = word } ∷ []; names = names; due = None }) else None

-- the word as the next name
abbrev pub name_read : List ℕ → List Given → List Argument → Option Reading
name_read word given [] = None
name_read word given (n ∷ names) = value_read n word given names

-- the word of an option: a flag is given by it, and another option waits for its value
abbrev pub option_read : Value → Argument → Reading → Option Reading
option_read Flag o r = Some (record r { given = r.given ++ record { id = o.id; text = codes "true" } ∷ []; due = None })
option_read value o r = Some (record r { due = Some o })

abbrev pub word_read : Option Argument → List ℕ → Reading → Option Reading
word_read (Some o) word r = if is_given o.id r.given then None else option_read o.value o r
word_read None word r = name_read word r.given r.names

-- one word more
abbrev pub due_read : List Argument → Option Argument → List ℕ → Reading → Option Reading
due_read options (Some o) word r = value_read o word r.given r.names
due_read options None word r = word_read (find (λ o. bytes_eq (word_of o) word) options) word r

abbrev pub step : List Argument → Reading → List ℕ → Option Reading
step options r word = due_read options r.due word r

abbrev pub read_all : List Argument → Option Reading → List (List ℕ) → Option Reading
read_all options None words = None
read_all options (Some r) [] = Some r
read_all options (Some r) (w ∷ ws) = read_all options (step options r w) ws

-- all names are there, and no value is due
abbrev pub complete : Option Argument → List Argument → List Given → Option (List Given)
complete None [] given = Some given
complete due names given = None

-- what the words after a command give, where they are plain
abbrev pub given_by : Line → List (List ℕ) → Option (List Given)
given_by line words = option_and_then (λ r. complete r.due r.names r.given) (read_all line.options (Some (record { given = []; names = line.names; due = None })) words)

-- the value of an argument
abbrev pub text_of : List ℕ → List Given → Option (List ℕ)
text_of id given = option_map (λ g. g.text) (find (λ g. bytes_eq g.id id) given)

-- whether a flag was there
abbrev pub is_on : Option (List ℕ) → Bool
is_on None = false
is_on (Some text) = bytes_eq text (codes "true")

-- the number of an option, which is 1 where it was left out
abbrev pub number_or_one : Option (List ℕ) → ℕ
number_or_one None = 1
number_or_one (Some text) = digits_value 10 text

abbrev pub values_given : List Given → Values
values_given given = record {
  text = λ id. text_of id given;
  size = λ id most. option_map (digits_value 10) (text_of id given);
  number = λ id most. Some (number_or_one (text_of id given));
  optional = λ id most. option_map (digits_value 10) (text_of id given);
  flag = λ id. is_on (text_of id given);
}

-- what the words after a command ask for
abbrev pub asked_by : Line → (Values → Option Asked) → List (List ℕ) → Option Asked
asked_by line asks words = option_and_then (λ g. asks (values_given g)) (given_by line words)

abbrev pub command_read : List ℕ → List (List ℕ) → Option Asked
command_read command words =
    if bytes_eq command check_line.command then asked_by check_line check_of words
    else if bytes_eq command replay_line.command then asked_by replay_line replay_of words
    else if bytes_eq command verify_line.command then asked_by verify_line verify_of words
    else if bytes_eq command demo_line.command then asked_by demo_line demo_of words
    else if bytes_eq command climb_line.command then asked_by climb_line climb_of words
    else if bytes_eq command reduce_line.command then asked_by reduce_line reduce_of words
    else if bytes_eq command batch_line.command then asked_by batch_line batch_of words
    else None

-- what plain words ask for, or none where they aren't plain
unfoldable pub plain_command : List (List ℕ) → Option Asked
plain_command [] = None
plain_command (program ∷ []) = None
plain_command (program ∷ command ∷ words) = command_read command words
