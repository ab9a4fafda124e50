-- Class lines: `class`, then the names of a class's members after single spaces, in the order of their places, with `!` before those
-- that are complements of the first.
use Rattle.std.specs.Prelude.{◌≡◌, ℕ, ◌+◌, ◌==◌, ◌&&◌, leb, Bool, true, false, if◌then◌else◌, List, [], ◌∷◌, drop, replicate, slice_index, slice_set, codes, Option, Some, None, Result, Ok, Err}
use Rattle.std.specs.List.{range_with_len}
use Rattle.circ_model.specs.Meaning.{Pair}
use Rattle.class_partition.specs.Classes.{Classes, least_of}
use Rattle.plain_text.specs.Pieces.{pieces, last_of}
use Rattle.corr_certificate.specs.Names.{stripped, named}

-- the classes so far, and the least place that the next name may have
pub record Joining : Type 0 where
  pub classes : Classes
  pub next : ℕ

-- each place in a class of its own
abbrev pub none_joined : ℕ → Joining
none_joined places = record { classes = record { least = range_with_len 0 places; phase = replicate places false }; next = 0 }

-- a name's place, and whether `!` (33) stands before it
abbrev pub with_sign : Bool → Option ℕ → Option (ℕ × Bool)
with_sign sign None = None
with_sign sign (Some p) = Some (p, sign)

abbrev pub member_of : Pair → List ℕ → Option (ℕ × Bool)
member_of pair word = if slice_index word 0 == 33 then with_sign true (named pair (drop 1 word)) else with_sign false (named pair word)

-- a place that stands late enough, and in no class yet
abbrev pub may_join : Joining → ℕ → Bool
may_join j p = leb j.next p && (least_of j.classes p == p)

abbrev pub joined : ℕ → Joining → Option (ℕ × Bool) → Option Joining
joined first j None = None
joined first j (Some m) =
    if may_join j m.0 then Some (record { classes = record { least = slice_set j.classes.least m.0 first; phase = slice_set j.classes.phase m.0 m.1 }; next = m.0 + 1 }) else None

abbrev pub and_join : Option Joining → (Joining → Option Joining) → Option Joining
and_join None more = None
and_join (Some j) more = more j

-- the members after the first, as words that a space (32) ends and the last word
unfoldable pub members_from : Pair → ℕ → Joining → List (List ℕ) → List ℕ → Option Joining
members_from pair first j [] last = joined first j (member_of pair last)
members_from pair first j (w ∷ ws) last = and_join (joined first j (member_of pair w)) (λ i. members_from pair first i ws last)

-- an answer gives what is due
abbrev pub Gives : Bool → Joining → Option Joining → Type 0
Gives true j due = due ≡ Some j
Gives false j due = due ≡ None

-- the next line's first member stands past this line's
abbrev pub after_first : ℕ → Option Joining → Option Joining
after_first first None = None
after_first first (Some j) = Some (record { classes = j.classes; next = first + 1 })

abbrev pub begun : Pair → Joining → Option ℕ → List (List ℕ) → List ℕ → Option Joining
begun pair j None ws last = None
begun pair j (Some p) ws last = if may_join j p then after_first p (members_from pair p (record { classes = j.classes; next = p + 1 }) ws last) else None

-- two names or more
abbrev pub class_words : Pair → Joining → List (List ℕ) → List ℕ → Option Joining
class_words pair j [] last = None
class_words pair j (w ∷ ws) last = begun pair j (named pair w) ws last

-- the classes that were read, and the lines from the one on that ends them
pub record ClassPart : Type 0 where
  pub classes : Classes
  pub line : ℕ
  pub rest : List (List ℕ)

abbrev pub or_refused : Option Joining → ℕ → (Joining → Result ClassPart ℕ) → Result ClassPart ℕ
or_refused None n more = Err n
or_refused (Some j) n more = more j

abbrev pub class_part : Classes → ℕ → List (List ℕ) → ClassPart
class_part classes line rest = record { classes = classes; line = line; rest = rest }

-- the class lines from line n on, or the line of the first fault
abbrev pub line_or_end : Pair → Joining → Option (List ℕ) → ℕ → Result ClassPart ℕ → (Joining → Result ClassPart ℕ) → Result ClassPart ℕ
line_or_end pair j None n end more = end
line_or_end pair j (Some text) n end more = or_refused (class_words pair j (pieces 32 text) (last_of 32 text)) n more

unfoldable pub classes_from : Pair → Joining → ℕ → List (List ℕ) → Result ClassPart ℕ
classes_from pair j n [] = Ok (class_part j.classes n [])
classes_from pair j n (l ∷ ls) =
    line_or_end pair j (stripped (codes "class ") l) n (Ok (class_part j.classes n (l ∷ ls))) (λ i. classes_from pair i (n + 1) ls)
