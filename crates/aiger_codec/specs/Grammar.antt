-- What spells a number, a line of numbers, the header and a symbol line: relations between the whole text and what it
-- says, apart from the readers.
use Rattle.std.specs.Prelude.{◌≡◌, ℕ, zero, suc, ◌+◌, ◌<◌, ◌≤◌, Bool, true, false, List, [], ◌∷◌, ◌++◌, length, slice_index, codes}
use Rattle.plain_text.specs.Numbers.{SpellsNumber}
use Rattle.aiger_codec.specs.Header.{IsWithinLimits}
use Rattle.aiger_codec.specs.Lines.{has_end}
use Rattle.aiger_codec.specs.Symbols.{count_of}
use Rattle.aiger_codec.specs.declared.header.Header.{Header}
use Rattle.aiger_codec.specs.declared.symbols.Counts.{Counts}

-- one space between numbers, and LF at the end
abbrev pub SpellsLine : List ℕ → List ℕ → Type 0
SpellsLine text [] = ⊥
SpellsLine text (n ∷ []) = (t : List ℕ) × SpellsNumber t n × (text ≡ t ++ 10 ∷ [])
SpellsLine text (n ∷ m ∷ ns) = (t : List ℕ) × (u : List ℕ) × SpellsNumber t n × SpellsLine u (m ∷ ns) × (text ≡ t ++ 32 ∷ u)

-- the first bytes of a file, by its form
abbrev pub magic : Bool → List ℕ
magic true = codes "aig "
magic false = codes "aag "

-- What the header's numbers say: the greatest variable and the sizes of the sections. The four sections that are left
-- out are empty; numbers that are not there count as 0.
pub record SaysHeader (ns : List ℕ) (h : Header) : Type 0 where
  pub least : 5 ≤ length ns
  pub most : length ns ≤ 9
  pub m : slice_index ns 0 ≡ h.m
  pub i : slice_index ns 1 ≡ h.i
  pub l : slice_index ns 2 ≡ h.l
  pub o : slice_index ns 3 ≡ h.o
  pub a : slice_index ns 4 ≡ h.a
  pub bad : slice_index ns 5 ≡ 0
  pub constraint : slice_index ns 6 ≡ 0
  pub justice : slice_index ns 7 ≡ 0
  pub fairness : slice_index ns 8 ≡ 0

-- the first line of a file; in the binary form each variable is an input's, a latch's or a gate's
pub record SpellsHeader (text : List ℕ) (h : Header) : Type 0 where
  pub line : List ℕ
  pub numbers : List ℕ
  pub is : text ≡ magic h.binary ++ line
  pub spelled : SpellsLine line numbers
  pub says : SaysHeader numbers h
  pub limits : IsWithinLimits h
  pub all : h.binary ≡ true → h.i + h.l + h.a ≡ h.m

-- a symbol line: its kind, a position that there is, a space, a name, and LF
pub record SpellsSymbol (counts : Counts) (text : List ℕ) : Type 0 where
  pub kind : ℕ
  pub number : List ℕ
  pub position : ℕ
  pub name : List ℕ
  pub is : text ≡ kind ∷ (number ++ 32 ∷ (name ++ 10 ∷ []))
  pub spelled : SpellsNumber number position
  pub there : position < count_of counts kind
  pub one_line : has_end name ≡ false

-- so many of them
abbrev pub SpellsSymbols : Counts → ℕ → List ℕ → Type 0
SpellsSymbols counts zero text = text ≡ []
SpellsSymbols counts (suc n) text = (t : List ℕ) × (u : List ℕ) × SpellsSymbol counts t × SpellsSymbols counts n u × (text ≡ t ++ u)

-- where reading ends: nothing follows, or a comment
abbrev pub IsUnread : List ℕ → Type 0
IsUnread [] = Unit {0}
IsUnread (b ∷ bs) = b ≡ 99
