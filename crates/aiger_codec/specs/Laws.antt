-- What is read is spelled so, and what is spelled so is read, whatever follows.
use Rattle.std.specs.Prelude.{◌≡◌, ℕ, ◌+◌, ◌^◌, ◌<◌, ◌≤◌, List, [], ◌++◌, length, drop, slice_index, Some, Ok}
use Rattle.plain_text.specs.Numbers.{SpellsNumber, digits, number_at}
use Rattle.aiger_codec.specs.Lines.{line_at}
use Rattle.aiger_codec.specs.Grammar.{SpellsLine, SpellsHeader, SpellsSymbols, IsUnread}
use Rattle.aiger_codec.specs.Header.{header_at}
use Rattle.aiger_codec.specs.Symbols.{symbols_at}
use Rattle.aiger_codec.specs.declared.header.Header.{Header}
use Rattle.aiger_codec.specs.declared.symbols.Counts.{Counts}
use Rattle.aiger_codec.specs.Deltas.{delta_at, IsSpelled, shortest}
use Rattle.aiger_codec.specs.declared.delta.Delta.TheVariants.{Value}

-- the text stands at the place, and the rest after it, at the end
pub record StandsAt (bytes : List ℕ) (at : ℕ) (text : List ℕ) (end : ℕ) (rest : List ℕ) : Type 0 where
  pub is : drop at bytes ≡ text ++ rest
  pub ends : end ≡ at + length text

abbrev pub NumberIsSpelled : Type 0
NumberIsSpelled = (bytes : List ℕ) (at n end : ℕ) → number_at bytes at ≡ Some (n, end)
    → (text : List ℕ) × SpellsNumber text n × StandsAt bytes at text end (drop end bytes)

-- no further digit follows
abbrev pub SpelledNumberIsRead : Type 0
SpelledNumberIsRead = (bytes : List ℕ) (at n end : ℕ) (text rest : List ℕ) → SpellsNumber text n → digits rest ≡ [] → StandsAt bytes at text end rest
    → number_at bytes at ≡ Some (n, end)

abbrev pub LineIsSpelled : Type 0
LineIsSpelled = (least most : ℕ) (bytes : List ℕ) (at : ℕ) (ns : List ℕ) (end : ℕ) → line_at least most bytes at ≡ Ok (ns, end)
    → (text : List ℕ) × SpellsLine text ns × StandsAt bytes at text end (drop end bytes) × (least ≤ length ns) × (length ns ≤ most)

abbrev pub SpelledLineIsRead : Type 0
SpelledLineIsRead = (least most : ℕ) (bytes : List ℕ) (at : ℕ) (ns : List ℕ) (end : ℕ) (text rest : List ℕ) → SpellsLine text ns → StandsAt bytes at text end rest
    → least ≤ length ns → length ns ≤ most → line_at least most bytes at ≡ Ok (ns, end)

abbrev pub DeltaIsSpelled : Type 0
DeltaIsSpelled = (bytes : List ℕ) (at n end : ℕ) → ((i : ℕ) → slice_index bytes i < 256) → delta_at bytes at ≡ Value n end
    → (text : List ℕ) × IsSpelled text n × StandsAt bytes at text end (drop end bytes) × (length text ≤ 5) × (n < 2 ^ 32)

abbrev pub SpelledDeltaIsRead : Type 0
SpelledDeltaIsRead = (bytes : List ℕ) (at n end : ℕ) (text rest : List ℕ) → IsSpelled text n → StandsAt bytes at text end rest → length text ≤ 5 → n < 2 ^ 32
    → delta_at bytes at ≡ Value n end

-- the shortest spelling is one, and no other is shorter
abbrev pub ShortestIsSpelled : Type 0
ShortestIsSpelled = (n : ℕ) → n < 2 ^ 32 → IsSpelled (shortest n) n × (length (shortest n) ≤ 5)

abbrev pub NoneIsShorter : Type 0
NoneIsShorter = (text : List ℕ) (n : ℕ) → IsSpelled text n → length (shortest n) ≤ length text

abbrev pub HeaderIsSpelled : Type 0
HeaderIsSpelled = (bytes : List ℕ) (h : Header) → header_at bytes ≡ Ok h → (text : List ℕ) × SpellsHeader text h × StandsAt bytes 0 text h.end (drop h.end bytes)

abbrev pub SpelledHeaderIsRead : Type 0
SpelledHeaderIsRead = (bytes : List ℕ) (h : Header) (text rest : List ℕ) → SpellsHeader text h → StandsAt bytes 0 text h.end rest → header_at bytes ≡ Ok h

abbrev pub SymbolsAreSpelled : Type 0
SymbolsAreSpelled = (counts : Counts) (bytes : List ℕ) (at end : ℕ) → symbols_at (length bytes) counts bytes at ≡ Ok end
    → (n : ℕ) × (text : List ℕ) × SpellsSymbols counts n text × StandsAt bytes at text end (drop end bytes) × IsUnread (drop end bytes)

abbrev pub SpelledSymbolsAreRead : Type 0
SpelledSymbolsAreRead = (counts : Counts) (bytes : List ℕ) (at end n : ℕ) (text rest : List ℕ) → SpellsSymbols counts n text → StandsAt bytes at text end rest → IsUnread rest
    → symbols_at (length bytes) counts bytes at ≡ Ok end
