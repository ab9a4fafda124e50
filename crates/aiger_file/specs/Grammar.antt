-- What spells a file, text or binary: a relation between all its bytes and a netlist, apart from the reader. (AIGER 1.9.)
use Rattle.std.specs.Prelude.{◌≡◌, ℕ, ◌<◌, Bool, true, false, List, ◌++◌, length, slice_index}
use Rattle.circ_model.specs.Netlist.{Netlist}
use Rattle.aig_graph.specs.Finish.{IsFinished}
use Rattle.aiger_codec.specs.declared.header.Header.{Header}
use Rattle.aiger_codec.specs.Grammar.{SpellsHeader, SpellsSymbols, IsUnread}
use Rattle.aiger_text.specs.Grammar.{SpellsBody}
use Rattle.aiger_binary.specs.Grammar.{SpellsBinary}
use Rattle.aiger_file.specs.Files.{counts_of, IsNetlistFile}

-- the sections, in the form that the header says
abbrev pub SpellsForm : Bool → Header → List ℕ → Netlist → Type 0
SpellsForm true h text given = SpellsBinary h text given
SpellsForm false h text given = SpellsBody h text given

-- the header, the sections, symbol lines, and then the end or a comment; the netlist has what the sections say, its gates put into their order
pub record SpellsFile (bytes : List ℕ) (net : Netlist) : Type 0 where
  pub head : List ℕ
  pub body : List ℕ
  pub symbols : List ℕ
  pub unread : List ℕ
  pub is : bytes ≡ head ++ (body ++ (symbols ++ unread))
  pub header : Header
  pub header_line : SpellsHeader head header
  pub header_end : header.end ≡ length head
  pub given : Netlist
  pub sections : SpellsForm header.binary header body given
  pub symbol_count : ℕ
  pub symbol_lines : SpellsSymbols (counts_of header) symbol_count symbols
  pub comment : IsUnread unread
  pub finished : IsFinished given net

-- each is a byte
abbrev pub AreBytes : List ℕ → Type 0
AreBytes bytes = (i : ℕ) → slice_index bytes i < 256

abbrev pub FileIsSpelled : Type 0
FileIsSpelled = (bytes : List ℕ) (net : Netlist) → AreBytes bytes → IsNetlistFile bytes net → SpellsFile bytes net

abbrev pub SpelledFileIsRead : Type 0
SpelledFileIsRead = (bytes : List ℕ) (net : Netlist) → SpellsFile bytes net → IsNetlistFile bytes net
