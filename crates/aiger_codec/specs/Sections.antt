-- The body of a text file, item by item, with the first fault. (AIGER format, section "ASCII format".)
use Rattle.std.specs.Prelude.{◌≡◌, ℕ, zero, suc, ◌/◌, ◌%◌, ◌==◌, if◌then◌else◌, List, [], Result, Ok, Err, slice_index}
use Rattle.circ_model.specs.Netlist.{Netlist}
use Rattle.aig_graph.specs.declared.fault.BuildFault.{BuildFault}
use Rattle.aig_graph.specs.declared.fault.BuildFault.TheVariants as faults
use Rattle.aig_graph.specs.Given.{with_input, with_latch, with_output, with_gate}
use Rattle.aiger_codec.specs.Lines.{fault, line_at}
use Rattle.aiger_codec.specs.declared.fault.NetFault.{NetFault}
use Rattle.aiger_codec.specs.declared.fault.NetKind.{NetKind}
use Rattle.aiger_codec.specs.declared.fault.NetKind.TheVariants as kinds
use Rattle.aiger_codec.specs.declared.fault.NetError.{NetError}
use Rattle.aiger_codec.specs.declared.fault.NetError.TheVariants as errors
use Rattle.aiger_codec.specs.declared.header.Header.{Header}
use Rattle.aiger_codec.specs.declared.section.Section.{Section}
use Rattle.aiger_codec.specs.declared.section.Section.TheVariants.{Inputs, Latches, Outputs, Gates}

infixl 10 ◌>>=◌
-- the second reader goes on where the first was done
abbrev pub ◌>>=◌ : {A B : Type 0} → Result A NetFault → (A → Result B NetFault) → Result B NetFault
(Ok x) >>= f = f x
(Err e) >>= f = Err e

-- a refusal's kind; want of memory is no fault of the file, and no reader answers it so
abbrev pub kind_of : BuildFault → NetKind
kind_of faults.Literal = kinds.Literal
kind_of faults.Redefined = kinds.Redefined
kind_of faults.Reset = kinds.Reset
kind_of (faults.Undefined v) = kinds.Undefined
kind_of faults.Cyclic = kinds.Cyclic
kind_of faults.Memory = kinds.Limit

-- how many numbers a line of the section has, at least and at most
abbrev pub least : Section → ℕ
least Inputs = 1
least Latches = 2
least Outputs = 1
least Gates = 3

abbrev pub most : Section → ℕ
most Inputs = 1
most Latches = 3
most Outputs = 1
most Gates = 3

-- a variable is named by its literal, which is even
abbrev pub named : ℕ → Result Netlist BuildFault → Result Netlist BuildFault
named lit added = if lit % 2 == 1 then Err faults.Literal else added

-- what a line adds to what was given before; a reset left out is 0
abbrev pub added : Section → Netlist → List ℕ → Result Netlist BuildFault
added Inputs given ns = named (slice_index ns 0) (with_input given (slice_index ns 0 / 2))
added Latches given ns = named (slice_index ns 0) (with_latch given (slice_index ns 0 / 2) (slice_index ns 1) (slice_index ns 2))
added Outputs given ns = with_output given (slice_index ns 0)
added Gates given ns = named (slice_index ns 0) (with_gate given (slice_index ns 0 / 2) (slice_index ns 1) (slice_index ns 2))

-- what is given after the line at a place, and the place after it
abbrev pub placed : ℕ → ℕ → Result Netlist BuildFault → Result (Netlist × ℕ) NetFault
placed at end (Ok given) = Ok (given, end)
placed at end (Err e) = Err (fault (kind_of e) at)

unfoldable pub item_at : Section → List ℕ → Netlist × ℕ → Result (Netlist × ℕ) NetFault
item_at section bytes s = line_at (least section) (most section) bytes s.1 >>= λ line. placed s.1 line.1 (added section s.0 line.0)

-- so many lines of a section
unfoldable pub items_at : Section → ℕ → List ℕ → Netlist × ℕ → Result (Netlist × ℕ) NetFault
items_at section zero bytes s = Ok s
items_at section (suc n) bytes s = item_at section bytes s >>= items_at section n bytes

abbrev pub nothing_given : ℕ → Netlist
nothing_given max_var = record { max_var = max_var; inputs = []; latches = []; outputs = []; gates = [] }

-- the body after this header: its sections, in order
unfoldable pub body_at : Header → List ℕ → Result (Netlist × ℕ) NetFault
body_at h bytes = do
  a ← items_at Inputs h.i bytes (nothing_given h.m, h.end)
  b ← items_at Latches h.l bytes a
  c ← items_at Outputs h.o bytes b
  items_at Gates h.a bytes c

-- ---- what a reader answers: what reading gives, unless there is no memory

abbrev pub Fails : {Y : Type 0} → NetError → Result Y NetFault → Type 0
Fails errors.Memory read = Unit {0}
Fails (errors.Refused f) read = read ≡ Err f

-- a reader into a builder
abbrev pub Reads : Result ℕ NetError → Netlist → Result (Netlist × ℕ) NetFault → Type 0
Reads (Ok end) new read = read ≡ Ok (new, end)
Reads (Err e) new read = Fails e read

-- a reader of a whole body
abbrev pub ReadsBody : Result (Netlist × ℕ) NetError → Result (Netlist × ℕ) NetFault → Type 0
ReadsBody (Ok x) read = read ≡ Ok x
ReadsBody (Err e) read = Fails e read

-- want of memory stands for itself, any other refusal for its kind at the item's place
abbrev pub IsErrorOf : NetError → BuildFault → ℕ → Type 0
IsErrorOf errors.Memory e at = e ≡ faults.Memory
IsErrorOf (errors.Refused f) e at = (f ≡ fault (kind_of e) at) × (e ≡ faults.Memory → ⊥)
