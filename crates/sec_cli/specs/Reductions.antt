-- The answer of a reduction: the netlist without its equal signals, as it is stored, and the line that counts what stays.
use Rattle.std.specs.Prelude.{◌≡◌, ℕ, Bool, false, List, length, if◌then◌else◌, IsSomeAnd}
use Rattle.circ_model.specs.Netlist.{Netlist}
use Rattle.circ_model.specs.Meaning.{Pair, IsSoundPair, places_of}
use Rattle.class_partition.specs.Classes.{Classes, ArePartition, AreOfGreatest, class_count}
use Rattle.verdict_stamp.specs.Versions.{Standing}
use Rattle.refine_board.specs.declared.journal.Entry.{Entry}
use Rattle.split_workers.specs.Refined.{IsRefined}
use Rattle.aiger_codec.specs.Writing.{net_text}
use Rattle.aiger_codec.specs.BinaryWriting.{binary_text}
use Rattle.aiger_codec.specs.Renumbering.{renumbered}
use Rattle.net_reduce.specs.Stub.{stub_of}
use Rattle.net_reduce.specs.Reduced.{IsReduced, tied_pair, OutputsAgree}
use Rattle.command_line.specs.Asked.{ReduceAsked}
use Rattle.run_texts.specs.Lines.{reduced_line}
use Rattle.sec_cli.specs.declared.ending.Reply.{Reply}

-- the netlist with its stub
abbrev pub beside_stub : Netlist → Pair
beside_stub net = record { left = net; right = stub_of net; tied = false }

-- the journal of a refinement of this pair, by as many workers as are asked for
abbrev pub IsJournalOfReduction : Pair → ReduceAsked → List Entry → Type 0
IsJournalOfReduction pair r entries = (version : Standing) × IsRefined pair r.k r.workers version entries

-- the bytes that are stored: the text, or the binary form
abbrev pub stored_as : Bool → Netlist → List ℕ
stored_as binary net = if binary then binary_text (renumbered net) else net_text net

-- the netlist was reduced by the classes of the greatest correspondence to this one, which agrees with it in every frame of every run
pub record IsReductionBy (net : Netlist) (k : ℕ) (classes : Classes) (less : Netlist) : Type 0 where
  pub partition : ArePartition (places_of (beside_stub net)) classes
  pub greatest : AreOfGreatest (beside_stub net) k classes
  pub reduced : IsReduced net classes less
  pub pair : IsSoundPair (tied_pair net less)
  pub agree : OutputsAgree net less

-- what is printed and stored of it
pub record IsReduceText (net : Netlist) (r : ReduceAsked) (classes : Classes) (less : Netlist) (a : Reply) : Type 0 where
  pub status : a.status ≡ 0
  pub text : a.text.items ≡ reduced_line r.k (places_of (beside_stub net)) (class_count (places_of (beside_stub net)) classes) (length less.latches) (length less.gates)
  pub file : a.file.items ≡ stored_as r.binary less
  pub journal : IsSomeAnd a.journal (λ j. IsJournalOfReduction (beside_stub net) r j.entries)

abbrev pub IsReduceAnswer : Netlist → ReduceAsked → Reply → Type 0
IsReduceAnswer net r a = (classes : Classes) × (less : Netlist) × IsReductionBy net r.k classes less × IsReduceText net r classes less a
