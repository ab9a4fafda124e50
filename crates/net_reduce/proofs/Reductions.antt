-- What the array makes of a netlist is its reduction.
use Rattle.std.proofs.Common.{◌≡◌, length, ℕ, List, subst}
use Rattle.std.specs.Prelude.{Result, IfOk}
use Rattle.std.proofs.lemmas.Result.{IfOk-weaker}
use Rattle.circ_model.specs.Netlist.{Netlist, variables}
use Rattle.circ_model.specs.Meaning.{Pair, IsSoundPair, places_of}
use Rattle.class_partition.specs.Classes.{Classes, ArePartition, AreOfGreatest}
use Rattle.aig_graph.specs.Finish.{IsFinished}
use Rattle.net_reduce.specs.Stub.{stub_of}
use Rattle.net_reduce.specs.Reduced.{netlist_with}
use Rattle.net_reduce.specs.Table.{IsTable, through, stays_by}
use Rattle.net_reduce.proofs.Bare.{bare_places}
use Rattle.net_reduce.proofs.Tables.{same_netlist}
use Rattle.net_reduce.proofs.Agreeing.{IsReduction}

pub reductions : {E : Type 0} (answer : Result Netlist E) (pair : Pair) (k : ℕ) (classes : Classes) (table : List ℕ) → IsSoundPair pair → pair.right ≡ stub_of pair.left → ArePartition (places_of pair) classes → AreOfGreatest pair k classes
    → IsTable pair.left classes (length (variables pair.left)) table → IfOk answer (IsFinished (netlist_with (stays_by table) (through table) pair.left)) → IfOk answer (IsReduction pair k classes)
reductions answer pair k classes table sound bare partition greatest is =
    IfOk-weaker answer (IsFinished (netlist_with (stays_by table) (through table) pair.left)) (IsReduction pair k classes) (λ r h. record {
      sound = sound;
      bare = bare;
      partition = partition;
      greatest = greatest;
      reduced = subst (λ (g : Netlist). IsFinished g r) (same_netlist pair.left classes table sound.left (subst (λ (n : ℕ). ArePartition n classes) (bare_places pair bare) partition) is) h;
    })
