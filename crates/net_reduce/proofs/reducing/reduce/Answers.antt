use Rattle.std.proofs.Common.{◌≡◌, ◌∙◌, ℕ, List, length, subst}
use Rattle.std.specs.Prelude.{IfOk}
use Rattle.std.proofs.lemmas.Result.{IfOk-weaker}
use Rattle.circ_model.specs.Netlist.{Netlist, variables}
use Rattle.circ_model.specs.Meaning.{Pair, IsSoundPair, places_of}
use Rattle.aig_graph.specs.Finish.{IsFinished}
use Rattle.class_partition.specs.Classes.{Classes, ArePartition}
use Rattle.net_reduce.specs.Reduced.{netlist_with, IsReduced, FreeLatchesStay, tied_pair, OutputsAgree}
use Rattle.net_reduce.specs.Table.{IsTable, through, stays_by}
use Rattle.net_reduce.proofs.FreeLatches.{free_stay}
use Rattle.net_reduce.proofs.Agreeing.{IsReduction, is_pair, outputs_agree}
use Rattle.net_reduce.proofs.Reductions.{reductions}
use Rattle.net_reduce.proofs.reducing.reduce.Goals as goal

-- the answer is a reduction of the pair's left side
held : (c : goal.After-drop-table) → IfOk c.replacing.result (IsReduction c.args.product.now c.args.k c.args.classes.now)
held c =
    let pair : Pair = c.args.product.now in
    let classes : Classes = c.args.classes.now in
    let table : List ℕ = c.in_ok-table.table.items in
    let net : c.left-net.result.now ≡ pair.left = c.left-net.ensures in
    let partition : ArePartition (places_of pair) classes = subst (λ (n : ℕ). ArePartition n classes) (c.len-places.ensures.places ∙ c.requires.places) c.len-places.ensures.partition in
    let is : IsTable pair.left classes (length (variables pair.left)) table = subst (λ (n : Netlist). IsTable n classes (length (variables n)) table) net c.in_ok-table.ensures in
    let made : IfOk c.replacing.result (IsFinished (netlist_with (stays_by table) (through table) pair.left)) = subst (λ (n : Netlist). IfOk c.replacing.result (IsFinished (netlist_with (stays_by table) (through table) n))) net
    (subst (λ (t : List ℕ). IfOk c.replacing.result (IsFinished (netlist_with (stays_by t) (through t) c.left-net.result.now))) c.as_slice.ensures.value c.replacing.ensures) in
    reductions c.replacing.result pair c.args.k classes table c.cells-cells.ensures.pair c.requires.stub partition c.requires.greatest is made

pub returns-clause-reduced : goal.returns-clause-reduced
returns-clause-reduced c = IfOk-weaker c.replacing.result (IsReduction c.args.product.now c.args.k c.args.classes.now) (IsReduced c.args.product.now.left c.args.classes.now) (λ r h. h.reduced) (held c)

pub returns-clause-free : goal.returns-clause-free
returns-clause-free c =
    IfOk-weaker c.replacing.result (IsReduction c.args.product.now c.args.k c.args.classes.now) (λ _. FreeLatchesStay c.args.product.now.left c.args.classes.now)
    (λ r h. free_stay c.args.product.now c.args.k c.args.classes.now h.sound h.bare h.partition h.greatest) (held c)

pub returns-clause-pair : goal.returns-clause-pair
returns-clause-pair c =
    IfOk-weaker c.replacing.result (IsReduction c.args.product.now c.args.k c.args.classes.now) (λ r. IsSoundPair (tied_pair c.args.product.now.left r)) (is_pair c.args.product.now c.args.k c.args.classes.now) (held c)

pub returns-clause-agree : goal.returns-clause-agree
returns-clause-agree c =
    IfOk-weaker c.replacing.result (IsReduction c.args.product.now c.args.k c.args.classes.now) (OutputsAgree c.args.product.now.left) (outputs_agree c.args.product.now c.args.k c.args.classes.now) (held c)
