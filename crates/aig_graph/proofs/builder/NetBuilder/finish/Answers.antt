use Rattle.std.proofs.Common.{◌≡◌, ◌+◌, sym, subst}
use Rattle.std.specs.List.Sorted.{IsNonDecreasingBy}
use Rattle.circ_model.specs.Netlist.{Netlist, AllDefined}
use Rattle.aig_graph.specs.Walk.{Indexes, IsCyclic, IsLevels, key_of}
use Rattle.aig_graph.specs.Finish.{lowest, used}
use Rattle.aig_graph.proofs.Keeping.{indexed}
use Rattle.aig_graph.proofs.LeastUndefined.{undefined_due, defined_due}
use Rattle.aig_graph.proofs.Finishing.{circular, held}
use Rattle.aig_graph.proofs.builder.NetBuilder.finish.Goals as goal

pub returns-then-least-none : goal.returns-then-least-none
returns-then-least-none c =
    let b = c.self.inside in
    let g : Netlist = record { max_var = b.max_var; inputs = b.inputs.items; latches = b.latches.items; outputs = b.outputs.items; gates = b.gates.items } in
    let is : c.lowest_used-least.result ≡ lowest b.defined_as.items (b.max_var + 1) (used g) = cc in
    undefined_due b.defined_as.items g c.args.self (b.max_var + 1) c.lowest_used-least.result c.self.view_is c.self.invariant is c.if-least-none.true

pub levels_of-requires-clause-index : goal.levels_of-requires-clause-index
levels_of-requires-clause-index c =
    let b = c.self.inside in
    let g : Netlist = record { max_var = b.max_var; inputs = b.inputs.items; latches = b.latches.items; outputs = b.outputs.items; gates = b.gates.items } in
    subst (λ d. Indexes d c.deref-6.result.now) (sym c.deref-5.ensures.value) (subst (λ d. Indexes b.defined_as.items d) (sym c.deref-6.ensures.value) (indexed b.defined_as.items g c.self.invariant))

pub returns-in_default : goal.returns-in_default
returns-in_default c =
    let b = c.self.inside in
    let g : Netlist = record { max_var = b.max_var; inputs = b.inputs.items; latches = b.latches.items; outputs = b.outputs.items; gates = b.gates.items } in
    let is : c.lowest_used-least.result ≡ lowest b.defined_as.items (b.max_var + 1) (used g) = cc in
    let cyclic = rw c.in_default.is at c.in_ok-levels.ensures in (
      subst AllDefined c.self.view_is (defined_due b.defined_as.items g (b.max_var + 1) c.lowest_used-least.result c.self.invariant is c.if-least-none.false (sym c.self.invariant.len)),
      circular g c.args.self c.self.view_is (subst IsCyclic c.deref-6.ensures.value cyclic),
    )

pub of-requires : goal.of-requires
of-requires c =
    let b = c.self.inside in
    let g : Netlist = record { max_var = b.max_var; inputs = b.inputs.items; latches = b.latches.items; outputs = b.outputs.items; gates = b.gates.items } in
    let is : c.lowest_used-least.result ≡ lowest b.defined_as.items (b.max_var + 1) (used g) = cc in
    let levels = rw c.in-Some.is at c.in_ok-levels.ensures in
    let lv = subst (λ d. IsLevels d b.gates.items c.in-Some.levels.items) c.deref-5.ensures.value (subst (λ d. IsLevels c.deref-5.result.now d c.in-Some.levels.items) c.deref-6.ensures.value levels) in
    let all = defined_due b.defined_as.items g (b.max_var + 1) c.lowest_used-least.result c.self.invariant is c.if-least-none.false (sym c.self.invariant.len) in
    let sorted = subst (λ d. IsNonDecreasingBy (key_of d) c.sort_gates.new.gates.items) c.deref-7.ensures.value c.in_ok-sort_gates.ensures.sorted in
    held b.defined_as.items g c.in-Some.levels.items c.sort_gates.new.gates.items c.self.invariant all lv c.in_ok-sort_gates.ensures.permutation sorted
