use Rattle.std.proofs.Common.{arith, ◌≡◌, ◌+◌, [], ℕ, reverse, sym, subst}
use Rattle.sat_core.specs.Derivations.{Refutes}
use Rattle.sat_core.specs.Analysis.{open_below, AreKnown}
use Rattle.sat_core.proofs.Refuting.{state_down, root_refutes, known_reverse}
use Rattle.sat_core.proofs.analysis.Analysis.learn_nothing.Goals as goal

pub resolve-requires-clause-state : goal.resolve-requires-clause-state
resolve-requires-clause-state c =
    let n = c.next-i.ensures in
    state_down c.args.db.now c.args.trail.now.lits.items c.down.self (c.next-i.result + 1) c.down.i (omega (arith, n.below)) n.counted c.down.invariant.state

pub returns-clause-refutes : goal.returns-clause-refutes
returns-clause-refutes c =
    let v = c.down.invariant in let a = c.down.self in
    let none : open_below a.marks.seen.items 0 c.down.i ≡ 0 = subst (λ (n : ℕ). open_below a.marks.seen.items n c.down.i ≡ 0) v.zero (omega (arith, v.state.counted.above)) in
    subst (Refutes c.args.db.now []) (sym c.turn.ensures) (root_refutes c.args.db.now c.args.trail.now.lits.items a.marks.seen.items c.down.i (reverse a.hints.items) v.state.ready none v.resolved)

pub returns-clause-known : goal.returns-clause-known
returns-clause-known c = subst (AreKnown c.args.db.now) (sym c.turn.ensures) (known_reverse c.args.db.now c.down.self.hints.items c.down.invariant.state.known)
