use Rattle.std.proofs.Common.{◌≡◌, ◌∙◌, ◌+◌, ◌-◌, [], ℕ, ℤ, List, get_or, ap, subst₂, arith}
use Rattle.and_graph.specs.Lemmas.{ClauseHolds}
use borrow.Author.Count.{below_more}
use Rattle.and_graph.proofs.cone.Cone.all_hold.Goals as goal

pub loop-h-preserved : goal.loop-h-preserved
loop-h-preserved c =
    let nodes = c.args.nodes.now in
    let members = c.args.self.now.members.items in
    let clauses = c.args.self.now.cnf.clauses in
    let h = c.loop-h.h in
    let place : h + 1 - 1 ≡ h = omega arith in
    let read : c.clause.result.now ≡ get_or clauses h [] = c.clause.ensures.value ∙ ap (λ (k : ℕ). get_or clauses k []) place in
    below_more (λ k. ClauseHolds nodes members (get_or clauses k [])) h c.loop-h.invariant
    (subst₂ (λ (ms : List ℕ) (clause : List ℤ). ClauseHolds nodes ms clause) c.as_slice-members.ensures.value read (c.clause_holds.ensures c.if-not-clause_holds.false))

pub returns : goal.returns
returns c all h lt = c.loop-h.invariant h (omega arith)
