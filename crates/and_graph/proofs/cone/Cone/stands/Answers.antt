use Rattle.std.proofs.Common.{◌≡◌, List, ℕ, length, subst, arith}
use Rattle.and_graph.specs.Cones.{AreWithin}
use Rattle.cnf_store.specs.Clauses.{Formula}
use Rattle.and_graph.proofs.Questions.{found}
use Rattle.and_graph.proofs.cone.Cone.stands.Goals as goal

pub returns-clause-question : goal.returns-clause-question
returns-clause-question c all =
    let members = c.args.self.now.members.items in
    let formula : Formula = c.args.self.now.cnf in
    let apart = c.if-not-says_apart.false in
    let within : AreWithin (length c.args.nodes.now) members = subst (λ (ms : List ℕ). AreWithin (length c.args.nodes.now) ms) c.as_slice-members.ensures.value (c.are_within.ensures c.if-not-are_within.false) in
    let vars : formula.vars ≡ length members = omega (arith, c.vars.ensures.value, c.as_slice-members.ensures.len, c.if-vars-members.false) in
    found c.args.nodes.now members formula c.args.x c.args.y c.args.given vars within (c.says_apart.ensures.size apart) (c.all_hold.ensures all) (c.says_apart.ensures.first apart) (c.says_apart.ensures.last apart)
