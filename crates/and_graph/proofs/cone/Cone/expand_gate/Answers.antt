use Rattle.std.proofs.Common.{◌≡◌, ◌∙◌, ◌/◌, ◌&&◌, Bool, length, ap, ap₂, sym, arith}
use Rattle.std.proofs.lemmas.Result.{on_ok_weaker}
use Rattle.circ_model.specs.Meaning.{bit, signed}
use Rattle.cnf_store.specs.Clauses.{satisfies}
use Rattle.and_graph.specs.Cones.{GoesOn, member_at}
use Rattle.and_graph.proofs.ConeMembers.{cone_gate, goes_on_twice}
use Rattle.and_graph.proofs.cone.Cone.expand_gate.Goals as goal

pub returns-clause-cone : goal.returns-clause-cone
returns-clause-cone c = on_ok_weaker c.add_gate.result
    (λ adds nodes is in_a in_b holds.
    let members = c.args.self.now.members.items in
    let middle = c.member_of.new.self.members.items in
    let more = c.member_of-2.new.self.members.items in
    let first = c.in_ok-left.ensures in
    let last = c.in_ok-right.ensures in
    let on : GoesOn members more = goes_on_twice members middle more first.on last.on in
    let size = last.on.size in
    let left : member_at more c.in_ok-left.left ≡ c.args.a / 2 = last.on.same c.in_ok-left.left first.within ∙ first.at ∙ c.var.ensures in
    let right : member_at more c.in_ok-right.right ≡ c.args.b / 2 = last.at ∙ c.var-2.ensures in
    cone_gate nodes members more c.args.self.now.cnf c.add_gate.new.cnf c.args.j c.args.a c.args.b c.in_ok-left.left c.in_ok-right.right is on
    (last.members (length nodes) (first.members (length nodes) is.within (omega (arith, c.var.ensures))) (omega (arith, c.var-2.ensures)))
    (c.add_gate.ensures.vars ∙ last.vars) c.requires.member (omega (arith, first.within)) left last.within right holds
    (λ asg was says. adds asg (ap (satisfies asg) (c.member_of-2.ensures.clauses ∙ c.member_of.ensures.clauses) ∙ was)
    (says ∙ ap₂ (λ (s t : Bool). signed s (bit asg c.in_ok-left.left) && signed t (bit asg c.in_ok-right.right)) (sym c.complement.ensures) (sym c.complement-2.ensures))))
    c.add_gate.ensures.ok
