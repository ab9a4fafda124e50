use Rattle.std.proofs.Common.{◌∙◌, length, arith}
use Rattle.and_graph.specs.Cones.{IsCone}
use Rattle.and_graph.proofs.ConeMembers.{cone_seeded}
use Rattle.and_graph.proofs.cone.Cone.seed.Goals as goal

pub returns-clause-cone : goal.returns-clause-cone
returns-clause-cone c =
    let nodes = c.args.nodes.now in
    let start : IsCone nodes c.clear.new.self.members.items c.clear.new.self.cnf = c.clear.ensures nodes in
    let x = c.in_ok-left.ensures in
    let y = c.in_ok-right.ensures in
    let in_x = x.members (length nodes) start.within (omega (arith, c.var.ensures, c.requires.left)) in
    let in_y = y.members (length nodes) in_x (omega (arith, c.var-2.ensures, c.requires.right)) in
    cone_seeded nodes c.member_of.new.self.members.items c.member_of-2.new.self.members.items c.member_of.new.self.cnf c.member_of-2.new.self.cnf
    (cone_seeded nodes c.clear.new.self.members.items c.member_of.new.self.members.items c.clear.new.self.cnf c.member_of.new.self.cnf start x.on in_x x.vars c.member_of.ensures.clauses)
    y.on in_y y.vars c.member_of-2.ensures.clauses

pub returns-clause-left : goal.returns-clause-left
returns-clause-left c =
    let x = c.in_ok-left.ensures in
    c.in_ok-right.ensures.on.same c.in_ok-left.left x.within ∙ x.at ∙ c.var.ensures

pub returns-clause-within : goal.returns-clause-within
returns-clause-within c =
    let size = c.in_ok-right.ensures.on.size in
    (omega (arith, c.in_ok-left.ensures.within), c.in_ok-right.ensures.within)
