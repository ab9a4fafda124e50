use Rattle.std.proofs.Common.{length}
use Rattle.and_graph.specs.Cones.{IsCone}
use Rattle.and_graph.proofs.ConeMembers.{cone_seeded}
use Rattle.and_graph.proofs.cone.Cone.meet_both.Goals as goal

pub grow-requires-clause-cone : goal.grow-requires-clause-cone
grow-requires-clause-cone c =
    let nodes = c.args.nodes.now in
    let start : IsCone nodes c.args.self.now.members.items c.args.self.now.cnf = c.requires.cone in
    let x = c.in_ok-left.ensures in
    let y = c.in_ok-right.ensures in
    let in_x = x.members (length nodes) start.within c.requires.left in
    let in_y = y.members (length nodes) in_x c.requires.right in
    cone_seeded nodes c.member_of.new.self.members.items c.member_of-2.new.self.members.items c.member_of.new.self.cnf c.member_of-2.new.self.cnf
    (cone_seeded nodes c.args.self.now.members.items c.member_of.new.self.members.items c.args.self.now.cnf c.member_of.new.self.cnf start x.on in_x x.vars c.member_of.ensures.clauses)
    y.on in_y y.vars c.member_of-2.ensures.clauses
