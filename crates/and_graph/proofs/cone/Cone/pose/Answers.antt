use Rattle.std.proofs.Common.{◌≡◌, ◌∙◌, ◌/◌, ◌<◌, length, sym, subst, arith}
use Rattle.and_graph.specs.Cones.{member_at}
use Rattle.and_graph.specs.Questions.{IsQuestion}
use Rattle.and_graph.proofs.Questions.{laid}
use Rattle.and_graph.proofs.cone.Cone.pose.Goals as goal

pub returns : goal.returns
returns c =
    let members = c.lay.new.self.members.items in
    let on = c.in_ok-lay.ensures.on in
    let size = on.size in
    let seed = c.in_ok-left.ensures in
    let in_left : c.in_ok-left.left < length c.seed.new.self.members.items = seed.within.0 in
    let in_right : c.in_ok-left.right < length c.seed.new.self.members.items = seed.within.1 in
    let left : member_at members c.in_ok-left.left ≡ c.args.x / 2 = on.same c.in_ok-left.left in_left ∙ seed.left in
    let right : member_at members c.in_ok-left.right ≡ c.args.y / 2 = on.same c.in_ok-left.right in_right ∙ seed.right in
    subst (IsQuestion c.args.nodes.now members c.add_apart.new.cnf c.args.x c.args.y) (sym c.len-given.ensures.value)
    (laid c.args.nodes.now members c.lay.new.self.cnf c.add_apart.new.cnf c.args.x c.args.y c.in_ok-left.left c.in_ok-left.right c.complement.result c.complement-2.result c.in_ok-lay.ensures.cone c.add_apart.ensures.vars c.in_ok-add_apart.ensures.on
    (omega arith) left (omega arith) right c.complement.ensures c.complement-2.ensures c.in_ok-add_apart.ensures.ok)
