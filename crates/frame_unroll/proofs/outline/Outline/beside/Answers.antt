use Rattle.std.proofs.Common.{◌≡◌, ◌≤◌, ◌<◌, ◌+◌, ◌*◌, ℕ, ap, arith, mul-le-mul_right}
use Rattle.cnf_store.specs.Clauses.{Formula}
use Rattle.frame_unroll.specs.Unrolled.{Unrolling}
use Rattle.frame_unroll.proofs.Appending.{all_room}
use Rattle.frame_unroll.proofs.outline.Outline.beside.Goals as goal

pub add_asked-requires-clause-room : goal.add_asked-requires-clause-room
add_asked-requires-clause-room c =
    let f = ap (λ (v : Unrolling). v.frames) c.self.view_is in
    let t : ℕ = c.args.question.first + c.args.question.count in
    let room : t * c.len-n.result < 1000000000 = all_room t c.len-n.result (omega (arith, c.requires.asked.2, c.self.invariant.few)) (omega arith) in
    omega arith

pub add_asked-requires-clause-small : goal.add_asked-requires-clause-small
add_asked-requires-clause-small c =
    let f = ap (λ (v : Unrolling). v.frames) c.self.view_is in
    let room : c.self.inside.count * c.len-n.result < 1000000000 = all_room c.self.inside.count c.len-n.result c.self.invariant.few (omega arith) in
    omega (arith, c.requires.asked.2, c.self.invariant.few)

pub add_asked-requires-clause-variables : goal.add_asked-requires-clause-variables
add_asked-requires-clause-variables c =
    let f = ap (λ (v : Unrolling). v.frames) c.self.view_is in
    let vars : c.in_ok-own.own.vars ≡ c.self.inside.count * c.len-n.result + c.args.question.count = ap (λ (g : Formula). g.vars) c.in_ok-own.ensures.empty in
    let within : (c.args.question.first + c.args.question.count) * c.len-n.result ≤ c.self.inside.count * c.len-n.result = mul-le-mul_right c.len-n.result (omega (arith, c.requires.asked.2)) in
    omega arith

pub add_asked-requires-clause-variable : goal.add_asked-requires-clause-variable
add_asked-requires-clause-variable c =
    let vars : c.in_ok-own.own.vars ≡ c.self.inside.count * c.len-n.result + c.args.question.count = ap (λ (g : Formula). g.vars) c.in_ok-own.ensures.empty in
    omega arith
