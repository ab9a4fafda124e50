use Rattle.std.proofs.Common.{◌≡◌, ◌≤◌, ◌<◌, ◌∙◌, ◌*◌, ◌+◌, ◌-◌, ◌++◌, mul-le-mul_right, arith, ℕ, ℤ, List, Some, ap, ap₂, sym, subst, rules}
use Rattle.circ_model.specs.Meaning.{places_of}
use Rattle.frame_unroll.specs.declared.question.Question.{Question}
use Rattle.frame_unroll.specs.Frames.{literal_in, question}
use Rattle.frame_unroll.specs.Ready.{IsReady}
use Rattle.frame_unroll.specs.Unrolled.{Unrolling, AreFramesOf, asks}
use Rattle.cnf_store.specs.Clauses.{Formula}
use Rattle.frame_unroll.proofs.Appending.{all_room}
use Rattle.frame_unroll.proofs.Standing.{bare_variables, ready_asked}
use Rattle.frame_unroll.proofs.unrolled.Unrolled.ask.Goals as goal

pub invariant_of-self : goal.invariant_of-self
invariant_of-self c =
    let u : Unrolling = c.self.inside.outline in
    let q : Question = asks c.args.a c.args.b c.args.first c.args.last in
    let n : c.len-n.result ≡ places_of u.pair = c.len-n.ensures.places ∙ ap places_of c.product.ensures in
    let used : c.count.result * c.len-n.result ≡ u.frames * places_of u.pair = ap₂ (λ (x y : ℕ). x * y) c.count.ensures.value n in
    let fine : AreFramesOf u.frames u.pair (Some q) = search rules in
    let clauses = c.in-Ok.ensures.ok ∙ ap₂ (λ (old : List (List ℤ)) (m : ℕ). old ++ question (literal_in m) (c.count.result * c.len-n.result) q.a q.b q.first q.count) c.add_vars.ensures.clauses n
    ∙ ap (λ (d : ℕ). c.self.inside.cnf.clauses ++ question (literal_in (places_of u.pair)) d q.a q.b q.first q.count) used in
    subst (λ (v : Unrolling). IsReady v c.add_asked.new.cnf c.self.inside.plain) (sym c.set_question.ensures)
    (ready_asked u q c.self.inside.cnf c.add_asked.new.cnf c.self.inside.plain c.self.invariant (ap (λ (v : Unrolling). v.asked) c.self.view_is ∙ c.requires.none) fine (c.add_asked.ensures.vars ∙ c.add_vars.ensures.vars) clauses)

pub add_asked-requires-clause-room : goal.add_asked-requires-clause-room
add_asked-requires-clause-room c =
    let f = ap (λ (v : Unrolling). v.frames) c.self.view_is in
    let t : ℕ = c.args.first + (c.args.last - c.args.first + 1) in
    let room : t * c.len-n.result < 1000000000 = all_room t c.len-n.result (omega arith) (omega arith) in
    omega arith

pub add_asked-requires-clause-small : goal.add_asked-requires-clause-small
add_asked-requires-clause-small c =
    let f = ap (λ (v : Unrolling). v.frames) c.self.view_is in
    let room : c.count.result * c.len-n.result < 1000000000 = all_room c.count.result c.len-n.result (omega arith) (omega arith) in
    omega arith

pub add_asked-requires-clause-variables : goal.add_asked-requires-clause-variables
add_asked-requires-clause-variables c =
    let u : Unrolling = c.self.inside.outline in
    let f = ap (λ (v : Unrolling). v.frames) c.self.view_is in
    let used : c.count.result * c.len-n.result ≡ u.frames * places_of u.pair = ap₂ (λ (x y : ℕ). x * y) c.count.ensures.value (c.len-n.ensures.places ∙ ap places_of c.product.ensures) in
    let plain : c.self.inside.cnf.vars ≡ u.frames * places_of u.pair = ap (λ (g : Formula). g.vars) c.self.invariant.are ∙ bare_variables u (ap (λ (v : Unrolling). v.asked) c.self.view_is ∙ c.requires.none) in
    let within : (c.args.first + (c.args.last - c.args.first + 1)) * c.len-n.result ≤ c.count.result * c.len-n.result = mul-le-mul_right c.len-n.result (omega arith) in
    omega (arith, c.add_vars.ensures.vars)

pub add_asked-requires-clause-variable : goal.add_asked-requires-clause-variable
add_asked-requires-clause-variable c =
    let u : Unrolling = c.self.inside.outline in
    let used : c.count.result * c.len-n.result ≡ u.frames * places_of u.pair = ap₂ (λ (x y : ℕ). x * y) c.count.ensures.value (c.len-n.ensures.places ∙ ap places_of c.product.ensures) in
    let plain : c.self.inside.cnf.vars ≡ u.frames * places_of u.pair = ap (λ (g : Formula). g.vars) c.self.invariant.are ∙ bare_variables u (ap (λ (v : Unrolling). v.asked) c.self.view_is ∙ c.requires.none) in
    omega (arith, c.add_vars.ensures.vars)
