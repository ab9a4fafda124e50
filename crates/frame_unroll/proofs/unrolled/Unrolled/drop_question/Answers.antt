use Rattle.std.proofs.Common.{◌∙◌, ◌*◌, ℕ, ap, ap₂, sym, subst, arith}
use Rattle.circ_model.specs.Meaning.{places_of}
use Rattle.frame_unroll.specs.Ready.{IsReady}
use Rattle.frame_unroll.specs.Unrolled.{Unrolling}
use Rattle.frame_unroll.proofs.Appending.{all_room}
use Rattle.frame_unroll.proofs.Standing.{ready_dropped}
use Rattle.frame_unroll.proofs.unrolled.Unrolled.drop_question.Goals as goal

pub invariant_of-self : goal.invariant_of-self
invariant_of-self c =
    let u : Unrolling = c.self.inside.outline in
    let used = ap₂ (λ (x y : ℕ). x * y) c.count.ensures.value (c.len.ensures.places ∙ ap places_of c.product.ensures) in
    subst (λ (v : Unrolling). IsReady v c.cut.new.self c.self.inside.plain) (sym c.set_question.ensures)
    (ready_dropped u c.self.inside.cnf c.cut.new.self c.self.inside.plain c.self.invariant (c.cut.ensures.vars ∙ used) c.cut.ensures.clauses)

pub cut-requires-clause-few : goal.cut-requires-clause-few
cut-requires-clause-few c = let room = all_room c.count.result c.len.result c.count.ensures.few c.len.ensures.few in omega arith
