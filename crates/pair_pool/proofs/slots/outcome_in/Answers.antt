use Rattle.std.proofs.Common.{◌∙◌, ◌<◌, Option, IfSome, length, sym, subst, arith}
use Rattle.pair_pool.specs.declared.outcome.Outcome.{Outcome}
use Rattle.pair_pool.specs.Outcomes.{IsOutcomeAt}
use Rattle.pair_pool.proofs.slots.outcome_in.Goals as goal

pub returns-in-Some-clause-outcome : goal.returns-in-Some-clause-outcome
returns-in-Some-clause-outcome g c =
    let lt : c.args.index < length c.args.slots.now.items = omega (arith, c.requires.slots.count, c.requires.place) in
    let held = c.requires.slots.each c.args.index c.index_mut.result.now lt in
    subst (λ (o : Option Outcome). IfSome o (IsOutcomeAt c.args.products.now c.args.k c.args.index)) (sym (c.in-Some.ensures.value ∙ c.index_mut.ensures.value)) held
