use Rattle.std.proofs.Common.{◌∙◌, ℕ, ◌<◌, ap, List, sym, subst, arith}
use Rattle.circ_model.specs.Meaning.{Pair}
use Rattle.class_partition.specs.declared.classes.Needed.{Needed}
use Rattle.class_partition.specs.Classes.{Classes, needed}
use Rattle.used_pairs.specs.Lists.{StepsBy, all_together}
use Rattle.used_pairs.proofs.UsedPlaces.{nexts_together, steps_by_nexts}
use Rattle.used_pairs.proofs.latches.latch_pairs.Goals as goal

pub returns-in_ok-list_between-in-Some-clause-steps : goal.returns-in_ok-list_between-in-Some-clause-steps
returns-in_ok-list_between-in-Some-clause-steps c =
    let pair : Pair = c.args.product.now in
    let classes : Classes = c.args.classes.now in
    let low = c.len-places.ensures.partition.lower c.args.pair.member (omega arith) in
    subst (λ (us : List Needed). (k : ℕ) → 0 < k → StepsBy pair k classes.phase us (needed classes c.args.pair.member)) (sym c.in_ok-list_between-in-Some.ensures)
    (λ k some. steps_by_nexts pair classes c.args.pair c.in-Some.nexts.0 c.in-Some.nexts.1 k c.in-Some.ensures.pair (omega arith) c.requires.needed.0 c.requires.rep c.in-Some.ensures.some some)

pub returns-in_ok-list_between-in-Some-clause-together : goal.returns-in_ok-list_between-in-Some-clause-together
returns-in_ok-list_between-in-Some-clause-together c =
    let within = c.in-Some.ensures.within in
    ap (all_together c.args.classes.now) c.in_ok-list_between-in-Some.ensures
    ∙ nexts_together c.args.product.now c.args.classes.now c.args.pair c.in-Some.nexts.0 c.in-Some.nexts.1 c.requires.places within.0 within.1 c.in-Some.ensures.some
