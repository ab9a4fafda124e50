use Rattle.std.proofs.Common.{subst}
use Rattle.circ_model.specs.Meaning.{Pair, places_of}
use Rattle.class_partition.specs.Classes.{HoldIn}
use Rattle.verdict_stamp.proofs.Rounds.{divides}
use Rattle.verdict_stamp.proofs.refine.prove_pair.Goals as goal

pub returns-clause-none : goal.returns-clause-none
returns-clause-none c z same =
    let hold = subst (λ (p : Pair). HoldIn (places_of p) c.args.next.now.classes c.in-Splits.vector.bits) c.requires.product (c.split_by.ensures.none z).1 in
    absurd (divides c.args.prover.now c.args.pair.member c.in-Splits.vector c.in_ok-prove.field-0 c.args.next.now.classes c.in-Splits.is c.in_ok-prove.ensures.proof c.requires.needed same hold)
