use Rattle.verdict_stamp.proofs.KnownPasses.{greatest_grows, known_passes}
use Rattle.verdict_stamp.proofs.laws.known_passes.Goals as goal

pub returns-clause-grows : goal.returns-clause-grows
returns-clause-grows c = greatest_grows

pub returns-clause-passes : goal.returns-clause-passes
returns-clause-passes c = known_passes
