use Rattle.sat_core.proofs.Marking.{counts_below}
use Rattle.sat_core.proofs.marks.Marks.lower.Goals as goal

pub returns-clause-counted : goal.returns-clause-counted
returns-clause-counted c = counts_below c.args.self.now.seen.items c.args.self.now.start c.args.self.now.below c.requires
