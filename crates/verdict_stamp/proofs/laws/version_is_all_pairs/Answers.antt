use Rattle.verdict_stamp.proofs.Whole.{version_is_all_pairs}
use Rattle.verdict_stamp.proofs.laws.version_is_all_pairs.Goals as goal

pub returns : goal.returns
returns c = version_is_all_pairs
