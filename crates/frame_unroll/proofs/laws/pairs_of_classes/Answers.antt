use Rattle.frame_unroll.proofs.Members.{members_to, members_from}
use Rattle.frame_unroll.proofs.laws.pairs_of_classes.Goals as goal

pub returns : goal.returns
returns c = λ n classes row. (members_to n classes row, members_from n classes row)
