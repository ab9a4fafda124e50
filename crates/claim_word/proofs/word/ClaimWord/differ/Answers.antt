use Rattle.claim_word.proofs.Told.{none_in_common}
use Rattle.claim_word.proofs.word.ClaimWord.differ.Goals as goal

pub returns-clause-differ : goal.returns-clause-differ
returns-clause-differ c = none_in_common c.args.first.now.claims c.args.second.now.claims c.differ_as.ensures.apart
