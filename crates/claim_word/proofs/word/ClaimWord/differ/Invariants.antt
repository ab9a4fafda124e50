use Rattle.claim_word.specs.Steps.{view_of}
use Rattle.claim_word.proofs.word.ClaimWord.differ.Given as goal

-- the two as they are
abbrev pub ghosts-differ_as : goal.ghosts-differ_as
ghosts-differ_as a = record { left = view_of a.first.now; right = view_of a.second.now }
