use Rattle.std.proofs.Common.{◌≡◌, length, []}
use Rattle.cnf_store.specs.Clauses.{AreLiterals}
use Rattle.plain_text.specs.Pieces.{pieces, last_of}
use Rattle.sat_log.specs.Texts.{step_from}
use Rattle.sat_log.proofs.read.read_step.Given as goal

abbrev pub invariant-loop-word : goal.invariant-loop-word
invariant-loop-word l = record {
  due : step_from l.literals.items (pieces 32 l.rest) (last_of 32 l.rest) ≡ step_from [] (pieces 32 l.line) (last_of 32 l.line);
  literals : AreLiterals 2147483647 l.literals.items;
}

abbrev pub decreases-loop-word : goal.decreases-loop-word
decreases-loop-word l = length l.rest
