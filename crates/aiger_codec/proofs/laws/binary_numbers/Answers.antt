use Rattle.aiger_codec.proofs.DeltaLaws.{delta_spelled, delta_read, shortest_spelled, none_shorter}
use Rattle.aiger_codec.proofs.laws.binary_numbers.Goals as goal

pub returns-clause-read : goal.returns-clause-read
returns-clause-read c = delta_spelled

pub returns-clause-read_again : goal.returns-clause-read_again
returns-clause-read_again c = delta_read

pub returns-clause-written : goal.returns-clause-written
returns-clause-written c = shortest_spelled

pub returns-clause-shortest : goal.returns-clause-shortest
returns-clause-shortest c = none_shorter
