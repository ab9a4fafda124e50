use Rattle.std.proofs.Common.{arith}
use Rattle.frame_graph.proofs.Positions.{input_at}
use Rattle.frame_graph.proofs.cells.input_position.Goals as goal

pub returns-clause-within : goal.returns-clause-within
returns-clause-within c = let at = input_at c.args.product.now c.args.p c.cells-cells.ensures.pair c.requires.place c.requires.input in omega arith

pub returns-clause-bits : goal.returns-clause-bits
returns-clause-bits c = (input_at c.args.product.now c.args.p c.cells-cells.ensures.pair c.requires.place c.requires.input).bits
