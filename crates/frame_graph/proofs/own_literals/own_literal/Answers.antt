use Rattle.std.proofs.Common.{arith}
use Rattle.frame_graph.specs.Frames.{frame_of}
use Rattle.frame_graph.proofs.Rows.{low_value}
use Rattle.frame_graph.proofs.own_literals.own_literal.Goals as goal

pub returns-in-Low-clause-within : goal.returns-in-Low-clause-within
returns-in-Low-clause-within c = let some = c.len-nodes.ensures.graph.some in omega (arith, c.of.ensures)

pub returns-in-Low-clause-value : goal.returns-in-Low-clause-value
returns-in-Low-clause-value c path v obeys is = low_value (frame_of c.args.frame.now) c.args.literals.now path v c.args.p c.of.result c.in-Low.ensures.pair c.requires.place c.in-Low.ensures.is c.of.ensures is
