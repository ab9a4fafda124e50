use Rattle.trace_witness.specs.Lines.{lines_of}
use Rattle.trace_witness.proofs.Runs.{due_is, run_of, output_of_trace}
use Rattle.trace_witness.proofs.read.read_trace.Goals as goal

pub returns-clause-run : goal.returns-clause-run
returns-clause-run c = run_of c.args.product.now c.read_lines.result (due_is c.args.product.now (lines_of c.args.bytes.now) c.read_lines.result c.read_lines.ensures)

pub returns-clause-output : goal.returns-clause-output
returns-clause-output c = output_of_trace c.args.product.now c.read_lines.result (due_is c.args.product.now (lines_of c.args.bytes.now) c.read_lines.result c.read_lines.ensures)
