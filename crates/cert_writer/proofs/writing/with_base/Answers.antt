use Rattle.class_partition.specs.Classes.{needed}
use Rattle.cert_writer.proofs.writing.with_base.Goals as goal

pub invariant_of-result : goal.invariant_of-result
invariant_of-result c =
    let classes = c.args.classes.now in
    record {
      proved = c.requires.proved;
      base_is = c.requires.base;
      step_is = c.in-Ok.ensures.frames;
      base_count = λ p. c.requires.count (needed classes p).0 (needed classes p).1;
      step_count = λ p. c.in-Ok.ensures.count (needed classes p).0 (needed classes p).1;
    }
