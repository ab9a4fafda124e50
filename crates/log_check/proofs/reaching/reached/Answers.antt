use Rattle.std.proofs.Common.{◌+◌, length, arith}
use Rattle.log_check.proofs.Core.{marked_refuted}
use Rattle.log_check.proofs.Marking.{cut_reached}
use Rattle.log_check.proofs.reaching.reached.Goals as goal

pub returns-clause-reached : goal.returns-clause-reached
returns-clause-reached c =
    cut_reached (length c.args.formula.now.clauses) c.len-count.result c.args.log.now (length c.args.formula.now.clauses + length c.args.log.now) c.in_ok-marks.marks c.in_ok-bits.bits c.copy_bits.new.self
    c.in_ok-marks.ensures (omega arith) c.len-count.ensures.value c.in_ok-bits.ensures c.copy_bits.ensures.size c.copy_bits.ensures.copied

pub returns-clause-refuted : goal.returns-clause-refuted
returns-clause-refuted c =
    marked_refuted c.args.formula.now c.args.log.now c.copy_bits.new.self c.requires
    (cut_reached (length c.args.formula.now.clauses) c.len-count.result c.args.log.now (length c.args.formula.now.clauses + length c.args.log.now) c.in_ok-marks.marks c.in_ok-bits.bits c.copy_bits.new.self
    c.in_ok-marks.ensures (omega arith) c.len-count.ensures.value c.in_ok-bits.ensures c.copy_bits.ensures.size c.copy_bits.ensures.copied)
