use Rattle.std.proofs.Common.{◌+◌, length, arith}
use Rattle.verdict_stamp.specs.Versions.{Standing}
use Rattle.verdict_stamp.proofs.Splitting.{may_of, split_stays}
use Rattle.verdict_stamp.proofs.version.Version.split_by.Goals as goal

pub invariant_of-self : goal.invariant_of-self
invariant_of-self c =
    let i = c.self.inside in
    let v : Standing = record { pair = i.product.now; k = i.depth; classes = i.partition; number = i.splits } in
    let may = may_of v c.args.self.now c.args.vector.now c.bits-bits.result.now c.self.view_is c.requires.product c.requires.k c.bits-bits.ensures.bits c.bits-bits.ensures.may in
    split_stays v (length i.partition.least) c.bits-bits.result.now c.split_by-added.new.self c.split_by-added.result (i.splits + c.one_of.result) c.self.invariant c.self.invariant.partition.least_len
    c.split_by-added.ensures.splits may c.split_by-added.ensures.count (omega (arith, c.one_of.ensures.within))
