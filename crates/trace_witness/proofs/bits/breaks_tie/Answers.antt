use Rattle.std.proofs.Common.{sym, arith}
use Rattle.product_machine.proofs.Partners.{partner_tied}
use Rattle.trace_witness.specs.Bits.{bits_of}
use Rattle.trace_witness.proofs.Ties.{none_broken, one_broken}
use Rattle.trace_witness.proofs.bits.breaks_tie.Goals as goal

pub returns-then-not-starts_like : goal.returns-then-not-starts_like
returns-then-not-starts_like c =
    sym (one_broken c.args.product.now (bits_of c.args.line.now) c.loop-i.i (λ like. let yes = c.starts_like.ensures.1 like in let not_so = c.if-not-starts_like.true in let f : ⊥ = cc in f))

pub returns : goal.returns
returns c =
    sym (none_broken c.args.product.now (bits_of c.args.line.now) (λ i q are. c.loop-i.invariant i (omega (arith, (partner_tied c.args.product.now i q are).within, c.latches-i-end.ensures)) q are))
