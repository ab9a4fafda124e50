use Rattle.std.proofs.Common.{◌∙◌, ◌==◌, ℕ, ap, sym}
use Rattle.std.specs.Int.{w64}
use Rattle.std.proofs.lemmas.Nat.Bits.{bit_at_set_same, bit_at_set_other, bit_at_clear_same, bit_at_clear_other}
use Rattle.step_lanes.proofs.rows.with_lane.Goals as goal

pub returns-then-bit-clause-written : goal.returns-then-bit-clause-written
returns-then-bit-clause-written c = ap (λ (b : ℕ). b == 1) (bit_at_set_same w64 c.args.word c.args.at c.requires) ∙ sym c.if-bit.true

pub returns-then-bit-clause-others : goal.returns-then-bit-clause-others
returns-then-bit-clause-others c k lt ne = ap (λ (b : ℕ). b == 1) (bit_at_set_other w64 c.args.word c.args.at c.requires k ne)

pub returns-else-bit-clause-written : goal.returns-else-bit-clause-written
returns-else-bit-clause-written c = ap (λ (b : ℕ). b == 1) (bit_at_clear_same w64 c.args.word c.args.at c.requires) ∙ sym c.if-bit.false

pub returns-else-bit-clause-others : goal.returns-else-bit-clause-others
returns-else-bit-clause-others c k lt ne = ap (λ (b : ℕ). b == 1) (bit_at_clear_other w64 c.args.word c.args.at c.requires k lt ne)
