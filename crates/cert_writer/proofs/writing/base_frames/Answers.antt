use Rattle.std.proofs.Common.{◌≡◌, ◌-◌, ℕ, length, subst}
use Rattle.std.specs.Prelude.{IfOk}
use Rattle.frame_unroll.specs.Unrolled.{Unrolling, clauses_of, asks, asking}
use Rattle.cert_writer.proofs.writing.base_frames.Goals as goal

pub returns-clause-count : goal.returns-clause-count
returns-clause-count c =
    subst (λ (u : Unrolling). IfOk c.prepared.result (λ r. (a b : ℕ) → r.1 ≡ length (clauses_of (asking u (asks a b 0 (c.args.k - 1)))))) c.in_ok-frames.ensures c.prepared.ensures.count
