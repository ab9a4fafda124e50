use Rattle.std.proofs.Common.{◌≡◌, ◌≤◌, ℕ, length, ◌+◌, arith, subst}
use Rattle.circ_model.proofs.Order.{ordered, length_variables}
use Rattle.circ_model.proofs.Levels.{one_level, level_below}
use Rattle.circ_model.proofs.Rows.{defined_at}
use Rattle.circ_model.proofs.laws.one_levelling.Goals as goal

pub returns-clause-unique : goal.returns-clause-unique
returns-clause-unique c = λ net a b sound x y lit defined.
    let (q, within, e) = defined_at net lit defined in
    subst (λ (v : ℕ). a v ≡ b v) e (one_level net a b (ordered net sound) x y (q + 1) q (omega arith) within)

pub returns-clause-bounded : goal.returns-clause-bounded
returns-clause-bounded c = λ net level sound x lit defined.
    let (q, within, e) = defined_at net lit defined in
    subst (λ (v : ℕ). level v ≤ length net.gates) e (level_below net level (ordered net sound) x (q + 1) q (length net.gates) (omega arith) within (omega (arith, length_variables net)))
