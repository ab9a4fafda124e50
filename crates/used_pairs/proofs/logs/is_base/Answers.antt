use Rattle.std.proofs.Common.{◌≡◌, ◌∙◌, ◌+◌, ◌-◌, ℕ, ap, ap₂, subst}
use Rattle.std.specs.Prelude.{Some}
use Rattle.std.specs.Result.{IfOk}
use Rattle.cnf_store.specs.Clauses.{Formula}
use Rattle.class_partition.specs.Classes.{ArePartition}
use Rattle.sat_log.specs.Derivations.{IsAccepted}
use Rattle.log_check.specs.FirstBad.{Decides}
use Rattle.frame_unroll.specs.Unrolled.{Unrolling, formula_of}
use Rattle.used_pairs.specs.Logs.{base_asked}
use Rattle.used_pairs.proofs.Passing.{asked_literals}
use Rattle.used_pairs.proofs.logs.is_base.Goals as goal

pub ask-requires-clause-left : goal.ask-requires-clause-left
ask-requires-clause-left c =
    (asked_literals c.args.product.now c.args.classes.now c.args.member c.needed-a.result c.in_ok-frames.frames.pair (ap (λ (u : Unrolling). u.pair) c.in_ok-frames.ensures) c.needed-a.ensures
    (subst (λ (n : ℕ). ArePartition n c.args.classes.now) (c.len-places.ensures.places ∙ c.requires.places) c.len-places.ensures.partition) c.requires.needed.0).0

pub returns : goal.returns
returns c =
    let m : ℕ = c.args.member in
    let k : ℕ = c.args.k in
    let asked : c.ask.new.self ≡ base_asked c.args.product.now k c.args.classes.now m =
    c.in_ok-ask.ensures.ok ∙ ap₂ (λ (u : Unrolling) (p : ℕ × ℕ). record u { asked = Some (record { a = p.0; b = p.1; first = 0; count = k - 1 - 0 + 1 }) }) c.in_ok-frames.ensures c.needed-a.ensures in
    subst (λ (f : Formula). IfOk c.check.result (λ yes. Decides yes (IsAccepted f c.args.log.now))) (c.cnf.ensures.clauses ∙ ap formula_of asked) c.check.ensures.exact
