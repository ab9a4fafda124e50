use Rattle.std.proofs.Common.{◌≡◌, ◌∙◌, ◌+◌, ◌-◌, ℕ, Bool, ap, ap₂, sym, subst}
use Rattle.std.specs.Prelude.{Some}
use Rattle.class_partition.specs.Classes.{ArePartition}
use Rattle.cnf_store.specs.Clauses.{Formula}
use Rattle.sat_log.specs.Derivations.{IsAccepted}
use Rattle.log_check.specs.FirstBad.{Decides}
use Rattle.frame_unroll.specs.Unrolled.{Unrolling, formula_of}
use Rattle.used_pairs.specs.Logs.{step_asked}
use Rattle.used_pairs.proofs.Answering.{list_steps, list_used}
use Rattle.used_pairs.proofs.Passing.{asked_literals}
use Rattle.used_pairs.proofs.logs.step_pairs.Goals as goal

pub ask-requires-clause-left : goal.ask-requires-clause-left
ask-requires-clause-left c =
    (asked_literals c.args.product.now c.args.classes.now c.args.member c.needed-a.result c.in_ok-frames.frames.pair (ap (λ (u : Unrolling). u.pair) c.in_ok-frames.ensures) c.needed-a.ensures
    (subst (λ (n : ℕ). ArePartition n c.args.classes.now) (c.len-places.ensures.places ∙ c.requires.places) c.len-places.ensures.partition) c.requires.needed.0).0

pub returns-then-not-branch-clause-accepted : goal.returns-then-not-branch-clause-accepted
returns-then-not-branch-clause-accepted c =
    let k : ℕ = c.args.k in
    let asked : c.ask.new.self ≡ step_asked c.args.product.now k c.args.classes.now c.args.member =
    c.in_ok-ask.ensures.ok ∙ ap₂ (λ (u : Unrolling) (p : ℕ × ℕ). record u { asked = Some (record { a = p.0; b = p.1; first = k; count = k - k + 1 }) }) c.in_ok-frames.ensures c.needed-a.ensures in
    let not_accepted = subst (λ (b : Bool). Decides b (IsAccepted c.cnf.result.now c.args.log.now)) c.if-not-branch.true c.in_ok-check.ensures.exact in
    λ is. not_accepted (subst (λ (f : Formula). IsAccepted f c.args.log.now) (sym (c.cnf.ensures.clauses ∙ ap formula_of asked)) is)

pub returns-clause-accepted : goal.returns-clause-accepted
returns-clause-accepted c =
    let k : ℕ = c.args.k in
    let asked : c.ask.new.self ≡ step_asked c.args.product.now k c.args.classes.now c.args.member =
    c.in_ok-ask.ensures.ok ∙ ap₂ (λ (u : Unrolling) (p : ℕ × ℕ). record u { asked = Some (record { a = p.0; b = p.1; first = k; count = k - k + 1 }) }) c.in_ok-frames.ensures c.needed-a.ensures in
    subst (λ (f : Formula). IsAccepted f c.args.log.now) (c.cnf.ensures.clauses ∙ ap formula_of asked)
    (subst (λ (b : Bool). Decides b (IsAccepted c.cnf.result.now c.args.log.now)) c.if-not-branch.false c.in_ok-check.ensures.exact)

pub returns-clause-used : goal.returns-clause-used
returns-clause-used c =
    let k : ℕ = c.args.k in
    let asked : c.ask.new.self ≡ step_asked c.args.product.now k c.args.classes.now c.args.member =
    c.in_ok-ask.ensures.ok ∙ ap₂ (λ (u : Unrolling) (p : ℕ × ℕ). record u { asked = Some (record { a = p.0; b = p.1; first = k; count = k - k + 1 }) }) c.in_ok-frames.ensures c.needed-a.ensures in
    list_used c.args.product.now k c.args.classes.now c.args.member c.args.log.now c.ask.new.self c.cnf-2.result.now c.in_ok-marks.marks c.in_ok-bits.bits c.len-places.result c.in_ok-pairs.pairs.items c.in_ok-of.field-0 asked c.cnf-2.ensures.clauses
    c.len-places.ensures.partition c.len-places.ensures.places c.requires.places c.in_ok-marks.ensures.reached c.in_ok-bits.ensures c.in_ok-pairs.ensures c.in_ok-of.ensures

pub returns-clause-steps : goal.returns-clause-steps
returns-clause-steps c =
    let k : ℕ = c.args.k in
    let asked : c.ask.new.self ≡ step_asked c.args.product.now k c.args.classes.now c.args.member =
    c.in_ok-ask.ensures.ok ∙ ap₂ (λ (u : Unrolling) (p : ℕ × ℕ). record u { asked = Some (record { a = p.0; b = p.1; first = k; count = k - k + 1 }) }) c.in_ok-frames.ensures c.needed-a.ensures in
    list_steps c.args.product.now k c.args.classes.now c.args.member c.args.log.now c.ask.new.self c.cnf-2.result.now c.in_ok-marks.marks c.in_ok-bits.bits c.len-places.result c.in_ok-pairs.pairs.items c.in_ok-of.field-0 asked c.cnf-2.ensures.clauses
    c.len-places.ensures.partition c.len-places.ensures.places c.requires.places c.in_ok-marks.ensures.reached c.in_ok-bits.ensures c.in_ok-pairs.ensures c.in_ok-of.ensures c.cells-cells.ensures.pair c.requires.needed.0 c.in_ok-marks.ensures.refuted
