use Rattle.std.proofs.Common.{ℕ, ◌∙◌, ◌-◌, List, arith, subst}
use Rattle.std.specs.Prelude.{codes}
use Rattle.class_partition.specs.Classes.{needed}
use Rattle.cnf_store.specs.Clauses.{Formula}
use Rattle.frame_unroll.specs.Unrolled.{from_reset, after_classes}
use Rattle.plain_text.specs.Pieces.{pieces}
use Rattle.corr_certificate.specs.Parts.{IsOn, IsFault, base_formula}
use Rattle.corr_certificate.proofs.Answering.{at_ok, at_err, ok_each, ok_map, err_map}
use Rattle.corr_certificate.proofs.Going.{formula_by, member_both, base_fault, step_fault}
use Rattle.corr_certificate.proofs.reading.parts.check_member.Goals as goal

pub returns-in-Err-clause-fault : goal.returns-in-Err-clause-fault
returns-in-Err-clause-fault c =
    let e = formula_by c.args.frames.now.base (from_reset c.args.claim.now.product.now c.args.claim.now.k) c.needed.result (needed c.args.claim.now.classes.now c.args.member) 0 (c.args.claim.now.k - 1) c.requires.base c.needed.ensures in
    let h = at_err _ c.in_ok-fault.field-0 c.in-Err.fault c.in-Err.is c.in_ok-fault.ensures.fault in
    base_fault c.args.claim.now.product.now c.args.claim.now.k c.args.claim.now.classes.now c.args.member c.args.at.line (pieces 10 c.args.at.rest.now) c.in-Err.fault.kind c.in-Err.fault.line
    (subst (λ (g : Formula). IsFault c.args.claim.now.product.now (codes "base ") c.args.member g c.args.at.line (pieces 10 c.args.at.rest.now) c.in-Err.fault.kind c.in-Err.fault.line) e h)

pub returns-in-Ok-clause-on : goal.returns-in-Ok-clause-on
returns-in-Ok-clause-on c =
    let pair = c.args.claim.now.product.now in
    let k = c.args.claim.now.k in
    let classes = c.args.claim.now.classes.now in
    let p = c.args.member in
    let line = c.in-Ok.next.line in
    let rest : List (List ℕ) = pieces 10 c.in-Ok.next.rest.now in
    let bytes : List (List ℕ) = pieces 10 c.args.at.rest.now in
    let e = formula_by c.args.frames.now.base (from_reset pair k) c.needed.result (needed classes p) 0 (k - 1) c.requires.base c.needed.ensures in
    let f = formula_by c.args.frames.now.step (after_classes pair k classes) c.needed.result (needed classes p) k k c.requires.step c.needed.ensures in
    let on = at_ok _ c.in_ok-fault.field-0 c.in-Ok.next c.in-Ok.is c.in_ok-fault.ensures.on in
    let base : IsOn pair (codes "base ") p (base_formula pair k classes p) c.args.at.line bytes line rest = subst (λ (g : Formula). IsOn pair (codes "base ") p g c.args.at.line bytes line rest) e on in
    ok_map _ _ c.read_asked-in-Ok.result (λ o h. ok_map _ _ o (λ r x. member_both pair k classes p c.args.at.line line r.line bytes rest (pieces 10 r.rest.now) base
    (subst (λ (g : Formula). IsOn pair (codes "step ") p g line rest r.line (pieces 10 r.rest.now)) f x)) h) c.read_asked-in-Ok.ensures.on

pub returns-in-Ok-clause-fault : goal.returns-in-Ok-clause-fault
returns-in-Ok-clause-fault c =
    let pair = c.args.claim.now.product.now in
    let k = c.args.claim.now.k in
    let classes = c.args.claim.now.classes.now in
    let p = c.args.member in
    let line = c.in-Ok.next.line in
    let rest : List (List ℕ) = pieces 10 c.in-Ok.next.rest.now in
    let bytes : List (List ℕ) = pieces 10 c.args.at.rest.now in
    let e = formula_by c.args.frames.now.base (from_reset pair k) c.needed.result (needed classes p) 0 (k - 1) c.requires.base c.needed.ensures in
    let f = formula_by c.args.frames.now.step (after_classes pair k classes) c.needed.result (needed classes p) k k c.requires.step c.needed.ensures in
    let on = at_ok _ c.in_ok-fault.field-0 c.in-Ok.next c.in-Ok.is c.in_ok-fault.ensures.on in
    let base : IsOn pair (codes "base ") p (base_formula pair k classes p) c.args.at.line bytes line rest = subst (λ (g : Formula). IsOn pair (codes "base ") p g c.args.at.line bytes line rest) e on in
    ok_map _ _ c.read_asked-in-Ok.result (λ o h. err_map _ _ o (λ x y. step_fault pair k classes p c.args.at.line line bytes rest x.kind x.line base
    (subst (λ (g : Formula). IsFault pair (codes "step ") p g line rest x.kind x.line) f y)) h) c.read_asked-in-Ok.ensures.fault

pub returns-in-Ok-clause-last : goal.returns-in-Ok-clause-last
returns-in-Ok-clause-last c =
    let before = at_ok _ c.in_ok-fault.field-0 c.in-Ok.next c.in-Ok.is c.in_ok-fault.ensures.last in
    ok_map _ _ c.read_asked-in-Ok.result (λ o h. ok_map _ _ o (λ r x. x ∙ before) h) c.read_asked-in-Ok.ensures.last

pub returns-in-Ok-clause-lines : goal.returns-in-Ok-clause-lines
returns-in-Ok-clause-lines c =
    let before = at_ok _ c.in_ok-fault.field-0 c.in-Ok.next c.in-Ok.is c.in_ok-fault.ensures.lines in
    ok_map _ _ c.read_asked-in-Ok.result (λ o h. ok_map _ _ o (λ r x. omega (arith, x, before)) h) c.read_asked-in-Ok.ensures.lines

pub returns-in-Ok-clause-base : goal.returns-in-Ok-clause-base
returns-in-Ok-clause-base c = ok_each _ c.read_asked-in-Ok.result (λ o. ok_each _ o (λ r. c.in_ok-fault.ensures.frames))

pub returns-in-Ok-clause-step : goal.returns-in-Ok-clause-step
returns-in-Ok-clause-step c = ok_map _ _ c.read_asked-in-Ok.result (λ o e. ok_each _ o (λ r. e)) c.read_asked-in-Ok.ensures.frames
