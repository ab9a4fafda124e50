use Rattle.std.proofs.Common.{◌≡◌, ◌∙◌, ◌<◌, ◌≤◌, ◌==◌, ℕ, true, false, List, length, eq-eqb, ne_eqb, sym, subst, arith}
use Rattle.circ_model.specs.Meaning.{places_of}
use Rattle.class_partition.specs.Classes.{is_least, least_of}
use Rattle.plain_text.specs.Pieces.{pieces, last_of}
use Rattle.corr_certificate.specs.declared.fault.Checked.TheVariants.{No}
use Rattle.corr_certificate.specs.Parts.{ReadsEnd, ReadsMembers}
use Rattle.corr_certificate.proofs.Answering.{at_ok, at_err}
use Rattle.corr_certificate.proofs.Ranges.{range_none}
use Rattle.corr_certificate.proofs.Going.{skipped, went_on, faulted}
use Rattle.corr_certificate.proofs.reading.body.read_parts.Goals as goal

pub loop-member-preserved-then-rep-member : goal.loop-member-preserved-then-rep-member
loop-member-preserved-then-rep-member c =
    let i = c.loop-member.invariant in
    let m = c.loop-member.member in
    let lt : m < places_of c.args.claim.now.product.now = omega (arith, c.loop-member-test.true, c.len-member-end.ensures.places) in
    let least : is_least c.args.claim.now.classes.now m ≡ true = eq-eqb (least_of c.args.claim.now.classes.now m) m (sym c.rep.ensures ∙ c.if-rep-member.true) in
    record {
      base = i.base;
      step = i.step;
      last = i.last;
      lines = i.lines;
      ways = λ r h. i.ways r (skipped c.args.claim.now.product.now c.args.claim.now.k c.args.claim.now.classes.now (length (last_of 10 c.args.from.rest.now) == 0) r m (places_of c.args.claim.now.product.now) c.loop-member.at.line (pieces 10 c.loop-member.at.rest.now) lt least h);
    }

pub returns-in-Err : goal.returns-in-Err
returns-in-Err c =
    let i = c.loop-member.invariant in
    let m = c.loop-member.member in
    let lt : m < places_of c.args.claim.now.product.now = omega (arith, c.loop-member-test.true, c.len-member-end.ensures.places) in
    let other : is_least c.args.claim.now.classes.now m ≡ false = ne_eqb (least_of c.args.claim.now.classes.now m) m (λ (e : least_of c.args.claim.now.classes.now m ≡ m). c.if-rep-member.false (c.rep.ensures ∙ e)) in
    let h = at_err _ c.in_ok-next.field-0 c.in-Err.fault c.in-Err.is c.in_ok-next.ensures.fault in
    i.ways (No c.in-Err.fault)
    (faulted c.args.claim.now.product.now c.args.claim.now.k c.args.claim.now.classes.now (length (last_of 10 c.args.from.rest.now) == 0) m (places_of c.args.claim.now.product.now) c.loop-member.at.line c.in-Err.fault.line (pieces 10 c.loop-member.at.rest.now) c.in-Err.fault.kind lt other h)

pub loop-member-preserved : goal.loop-member-preserved
loop-member-preserved c =
    let i = c.loop-member.invariant in
    let m = c.loop-member.member in
    let lt : m < places_of c.args.claim.now.product.now = omega (arith, c.loop-member-test.true, c.len-member-end.ensures.places) in
    let other : is_least c.args.claim.now.classes.now m ≡ false = ne_eqb (least_of c.args.claim.now.classes.now m) m (λ (e : least_of c.args.claim.now.classes.now m ≡ m). c.if-rep-member.false (c.rep.ensures ∙ e)) in
    let on = at_ok _ c.in_ok-next.field-0 c.in-Ok.next c.in-Ok.is c.in_ok-next.ensures.on in
    let lines = at_ok _ c.in_ok-next.field-0 c.in-Ok.next c.in-Ok.is c.in_ok-next.ensures.lines in
    let low = i.lines in
    record {
      base = at_ok _ c.in_ok-next.field-0 c.in-Ok.next c.in-Ok.is c.in_ok-next.ensures.base ∙ i.base;
      step = at_ok _ c.in_ok-next.field-0 c.in-Ok.next c.in-Ok.is c.in_ok-next.ensures.step ∙ i.step;
      last = at_ok _ c.in_ok-next.field-0 c.in-Ok.next c.in-Ok.is c.in_ok-next.ensures.last ∙ i.last;
      lines = omega arith;
      ways = λ r h. i.ways r (went_on c.args.claim.now.product.now c.args.claim.now.k c.args.claim.now.classes.now (length (last_of 10 c.args.from.rest.now) == 0) r m (places_of c.args.claim.now.product.now) c.loop-member.at.line c.in-Ok.next.line (pieces 10 c.loop-member.at.rest.now) (pieces 10 c.in-Ok.next.rest.now) lt other on h);
    }

pub returns : goal.returns
returns c =
    let i = c.loop-member.invariant in
    let past : places_of c.args.claim.now.product.now ≤ c.loop-member.member = omega (arith, c.loop-member-test.false, c.len-member-end.ensures.places) in
    let end : ReadsEnd (length (last_of 10 c.args.from.rest.now) == 0) c.read_end.result c.loop-member.at.line (pieces 10 c.loop-member.at.rest.now) =
    subst (λ (bs : List ℕ). ReadsEnd (length bs == 0) c.read_end.result c.loop-member.at.line (pieces 10 c.loop-member.at.rest.now)) i.last c.read_end.ensures in
    i.ways c.read_end.result
    (subst (λ (ps : List ℕ). ReadsMembers c.args.claim.now.product.now c.args.claim.now.k c.args.claim.now.classes.now (length (last_of 10 c.args.from.rest.now) == 0) c.read_end.result ps c.loop-member.at.line (pieces 10 c.loop-member.at.rest.now))
    (sym (range_none c.loop-member.member (places_of c.args.claim.now.product.now) past)) end)
