use Rattle.std.proofs.Common.{◌≡◌, ◌∙◌, true, Some, ap, subst, sym}
use Rattle.circ_model.specs.Meaning.{places_of}
use Rattle.cnf_store.specs.Clauses.{satisfies}
use Rattle.frame_unroll.specs.Unrolled.{Unrolling, AreFramesOf, asking, clauses_of}
use Rattle.frame_questions.specs.declared.found.Seen.{Seen}
use Rattle.frame_questions.specs.Found.{IsSeen}
use Rattle.frame_questions.proofs.Finding.{one_differs, is_seen}
use Rattle.frame_questions.proofs.found.Prepared.seen_in.Goals as goal

pub path_beside-requires-clause-satisfied : goal.path_beside-requires-clause-satisfied
path_beside-requires-clause-satisfied c = subst (λ (v : Unrolling). satisfies c.args.row.now (clauses_of (asking v c.args.question)) ≡ true) (sym c.self.view_is) c.requires.satisfied

pub frame_of-frame-requires-clause-one : goal.frame_of-frame-requires-clause-one
frame_of-frame-requires-clause-one c =
    let u = c.self.inside.frames in
    let n = c.len-n.ensures.places ∙ ap places_of c.product.ensures in
    let asked = subst (λ (v : Unrolling). AreFramesOf v.frames v.pair (Some c.args.question)) (sym c.self.view_is) c.requires.asked in
    one_differs u c.args.question c.len-n.result c.args.row.now c.in_ok-path.path n asked c.in_ok-path.ensures.sought c.in_ok-path.ensures.shown

pub returns : goal.returns
returns c =
    let u = c.self.inside.frames in
    let n = c.len-n.ensures.places ∙ ap places_of c.product.ensures in
    let asked = subst (λ (v : Unrolling). AreFramesOf v.frames v.pair (Some c.args.question)) (sym c.self.view_is) c.requires.asked in
    let s : Seen = record { path = c.in_ok-path.path; frame = c.frame_of-frame.result; bits = c.in_ok-bits.bits } in
    subst (λ (v : Unrolling). IsSeen v c.args.question s) c.self.view_is
    (is_seen u c.args.question c.len-n.result c.args.row.now s n asked c.in_ok-path.ensures.sought c.in_ok-path.ensures.shown
    c.frame_of-frame.ensures.from c.frame_of-frame.ensures.to c.frame_of-frame.ensures.apart c.frame_of-frame.ensures.before c.in_ok-bits.ensures.size c.in_ok-bits.ensures.bits)
