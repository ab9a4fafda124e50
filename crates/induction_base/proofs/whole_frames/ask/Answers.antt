use Rattle.std.proofs.Common.{sym, subst}
use Rattle.frame_questions.specs.declared.found.Separation.{Separation}
use Rattle.frame_questions.specs.declared.found.Seen.{Seen}
use Rattle.frame_questions.specs.Found.{IsFound, IsSeen}
use Rattle.frame_unroll.specs.Unrolled.{asks}
use Rattle.induction_base.proofs.Asking.{apart_at, hold_at}
use Rattle.induction_base.proofs.whole_frames.ask.Goals as goal

pub returns-in-None : goal.returns-in-None
returns-in-None c =
    let u = c.args.frames.now in
    let found = subst (λ (f : Separation). IsFound u (asks c.args.a c.args.b c.args.t c.args.t) f) c.in-None.is c.in_ok-find_in.ensures in
    hold_at u.pair u c.args.a c.args.b c.args.t c.requires.runs c.requires.within found.0

pub returns : goal.returns
returns c =
    let u = c.args.frames.now in
    let seen = subst (λ (f : Separation). IsFound u (asks c.args.a c.args.b c.args.t c.args.t) f) c.in-Path.is c.in_ok-find_in.ensures in
    let inside = subst (λ (s : Seen). IsSeen u (asks c.args.a c.args.b c.args.t c.args.t) s) (sym c.seen.view_is) seen in
    apart_at u.pair u c.args.a c.args.b c.args.t _ c.in_ok-rows-in-Path.rows c.requires.runs c.requires.within inside c.in_ok-rows-in-Path.ensures
