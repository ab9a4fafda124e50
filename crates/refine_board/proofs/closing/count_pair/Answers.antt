use Rattle.std.proofs.Common.{◌∙◌, refl}
use Rattle.circ_model.specs.Meaning.{places_of}
use Rattle.refine_board.specs.declared.journal.Step.TheVariants.{Counted}
use Rattle.refine_board.proofs.Counting.{counted_step}
use Rattle.refine_board.proofs.Alone.{closes_one}
use Rattle.refine_board.proofs.closing.count_pair.Goals as goal

pub returns-clause-closes : goal.returns-clause-closes
returns-clause-closes g c = closes_one (places_of g.L.Run.pair) c.args.party c.args.pair (Counted c.args.pair c.args.verdict.used) c.args.board.now c.claim.new.self c.count.new.self c.requires.pair c.claim.ensures.claimed c.count.ensures.step refl

pub returns-clause-classes : goal.returns-clause-classes
returns-clause-classes g c =
    let r = counted_step (places_of g.L.Run.pair) c.args.party c.args.pair c.args.verdict.used c.claim.new.self.state c.count.new.self.state c.places-places.ensures.marks c.count.ensures.step.0.2 c.claim.ensures.below in
    r.0 ∙ c.claim.ensures.claimed.1

pub returns-clause-below : goal.returns-clause-below
returns-clause-below g c = (counted_step (places_of g.L.Run.pair) c.args.party c.args.pair c.args.verdict.used c.claim.new.self.state c.count.new.self.state c.places-places.ensures.marks c.count.ensures.step.0.2 c.claim.ensures.below).1
