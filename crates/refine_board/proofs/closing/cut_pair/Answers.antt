use Rattle.std.proofs.Common.{◌<◌, ℕ, sym, subst}
use Rattle.circ_model.specs.Meaning.{places_of}
use Rattle.class_partition.specs.Classes.{Classes, class_count, needed}
use Rattle.circ_model.specs.Correspondence.{Separates}
use Rattle.refine_board.specs.States.{IsNeededPair}
use Rattle.refine_board.specs.Answers.{cut_step}
use Rattle.refine_board.specs.Closings.{DecidesPair}
use Rattle.refine_board.proofs.Counting.{cut_grows}
use Rattle.refine_board.proofs.Alone.{closes_one, cut_decides}
use Rattle.refine_board.proofs.closing.cut_pair.Goals as goal

pub returns-clause-closes : goal.returns-clause-closes
returns-clause-closes g c =
    let places : ℕ = places_of g.L.Run.pair in
    let same = c.claim.ensures.claimed.1 in
    let need = subst (λ (x : Classes). IsNeededPair places x c.args.pair) (sym same) c.requires.pair in
    let apart = subst (λ (x : Classes). Separates c.args.vector.bits (needed x c.args.pair.member)) (sym same) c.requires.separates in
    let decides = cut_decides places c.args.party c.args.pair c.cut.result c.args.vector.bits c.claim.new.self c.cut.new.self c.cut.ensures.step c.cut.ensures.own need apart in
    closes_one places c.args.party c.args.pair (cut_step c.cut.result c.args.vector.bits) c.args.board.now c.claim.new.self c.cut.new.self c.requires.pair c.claim.ensures.claimed c.cut.ensures.step
    (subst (λ (x : Classes). DecidesPair x c.args.pair (cut_step c.cut.result c.args.vector.bits)) same decides)

pub returns-clause-split : goal.returns-clause-split
returns-clause-split g c =
    let places : ℕ = places_of g.L.Run.pair in
    let same = c.claim.ensures.claimed.1 in
    let apart = subst (λ (x : Classes). Separates c.args.vector.bits (needed x c.args.pair.member)) (sym same) c.requires.separates in
    subst (λ (x : Classes). class_count places x < class_count places c.cut.new.self.state.classes) same
    (cut_grows places c.args.party c.args.pair.member c.cut.result c.args.vector.bits c.claim.new.self c.cut.new.self c.cut.ensures.step c.cut.ensures.own c.requires.pair.0.0 apart)
