use Rattle.std.proofs.Common.{◌≡◌, ◌∙◌, ◌+◌, ℕ, false, sym, subst, ap}
use Rattle.circ_model.specs.Meaning.{places_of}
use Rattle.refine_board.specs.States.{State}
use Rattle.refine_board.specs.Running.{AreCountedBelow}
use Rattle.refine_board.proofs.Alone.{closes_none, closes_more}
use Rattle.refine_board.proofs.closing.decide.Goals as goal

pub count_pair-requires-clause-below : goal.count_pair-requires-clause-below
count_pair-requires-clause-below g c =
    let places : ℕ = places_of g.L.Run.pair in
    let below : AreCountedBelow places c.spare.new.self.state c.args.member = subst (λ (b : State). AreCountedBelow places b c.args.member) (sym c.spare.ensures.state) c.requires.below in
    subst (AreCountedBelow places c.spare.new.self.state) (sym c.pair_at-pair.ensures.member) below

pub cut_pair-requires-clause-below : goal.cut_pair-requires-clause-below
cut_pair-requires-clause-below g c =
    let places : ℕ = places_of g.L.Run.pair in
    let below : AreCountedBelow places c.spare.new.self.state c.args.member = subst (λ (b : State). AreCountedBelow places b c.args.member) (sym c.spare.ensures.state) c.requires.below in
    subst (AreCountedBelow places c.spare.new.self.state) (sym c.pair_at-pair.ensures.member) below

pub returns-in-Holds-clause-closes : goal.returns-in-Holds-clause-closes
returns-in-Holds-clause-closes g c =
    let places : ℕ = places_of g.L.Run.pair in
    closes_more places c.args.party c.args.board.now c.spare.new.self c.count_pair.new.board (closes_none places c.args.party c.args.board.now c.spare.new.self c.spare.ensures.state c.spare.ensures.entries) c.count_pair.ensures.closes

pub returns-in-Holds-clause-counted : goal.returns-in-Holds-clause-counted
returns-in-Holds-clause-counted g c = λ (e : false ≡ false). (
  c.count_pair.ensures.classes ∙ ap (λ (b : State). b.classes) c.spare.ensures.state,
  subst (λ (n : ℕ). AreCountedBelow (places_of g.L.Run.pair) c.count_pair.new.board.state (n + 1)) c.pair_at-pair.ensures.member c.count_pair.ensures.below,
)

pub returns-in-Splits-clause-closes : goal.returns-in-Splits-clause-closes
returns-in-Splits-clause-closes g c =
    let places : ℕ = places_of g.L.Run.pair in
    closes_more places c.args.party c.args.board.now c.spare.new.self c.cut_pair.new.board (closes_none places c.args.party c.args.board.now c.spare.new.self c.spare.ensures.state c.spare.ensures.entries) c.cut_pair.ensures.closes
