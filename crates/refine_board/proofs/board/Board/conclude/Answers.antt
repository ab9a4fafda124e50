use Rattle.std.proofs.Common.{◌≡◌, ◌∙◌, ◌<◌, ◌-◌, ℕ, length, arith, refl, sym, subst, ap}
use Rattle.circ_model.specs.Meaning.{places_of}
use Rattle.refine_board.specs.declared.journal.Step.TheVariants.{Done}
use Rattle.refine_board.specs.States.{State, AllCounted, called}
use Rattle.refine_board.specs.Running.{Running, IsRunning, state_of}
use Rattle.refine_board.proofs.Runs.{running_after, held_after}
use Rattle.refine_board.proofs.board.Board.conclude.Goals as goal

pub invariant_of-self : goal.invariant_of-self
invariant_of-self g c =
    let i = c.self.inside in
    let before : State = state_of i.version i.marks i.calls.items i.offers.items in
    let was : IsRunning g.L.Run.pair g.L.Run.k g.L.Run.workers g.L.Run.opening before i.journal.entries = c.self.invariant.0 in
    let held = c.self.invariant.2 in
    let room : i.journal.room - i.owed.total ≡ c.args.self.now.room = ap (λ (r : Running). r.room) c.self.view_is in
    let q : ℕ = c.args.party in
    let inside : q < length before.calls = omega (arith, c.requires.party, was.calls) in
    let all : AllCounted (places_of g.L.Run.pair) before = subst (λ (r : Running). AllCounted (places_of g.L.Run.pair) r.state) (sym c.self.view_is) c.requires.all in
    let is = running_after g.L.Run.pair g.L.Run.k g.L.Run.workers g.L.Run.opening before (called q before) i.journal.entries q Done (inside, refl, (all, refl)) tt was in
    (rw (c.note.ensures.calls, c.note.ensures.entries) is, c.self.invariant.1, rw c.note.ensures.calls (held_after (places_of g.L.Run.pair) i.cursor i.cursor i.waiting i.owed.total i.journal.room c.note.new.journal.room g.L.Ledger.parts i.rest.parts before (called q before) held c.note.ensures.room (omega (arith, room, c.requires.room)) held.passed held.cursor_in), c.note.ensures.cells ∙ c.self.invariant.3)
