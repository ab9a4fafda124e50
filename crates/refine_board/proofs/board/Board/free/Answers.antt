use Rattle.std.proofs.Common.{◌≡◌, ◌∙◌, ◌<◌, ◌-◌, ℕ, length, arith, refl, sym, subst, ap}
use Rattle.circ_model.specs.Meaning.{places_of}
use Rattle.refine_board.specs.States.{State, called, released}
use Rattle.refine_board.specs.Running.{Running, IsRunning, Frees, state_of}
use Rattle.refine_board.proofs.Runs.{running_after, held_after, released_is, frees_does}
use Rattle.refine_board.proofs.board.Board.free.Goals as goal

pub invariant_of-self : goal.invariant_of-self
invariant_of-self g c =
    let i = c.self.inside in
    let before : State = state_of i.version i.marks i.calls.items i.offers.items in
    let was : IsRunning g.L.Run.pair g.L.Run.k g.L.Run.workers g.L.Run.opening before i.journal.entries = c.self.invariant.0 in
    let held = c.self.invariant.2 in
    let room : i.journal.room - i.owed.total ≡ c.args.self.now.room = ap (λ (r : Running). r.room) c.self.view_is in
    let q : ℕ = c.args.party in
    let inside : q < length before.calls = omega (arith, c.requires.party, was.calls) in
    let frees : Frees g.L.Run.pair g.L.Run.k before c.args.step = subst (λ (r : Running). Frees g.L.Run.pair g.L.Run.k r.state c.args.step) (sym c.self.view_is) c.requires.frees in
    let after : State = called q (record before { marks = c.release.new.marks; offers = c.release.new.offers.items }) in
    let is_after : after ≡ called q (released q before) = rw (c.release.ensures.marks, c.release.ensures.offers, c.number.ensures) (ap (called q) (sym (released_is q before))) in
    let does = frees_does g.L.Run.pair g.L.Run.k q c.args.step before after frees is_after in
    let is = running_after g.L.Run.pair g.L.Run.k g.L.Run.workers g.L.Run.opening before after i.journal.entries q c.args.step (inside, refl, does.0) does.1 was in (
      rw (c.note.ensures.calls, c.note.ensures.entries) is,
      c.self.invariant.1,
      rw c.note.ensures.calls (held_after (places_of g.L.Run.pair) i.cursor c.release.result i.waiting i.owed.total i.journal.room c.note.new.journal.room g.L.Ledger.parts i.rest.parts before after held c.note.ensures.room (omega (arith, room, c.requires.room))
          (λ m lt open_now. held.passed m (omega (arith, lt, c.release.ensures.cursor)) (open_now.0, c.release.ensures.passed m lt open_now.1)) (omega (arith, c.release.ensures.cursor, held.cursor_in))),
      c.note.ensures.cells ∙ c.self.invariant.3,
    )
