use Rattle.std.proofs.Common.{◌≡◌, ◌∙◌, ◌<◌, ◌-◌, ℕ, length, arith, refl, sym, subst, ap}
use Rattle.circ_model.specs.Meaning.{places_of}
use Rattle.class_partition.specs.declared.classes.Needed.{Needed}
use Rattle.refine_board.specs.declared.marks.Mark.TheVariants.{Open, Out}
use Rattle.refine_board.specs.declared.journal.Step.TheVariants.{Offered}
use Rattle.refine_board.specs.States.{State, IsOpenPair, called, offered}
use Rattle.refine_board.specs.Running.{Running, IsRunning, state_of}
use Rattle.refine_board.proofs.Runs.{running_after, was_there, held_after}
use Rattle.refine_board.proofs.board.Board.hand.Goals as goal

pub invariant_of-self : goal.invariant_of-self
invariant_of-self g c =
    let i = c.self.inside in
    let before : State = state_of i.version i.marks i.calls.items i.offers.items in
    let was : IsRunning g.L.Run.pair g.L.Run.k g.L.Run.workers g.L.Run.opening before i.journal.entries = c.self.invariant.0 in
    let held = c.self.invariant.2 in
    let room : i.journal.room - i.owed.total ≡ c.args.self.now.room = ap (λ (r : Running). r.room) c.self.view_is in
    let q : ℕ = c.args.party in
    let inside : q < length before.calls = omega (arith, c.requires.party, was.calls) in
    let p : Needed = c.args.pair in
    let is_open : IsOpenPair (places_of g.L.Run.pair) before p = subst (λ (r : Running). IsOpenPair (places_of g.L.Run.pair) r.state p) (sym c.self.view_is) c.requires.is_open in
    let after : State = called q (offered q p before) in
    let is = running_after g.L.Run.pair g.L.Run.k g.L.Run.workers g.L.Run.opening before after i.journal.entries q (Offered p) (inside, refl, (is_open, refl)) tt was in (
      rw (c.note.ensures.calls, c.note.ensures.entries, c.number-number.ensures, c.put.ensures) is,
      c.self.invariant.1,
      rw (c.note.ensures.calls, c.number-number.ensures, c.put.ensures) (held_after (places_of g.L.Run.pair) i.cursor i.cursor i.waiting i.owed.total i.journal.room c.note.new.journal.room g.L.Ledger.parts i.rest.parts before after held c.note.ensures.room (omega (arith, room, c.requires.room))
          (λ n lt open_now. held.passed n lt (open_now.0, was_there i.marks p.member n Out Open Open (λ (e : Out ≡ Open). cc) open_now.1)) held.cursor_in),
      c.note.ensures.cells ∙ c.self.invariant.3,
    )
