use Rattle.std.proofs.Common.{◌≡◌, ◌∙◌, ◌<◌, ◌-◌, ℕ, length, arith, refl, sym, subst, ap}
use Rattle.circ_model.specs.Meaning.{places_of}
use Rattle.class_partition.specs.declared.classes.Needed.{Needed}
use Rattle.circ_model.specs.Runs.{phases}
use Rattle.verdict_stamp.specs.Versions.{Passed, IsVersion}
use Rattle.refine_board.specs.declared.marks.Mark.TheVariants.{Open, Proved}
use Rattle.refine_board.specs.declared.journal.Step.TheVariants.{Counted}
use Rattle.refine_board.specs.States.{State, called, cleared, marked}
use Rattle.refine_board.specs.Running.{Running, IsRunning, Counts, state_of}
use Rattle.refine_board.proofs.Runs.{running_after, held_after, was_there}
use Rattle.refine_board.proofs.Judged.{judged}
use Rattle.refine_board.proofs.board.Board.count.Goals as goal

pub invariant_of-self : goal.invariant_of-self
invariant_of-self g c =
    let i = c.self.inside in
    let before : State = state_of i.version i.marks i.calls.items i.offers.items in
    let was : IsRunning g.L.Run.pair g.L.Run.k g.L.Run.workers g.L.Run.opening before i.journal.entries = c.self.invariant.0 in
    let held = c.self.invariant.2 in
    let room : i.journal.room - i.owed.total ≡ c.args.self.now.room = ap (λ (r : Running). r.room) c.self.view_is in
    let q : ℕ = c.args.party in
    let inside : q < length before.calls = omega (arith, c.requires.party, was.calls) in
    let p : Needed = c.args.pair in
    let w : Passed = c.args.verdict in
    let counts : Counts g.L.Run.pair g.L.Run.k before.classes w = subst (λ (r : Running). Counts g.L.Run.pair g.L.Run.k r.state.classes w) (sym c.self.view_is) c.requires.counts in
    let own_is : IsVersion i.version = c.product-own.ensures.kept in
    let found_is : IsVersion w.version = subst IsVersion c.version.ensures c.product-found.ensures.kept in
    let is_judged = judged g.L.Run.pair g.L.Run.k before.classes w p c.into_used-used.ensures.passed c.requires.about found_is.phased (own_is.phased ∙ ap phases c.self.invariant.1.pair_is) counts in
    let after : State = called q (cleared q (marked p.member (Proved p.rep w.used) before)) in
    let is = running_after g.L.Run.pair g.L.Run.k g.L.Run.workers g.L.Run.opening before after i.journal.entries q (Counted p w.used) (inside, refl, (is_judged.0, refl)) is_judged.1 was in (
      rw (c.note.ensures.calls, c.note.ensures.entries, c.put.ensures, c.into_used-used.ensures.one, c.into_used-used.ensures.other) is,
      c.self.invariant.1,
      rw (c.note.ensures.calls, c.put.ensures, c.into_used-used.ensures.one) (held_after (places_of g.L.Run.pair) i.cursor i.cursor i.waiting i.owed.total i.journal.room c.note.new.journal.room g.L.Ledger.parts i.rest.parts before after held c.note.ensures.room (omega (arith, room, c.requires.room))
          (λ m lt open_now. held.passed m lt (open_now.0, was_there i.marks p.member m (Proved p.rep w.used) Open Open (λ (e : Proved p.rep w.used ≡ Open). cc) open_now.1)) held.cursor_in),
      c.note.ensures.cells ∙ c.self.invariant.3,
    )
