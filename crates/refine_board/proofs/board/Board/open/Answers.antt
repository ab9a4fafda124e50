use Rattle.std.proofs.Common.{◌≡◌, ◌∙◌, ◌+◌, ℕ, [], ap, sym, subst, arith, length, replicate, Option, None}
use Rattle.circ_model.specs.Meaning.{Pair, places_of}
use Rattle.class_partition.specs.Classes.{Classes, ArePartition, KeepsGreatest}
use Rattle.verdict_stamp.specs.Versions.{Standing, IsVersion}
use Rattle.product_machine.specs.Cells.{cells}
use Rattle.refine_board.specs.declared.marks.LastOffer.{LastOffer}
use Rattle.refine_board.specs.declared.marks.Mark.TheVariants.{Open}
use Rattle.refine_board.specs.Schedules.{opened}
use Rattle.refine_board.specs.Running.{IsRunning}
use Rattle.refine_board.proofs.Runs.{running_opened}
use Rattle.refine_board.proofs.board.Board.open.Goals as goal

pub invariant_of-result : goal.invariant_of-result
invariant_of-result g c =
    let v : Standing = c.args.first in
    let kept : IsVersion v = c.classes.ensures.kept in
    let places : ℕ = places_of g.L.Run.pair in
    let partition : ArePartition places v.classes = subst (λ (p : Pair). ArePartition (places_of p) v.classes) c.requires.product kept.partition in
    let keeps : KeepsGreatest g.L.Run.pair g.L.Run.k v.classes = subst (λ (n : ℕ). KeepsGreatest g.L.Run.pair n v.classes) c.requires.k (subst (λ (p : Pair). KeepsGreatest p v.k v.classes) c.requires.product kept.keeps) in
    let len_is : c.len-places.result ≡ places = c.len-places.ensures.places ∙ ap (λ (x : Classes). length x.least) c.classes.ensures.classes ∙ partition.least_len in
    let parties_is : c.args.workers + 1 ≡ g.L.Run.workers + 1 = omega (arith, c.requires.workers) in
    let version_is : c.in_ok-version.version ≡ v = c.in_ok-version.ensures in
    let marks_is : c.in_ok-marks.marks ≡ replicate places Open = c.in_ok-marks.ensures ∙ ap (λ (n : ℕ). replicate n Open) len_is in
    let calls_is : c.in_ok-calls.calls.items ≡ replicate (g.L.Run.workers + 1) 0 = c.in_ok-calls.ensures ∙ ap (λ (n : ℕ). replicate n 0) parties_is in
    let offers_is : c.in_ok-offers.offers.items ≡ replicate (g.L.Run.workers + 1) None = c.in_ok-offers.ensures ∙ ap (λ (n : ℕ). replicate {A = Option LastOffer} n None) parties_is in
    let is : IsRunning g.L.Run.pair g.L.Run.k g.L.Run.workers g.L.Run.opening (opened g.L.Run.pair g.L.Run.workers v.classes v.number) [] = running_opened g.L.Run.pair g.L.Run.k g.L.Run.workers v.number v.classes g.L.Run.opening c.requires.opening partition keeps in (
      rw (marks_is, calls_is, offers_is, version_is, c.in_ok-journal.ensures.entries) is,
      record { pair_is = ap (λ (s : Standing). s.pair) version_is ∙ c.requires.product; k_is = ap (λ (s : Standing). s.k) version_is ∙ c.requires.k; first_pair = c.requires.product; first_k = c.requires.k; opening_is = c.requires.opening; list_is = sym c.requires.list; current_is = tt; word_is = sym c.requires.word; seat_is = c.requires.seat.0 ∙ sym c.requires.word; board_is = c.requires.seat.1; turn_is = omega (arith, c.requires.seat.2) },
      record { passed = λ m lt is_open. absurd (omega arith); cursor_in = omega arith; waiting_is = sym c.open-owed.ensures.total; has_room = omega (arith, c.open-owed.ensures.total); parts_left = omega (arith, c.open-owed.ensures.parts); many = c.requires.parts },
      c.in_ok-journal.ensures.cells ∙ ap cells (c.product.ensures.pair ∙ c.requires.product),
    )
