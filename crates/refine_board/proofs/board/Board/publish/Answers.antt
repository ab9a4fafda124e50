use Rattle.std.proofs.Common.{◌≡◌, ◌∙◌, ◌≤◌, ◌+◌, ℕ, length, ap, sym, subst, arith}
use Rattle.std.specs.List.{All}
use Rattle.boxcar.specs.Table.{Shelves, Shows}
use Rattle.circ_model.specs.Meaning.{places_of}
use Rattle.class_partition.specs.Classes.{Classes, IsNeeded}
use Rattle.claim_word.specs.Seats.{SeatState}
use Rattle.claim_word.specs.Words.{version_of, word_of}
use Rattle.verdict_stamp.specs.Versions.{Standing}
use Rattle.verdict_stamp.specs.Published.{AreMembers, Issued, IsStampOf, Stamped}
use Rattle.refine_board.proofs.board.Board.publish.Goals as goal

pub push-requires : goal.push-requires
push-requires g c = record {
  pending =
      let v : Standing = c.self.inside.version in
      let classes_is : c.classes.result.now ≡ v.classes = c.classes.ensures.classes in
      let places_is : length v.classes.least ≡ places_of v.pair = c.classes.ensures.kept.partition.least_len in
      let all : All (IsNeeded (length v.classes.least) v.classes) c.in_ok-pending.pending.items = subst (λ (x : Classes). All (IsNeeded (length x.least) x) c.in_ok-pending.pending.items) classes_is c.in_ok-pending.ensures.members in
      let mine : AreMembers v c.in_ok-pending.pending.items = subst (λ (n : ℕ). All (IsNeeded n v.classes) c.in_ok-pending.pending.items) places_is all in
      subst (λ (x : Standing). AreMembers x c.in_ok-pending.pending.items) (sym c.in-Ok.ensures) mine;
}

pub invariant_of-self : goal.invariant_of-self
invariant_of-self g c =
    let i = c.self.inside in
    let of = c.self.invariant.1 in
    let s : Stamped = c.in_ok-stamp.stamp in
    let shows : Shows g.L.Run.list s = subst (λ (l : Shelves). Shows l s) of.list_is c.in_ok-stamp.ensures.0 in
    let version : s.value.version ≡ i.version = ap (λ (x : Issued). x.version) c.in_ok-stamp.ensures.1 ∙ c.in-Ok.ensures in
    let written : c.advance.new.seat.written ≡ word_of (i.turn + 1) c.len-pairs.result 0 = ap (λ (x : SeatState). x.written) c.advance.ensures in (
      c.self.invariant.0,
      record {
        pair_is = of.pair_is;
        k_is = of.k_is;
        first_pair = of.first_pair;
        first_k = of.first_k;
        opening_is = of.opening_is;
        list_is = of.list_is;
        current_is = subst (λ (x : Stamped). IsStampOf g.L.Run.list x i.version) (sym c.copy-2.ensures) (shows, version);
        word_is = of.word_is;
        seat_is = ap (λ (x : SeatState). x.word) c.advance.ensures ∙ of.seat_is;
        board_is = ap (λ (x : SeatState). x.board) c.advance.ensures ∙ of.board_is;
        turn_is = subst (λ (n : ℕ). version_of n ≤ i.turn + 1) (sym written) (omega (arith, c.in_ok-pending.ensures.few, c.len-pairs.ensures));
      },
      c.self.invariant.2,
      c.self.invariant.3,
    )
