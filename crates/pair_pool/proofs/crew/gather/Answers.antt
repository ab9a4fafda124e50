use Rattle.std.proofs.Common.{◌≡◌, ◌∙◌, ◌++◌, sym, ap, subst}
use Rattle.claim_word.specs.Seats.{SeatState, both}
use Rattle.claim_word.specs.Words.{version_of}
use Rattle.pair_pool.specs.Claims.{AreFound, claimed_at, places}
use Rattle.pair_pool.proofs.Gathered.{are_once, found_by_last, found_more, listed_more, seated_last}
use Rattle.pair_pool.proofs.crew.gather.Goals as goal

pub loop-done-preserved : goal.loop-done-preserved
loop-done-preserved c =
    let was = c.loop-done.invariant in
    let popped = c.in-Some.ensures.items in
    let last = seated_last c.args.word.now c.loop-done.told.items c.pop.new.self.items c.in-Some.done popped was.seated in
    let joined : c.join_seat.new.seat ≡ both c.loop-done.board c.in-Some.done.seat = c.join_seat.ensures.both in
    let more : c.append.new.self.items ≡ c.loop-done.all.items ++ c.in-Some.done.claimed.items = c.in_ok-append.ensures.items in
    record {
      own = ap (λ (s : SeatState). s.word) joined ∙ was.own;
      first = ap (λ (s : SeatState). s.board) joined ∙ was.first;
      written = ap (λ (s : SeatState). version_of s.written) joined ∙ was.written;
      listed = ap claimed_at joined ∙ listed_more c.loop-done.board c.in-Some.done.seat c.loop-done.all.items c.in-Some.done.claimed.items was.listed last.1.listed ∙ sym (ap places more);
      seated = last.0;
      found = λ pairs k all.
          let had = was.found pairs k all in
          let parts = found_by_last pairs k c.loop-done.told.items c.pop.new.self.items c.in-Some.done popped had.1 in
          (subst (AreFound pairs k) (sym more) (found_more pairs k c.loop-done.all.items c.in-Some.done.claimed.items had.0 parts.1), parts.0);
    }

pub returns-clause-once : goal.returns-clause-once
returns-clause-once c =
    let is = c.loop-done.invariant in
    are_once c.loop-done.board c.seen.result c.loop-done.all.items c.seen.ensures.sound is.first is.written is.listed
