use Rattle.std.proofs.Common.{ℕ, ◌+◌, List, sym, subst}
use Rattle.refine_board.proofs.Supported.{always_supported, opening_supported, done_is_greatest, lasting_stay}
use Rattle.refine_board.proofs.Splits.{no_later_split, splits_below, same_end, alike_end, split_apart}
use Rattle.refine_board.proofs.Offers.{offers_below}
use Rattle.refine_board.proofs.Orderly.{late_below, offers_in_order_below, opening_timely}
use Rattle.class_partition.proofs.SameClasses.{count_of_greatest}
use Rattle.circ_model.specs.Meaning.{Pair}
use Rattle.refine_board.specs.declared.journal.Entry.{Entry}
use Rattle.refine_board.specs.States.{State}
use Rattle.refine_board.specs.Schedules.{opened, IsSupported}
use Rattle.refine_board.specs.Laws.{IsSchedule}
use Rattle.refine_board.proofs.laws.any_schedule.Goals as goal

starts : (pair : Pair) (k : ℕ) (opening : State) (entries : List Entry) (board : State) → IsSchedule pair k opening entries board → IsSupported pair k opening
starts pair k opening entries board is = subst (IsSupported pair k) (sym is.opened_so) (opening_supported pair k is.workers is.number is.classes is.partition is.keeps)

stays : (pair : Pair) (k : ℕ) (opening : State) (entries : List Entry) (board : State) → IsSchedule pair k opening entries board → IsSupported pair k board
stays pair k opening entries board is = always_supported pair k entries opening board is.leads (starts pair k opening entries board is)

pub returns-clause-supported : goal.returns-clause-supported
returns-clause-supported c = stays

pub returns-clause-apart : goal.returns-clause-apart
returns-clause-apart c = λ pair k opening entries board after party n bits is does ok. split_apart pair k party bits n board after (stays pair k opening entries board is) ok does

pub returns-clause-lasting : goal.returns-clause-lasting
returns-clause-lasting c = λ pair k opening entries board after party n bits is does ok p. lasting_stay pair k party n bits board after (stays pair k opening entries board is) does ok p

pub returns-clause-done : goal.returns-clause-done
returns-clause-done c = λ pair k opening entries board is all. let s = stays pair k opening entries board is in let g = done_is_greatest pair k board s all in (g, count_of_greatest pair k board.classes s.partition g)

pub returns-clause-later : goal.returns-clause-later
returns-clause-later c = λ pair k opening entries more board after is all leads. let s = stays pair k opening entries board is in no_later_split pair k more board after s (done_is_greatest pair k board s all) leads

pub returns-clause-few : goal.returns-clause-few
returns-clause-few c = λ pair k opening entries board is. splits_below pair k entries opening board (starts pair k opening entries board is).partition is.leads

pub returns-clause-same : goal.returns-clause-same
returns-clause-same c = λ pair k a b xs ys a_end b_end is_a is_b all_a all_b. (
  alike_end pair k xs ys a a_end b b_end (starts pair k a xs a_end is_a) (starts pair k b ys b_end is_b) is_a.leads is_b.leads all_a all_b,
  λ phase. same_end pair k xs ys a a_end b b_end (starts pair k a xs a_end is_a) (starts pair k b ys b_end is_b) phase is_a.leads is_b.leads all_a all_b,
)

pub returns-clause-offers : goal.returns-clause-offers
returns-clause-offers c = λ pair k opening entries board is. offers_below pair k entries opening board (starts pair k opening entries board is) is.leads

pub returns-clause-orderly : goal.returns-clause-orderly
returns-clause-orderly c = λ pair k workers number classes entries board is keeps leads. (
  late_below pair k workers number classes entries board is leads,
  offers_in_order_below pair k (workers + 1) entries (opened pair workers classes number) board (opening_supported pair k workers number classes is keeps) (opening_timely pair workers number classes) leads,
)
