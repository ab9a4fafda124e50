use Rattle.std.proofs.Common.{rules, ◌≡◌, ◌⊎◌, ◌≤◌, length, Option, Some, None, IfSome, subst, arith, inr}
use Rattle.refine_board.specs.States.{most_open}
use Rattle.refine_board.specs.Running.{IsIssueOf}
use Rattle.refine_board.specs.Answers.{IsFull, IsShown}
use Rattle.verdict_stamp.specs.Published.{Stamped}
use Rattle.refine_board.proofs.board.Board.look.Goals as goal

-- the stamp that there was, if any, is of a version that was published with as many pairs as the word counts
full_stamp : (before : Option Stamped) (s : Stamped) (after : Option Stamped) → IfSome before (λ (x : Stamped). s ≡ x) → most_open ≤ length s.value.pending → IfSome before (λ (x : Stamped). (after ≡ Some x) ⊎ (most_open ≤ length x.value.pending))
full_stamp None s after same many = same
full_stamp (Some x) s after same many = inr (subst (λ (y : Stamped). most_open ≤ length y.value.pending) same many)

pub returns-clause-look : goal.returns-clause-look
returns-clause-look g c =
    let issued : IsIssueOf g.L.Run.pair g.L.Run.k g.L.Run.list c.args.self.now.state c.in_ok-stamp.stamp = search rules in
    let many : most_open ≤ length c.in_ok-stamp.stamp.value.pending = omega (arith, c.if-pending_count-lt-MOST_OPEN.false, c.pending_count.ensures) in
    let full : IsFull g.L.Run.pair g.L.Run.k g.L.Run.list c.args.self.now = (c.in_ok-stamp.stamp, issued, many) in
    let shown : IsShown c.args.self.now c.pass-2.new.self c.read-word.result = search rules in
    (search rules, search rules, search rules, search rules, search rules, λ none. (c.read-word.result, shown, λ spent. full))

pub returns-clause-one_stamp : goal.returns-clause-one_stamp
returns-clause-one_stamp g c =
    let many : most_open ≤ length c.in_ok-stamp.stamp.value.pending = omega (arith, c.if-pending_count-lt-MOST_OPEN.false, c.pending_count.ensures) in
    let same : IfSome c.args.self.now.current (λ (s : Stamped). c.in_ok-stamp.stamp ≡ s) = search rules in
    full_stamp c.args.self.now.current c.in_ok-stamp.stamp c.pass-2.new.self.current same many
