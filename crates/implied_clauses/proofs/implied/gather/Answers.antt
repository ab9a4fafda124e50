use Rattle.std.proofs.Common.{◌≡◌, ℕ, List, get_or, subst, sym, arith, Bool, true, false}
use Rattle.std.specs.List.{Contains}
use Rattle.std.proofs.lemmas.List.{take_all}
use Rattle.std.proofs.lemmas.List.Elements.{All-push}
use Rattle.implied_clauses.proofs.Marks.{gather_more, gather_skip}
use Rattle.implied_clauses.proofs.implied.gather.Goals.{then-is_marked+in_ok-push, else-is_marked}
use Rattle.implied_clauses.proofs.implied.gather.Goals as goal

pub loop-l-preserved : goal.loop-l-preserved
loop-l-preserved c =
    let marks : List Bool = c.args.marks.now in
    let listed : List ℕ = c.args.listed.now in
    let i : ℕ = c.loop-l.l-index in
    let lt = c.loop-l-test.true in
    elim c.if-is_marked.branch [
      | then-is_marked+in_ok-push w ↦ rw (w.clause-is, w.in_ok-push.ensures.items) (record {
        all = gather_more marks listed c.loop-l.clause.items i lt c.loop-l.invariant.all;
        only = All-push (λ (x : ℕ). get_or marks x false ≡ true) c.loop-l.clause.items (get_or listed i 0) c.loop-l.invariant.only (sym w.if-is_marked.ensures);
      })
      | else-is_marked w ↦ rw w.clause-is (record {
        all = gather_skip marks listed c.loop-l.clause.items i lt (sym w.if-is_marked.ensures) c.loop-l.invariant.all;
        only = c.loop-l.invariant.only;
      })
    ]

pub returns : goal.returns
returns c =
    let test = c.loop-l-test.false in
    record {
      all = λ l t. c.loop-l.invariant.all l t (subst (λ (xs : List ℕ). Contains xs l) (sym (take_all c.loop-l.l-index c.args.listed.now (omega arith))) (c.requires l t));
      only = c.loop-l.invariant.only;
    }
