use Rattle.std.proofs.Common.{◌∙◌, ℕ, ap, sym, arith}
use Rattle.circ_model.specs.Meaning.{signed}
use Rattle.and_graph.specs.Sums.{sum_of}
use Rattle.and_graph.proofs.Parity.{sum_added, sum_removed}
use Rattle.and_graph.proofs.sums.Sum.add_node.Goals as goal

pub returns-then-index-n-clause-sum : goal.returns-then-index-n-clause-sum
returns-then-index-n-clause-sum c = λ v.
    ap (sum_of v) c.remove.ensures.items
    ∙ sum_removed v c.args.self.now.terms.items c.place_of-at.result c.index.result.now (omega (arith, c.if-at-len.true, c.len.ensures))
    ∙ ap (λ (n : ℕ). signed (v n) (sum_of v c.args.self.now.terms.items)) (sym c.index.ensures ∙ c.if-index-n.true)

pub returns-in_ok-insert-clause-sum : goal.returns-in_ok-insert-clause-sum
returns-in_ok-insert-clause-sum c = λ v. ap (sum_of v) c.in_ok-insert.ensures.items ∙ sum_added v c.args.self.now.terms.items c.place_of-at.result c.args.n
