use Rattle.std.proofs.Common.{◌≡◌, ℕ, ℤ, pos, Bool, List, length, get_or, arith}
use Rattle.circ_model.specs.Meaning.{literal_value}
use Rattle.cnf_store.specs.Clauses.{literal_true}
use Rattle.and_graph.specs.Graphs.{Obeys}
use Rattle.and_graph.specs.Cones.{Shows}
use Rattle.and_graph.proofs.Questions.{lemma_holds}
use borrow.Author.Count.{below_more}
use Rattle.and_graph.proofs.looking.says_lemma.Goals as goal

pub returns : goal.returns
returns c all v a obeys shown =
    let size : length c.args.clause.now ≡ length c.args.lemma.now = omega arith in
    lemma_holds v a c.args.clause.now c.args.lemma.now size (λ k lt. c.loop-k.invariant k (omega arith) v a (pos 0) obeys shown) (c.requires.holds v obeys)

pub loop-k-preserved : goal.loop-k-preserved
loop-k-preserved c =
    below_more (λ j. (v : ℕ → Bool) (a : List Bool) (d : ℤ) → Obeys c.args.nodes.now v → Shows c.args.members.now v a → literal_true a (get_or c.args.clause.now j d) ≡ literal_value v (get_or c.args.lemma.now j 0)) c.loop-k.k c.loop-k.invariant (c.same_at.ensures c.if-not-same_at.false)
