use Rattle.std.proofs.Common.{◌≡◌, ◌<◌, List, length, set, false, refl, ap, sym, subst}
use Rattle.circ_model.specs.Meaning.{literal}
use Rattle.and_graph.specs.declared.node.Node.{Node}
use Rattle.and_graph.specs.Graphs.{Agrees, AreEqual, Obeys, node_at}
use Rattle.and_graph.specs.Lemmas.{AreLemmas}
use Rattle.and_graph.proofs.Learning.{lemmas_later}
use Rattle.and_graph.proofs.Nodes.{merged, merged_obeys, obeys_merged, read_is}
use Rattle.and_graph.proofs.graph.Graph.merge.Goals as goal

pub invariant_of-self : goal.invariant_of-self
invariant_of-self c =
    let nodes : List Node = c.self.inside.nodes.items in
    let within : c.args.n < length nodes = subst (λ (xs : List Node). c.args.n < length xs) (sym c.self.view_is) c.requires.within in
    let at : c.index_mut.result.now ≡ node_at nodes c.args.n = read_is nodes c.args.n c.index_mut.result.now within c.index_mut.ensures.value in
    let node : Node = record { left = c.index_mut.result.now.left; right = c.index_mut.result.now.right; canonical = c.canonical_of-lit.result } in (
      merged nodes c.args.n c.args.to c.canonical_of-lit.result node
          c.self.invariant.0 within c.requires.lower c.canonical_of-lit.ensures.lower (subst (λ (xs : List Node). AreEqual xs (literal c.args.n false) c.args.to) (sym c.self.view_is) c.requires.equal)
          (λ v agrees. c.canonical_of-lit.ensures.value v (subst (λ (xs : List Node). Agrees xs v) (sym c.as_slice.ensures.value) agrees))
          (ap (λ (x : Node). x.left) at) (ap (λ (x : Node). x.right) at) refl,
      subst (AreLemmas (set nodes c.args.n node)) (sym c.note_merged.ensures) (lemmas_later nodes (set nodes c.args.n node) c.self.inside.lemmas.clauses (λ v after. obeys_merged nodes c.args.n node v within (ap (λ (x : Node). x.left) at) (ap (λ (x : Node). x.right) at) after) c.self.invariant.1),
    )

pub returns-clause-valuations : goal.returns-clause-valuations
returns-clause-valuations c v =
    let nodes : List Node = c.self.inside.nodes.items in
    let node : Node = record { left = c.index_mut.result.now.left; right = c.index_mut.result.now.right; canonical = c.canonical_of-lit.result } in
    let within : c.args.n < length nodes = subst (λ (xs : List Node). c.args.n < length xs) (sym c.self.view_is) c.requires.within in
    let at : c.index_mut.result.now ≡ node_at nodes c.args.n = read_is nodes c.args.n c.index_mut.result.now within c.index_mut.ensures.value in (
      λ before. merged_obeys nodes c.args.n node v within (ap (λ (x : Node). x.left) at) (ap (λ (x : Node). x.right) at) (subst (λ (xs : List Node). Obeys xs v) (sym c.self.view_is) before),
      λ after. subst (λ (xs : List Node). Obeys xs v) c.self.view_is (obeys_merged nodes c.args.n node v within (ap (λ (x : Node). x.left) at) (ap (λ (x : Node). x.right) at) after),
    )
