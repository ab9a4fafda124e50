use Rattle.std.proofs.Common.{◌≡◌, ◌∙◌, ◌/◌, Bool, ap, ap₂, rules, FitsSigned, w32}
use Rattle.std.proofs.lemmas.Int.{to_z-of_z}
use Rattle.circ_model.specs.Meaning.{signed}
use Rattle.cnf_store.specs.Clauses.{literal_true}
use Rattle.and_graph.specs.Cones.{member_at}
use Rattle.and_graph.proofs.ConeMembers.{member_bit}
use Rattle.and_graph.proofs.cone.Cone.member_literal.Goals as goal

pub returns-in-Some-clause-value : goal.returns-in-Some-clause-value
returns-in-Some-clause-value c v a obeys shown =
    let members = c.args.self.now.members.items in
    let own = c.canonical_of-own.result in
    let f : FitsSigned w32 c.literal_of.result = search rules in
    let at : member_at members c.in-Some.j ≡ own / 2 = c.in-Some.ensures.at ∙ c.var-2.ensures in
    ap (literal_true a) (to_z-of_z w32 c.literal_of.result f) ∙ c.literal_of.ensures.value a
    ∙ ap₂ (λ (s b : Bool). signed s b) c.complement.ensures (member_bit members v a c.in-Some.j (own / 2) shown c.in-Some.ensures.within at)
    ∙ c.canonical_of-own.ensures.value v (c.requires.graph.agree v obeys)
