use Rattle.std.proofs.Common.{◌∙◌, ℕ, List, Bool, ap, sym}
use Rattle.circ_model.specs.Meaning.{literal_value, signed}
use Rattle.and_graph.specs.Sums.{sum_of}
use Rattle.and_graph.proofs.Parity.{replaced, sum_last}
use Rattle.and_graph.proofs.sums.Sum.reduce.Goals as goal

pub returns : goal.returns
returns c goes v obeys =
    c.in_ok-add-2.ensures v ∙ ap (signed (literal_value v c.in-Some-summands.both.1)) (c.in_ok-add.ensures v)
    ∙ replaced c.args.self.now.is_odd (literal_value v c.in-Some-summands.both.0) (literal_value v c.in-Some-summands.both.1) (sum_of v c.pop.new.self.items)
    ∙ ap (λ (b : Bool). signed c.args.self.now.is_odd (signed b (sum_of v c.pop.new.self.items))) (sym (c.in-Some-summands.ensures.value v obeys))
    ∙ ap (signed c.args.self.now.is_odd) (sym (sum_last v c.pop.new.self.items c.in-Some.n))
    ∙ ap (λ (xs : List ℕ). signed c.args.self.now.is_odd (sum_of v xs)) (sym c.in-Some.ensures.items)
