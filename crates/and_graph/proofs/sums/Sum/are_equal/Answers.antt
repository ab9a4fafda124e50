use Rattle.std.proofs.Common.{◌∙◌, ℕ, List, ap, arith}
use Rattle.circ_model.specs.Meaning.{literal_value, signed}
use Rattle.and_graph.specs.Sums.{sum_of}
use Rattle.and_graph.proofs.Parity.{alone, nothing_left}
use Rattle.and_graph.proofs.sums.Sum.are_equal.Goals as goal

pub loop-init : goal.loop-init
unfolding sum_of
loop-init c v obeys =
    c.in_ok-add-2.ensures v
    ∙ ap (signed (literal_value v c.args.y)) (c.in_ok-add.ensures v ∙ ap (λ (xs : List ℕ). signed (literal_value v c.args.x) (sum_of v xs)) c.clear.ensures.items ∙ alone (literal_value v c.args.x))

pub returns-then-len-eq0 : goal.returns-then-len-eq0
returns-then-len-eq0 c even v obeys =
    nothing_left c.loop.self.terms.items c.loop.self.is_odd (literal_value v c.args.x) (literal_value v c.args.y) v (omega (arith, c.len.ensures, c.if-len-eq0.true)) even (c.loop.invariant v obeys)

pub loop-preserved : goal.loop-preserved
loop-preserved c v obeys = c.in_ok-reduce.ensures c.if-not-branch.false v obeys ∙ c.loop.invariant v obeys
