use Rattle.std.proofs.Common.{arith, ℕ, List, map, ◌∙◌, ap}
use Rattle.std.proofs.lemmas.Grind.{common_steps}
use Rattle.std.proofs.lemmas.List.{take_all}
use Rattle.sat_core.specs.Signed.{lit_of}
use Rattle.sat_core.proofs.edge.push_literals.Goals as goal

pub literal_of-requires : goal.literal_of-requires
literal_of-requires c = c.requires c.loop-code.code-index 0 c.loop-code-test.true

pub loop-code-preserved : goal.loop-code-preserved
loop-code-preserved c =
    record { is = grind (arith, common_steps); literals = grind (arith, common_steps, c.loop-code.invariant.literals) }

pub returns-clause-value : goal.returns-clause-value
returns-clause-value c = c.loop-code.invariant.is ∙ ap (λ (xs : List ℕ). map lit_of xs) (take_all c.loop-code.code-index c.args.codes.now (omega arith))

pub returns-clause-literals : goal.returns-clause-literals
returns-clause-literals c = c.loop-code.invariant.literals
