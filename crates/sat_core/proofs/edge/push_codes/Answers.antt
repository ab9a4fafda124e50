use Rattle.std.proofs.Common.{rules, arith, ◌*◌, ◌∙◌}
use Rattle.std.proofs.lemmas.Grind.{common_steps}
use Rattle.std.proofs.lemmas.List.{take_all}
use Rattle.sat_core.proofs.Signing.{codes_push}
use Rattle.sat_core.proofs.edge.push_codes.Goals as goal

pub code_of-requires : goal.code_of-requires
code_of-requires c = search rules

pub loop-lit-preserved : goal.loop-lit-preserved
loop-lit-preserved c =
    let v = c.loop-lit.invariant in record {
      is = grind (arith, common_steps);
      within = codes_push (2 * c.args.vars) c.loop-lit.codes.items c.push.new.self.items c.code_of.result c.in_ok-push.ensures.items v.within (search rules);
    }

pub returns-clause-value : goal.returns-clause-value
returns-clause-value c = c.loop-lit.invariant.is ∙ take_all c.loop-lit.lit-index c.args.clause.now (omega arith)

pub returns-clause-within : goal.returns-clause-within
returns-clause-within c = c.loop-lit.invariant.within
