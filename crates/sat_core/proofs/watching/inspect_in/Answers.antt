use Rattle.std.proofs.Common.{ℕ, List, ◌∙◌, subst}
use Rattle.sat_trail.specs.Looking.{IsStatus}
use Rattle.sat_trail.proofs.Seeing.{at_next}
use Rattle.sat_core.proofs.watching.inspect_in.Goals as goal

pub returns : goal.returns
returns c =
    let t = c.args.s.now.trail in
    subst (λ (cl : List ℕ). IsStatus t.lits.items t.at.items cl c.inspect.result) (c.get.ensures ∙ at_next c.args.s.now.db c.args.number) c.inspect.ensures
