use Rattle.std.proofs.Common.{◌∙◌, ap, replicate, false}
use Rattle.verdict_stamp.proofs.Beginning.{phases_are}
use Rattle.verdict_stamp.proofs.version.phases_of.Goals as goal

pub returns : goal.returns
returns c =
    let inputs = c.in_ok-inputs.ensures ∙ ap (λ n. replicate n false) c.inputs.ensures in
    c.eval.ensures ∙ phases_are c.args.product.now c.write_first_state.new.state c.in_ok-inputs.inputs c.write_first_state.ensures inputs
