use Rattle.std.proofs.Common.{◌∙◌, ap, sym, subst, replicate, false}
use Rattle.class_partition.specs.Classes.{KeepsGreatest}
use Rattle.tried_classes.proofs.Trying.{phases_are, one_keeps}
use Rattle.tried_classes.proofs.plain.first_classes.Goals as goal

pub returns-clause-keeps : goal.returns-clause-keeps
returns-clause-keeps c =
    let inputs = c.in_ok-inputs.ensures ∙ ap (λ n. replicate n false) c.inputs.ensures in
    subst (KeepsGreatest c.args.product.now 1) (sym c.in_ok-classes.ensures.one) (one_keeps c.args.product.now c.eval.new.values (c.eval.ensures ∙ phases_are c.args.product.now c.write_first_state.new.state c.in_ok-inputs.inputs c.write_first_state.ensures inputs))
