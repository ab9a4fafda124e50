use Rattle.class_text.proofs.Appending.{added_more}
use Rattle.class_text.specs.ClassLines.{class_line}
use Rattle.class_text.proofs.lines.push_class_lines.Goals as goal

pub loop-first-preserved : goal.loop-first-preserved
loop-first-preserved c =
    added_more (class_line c.args.product.now c.args.classes.now) c.args.text.now.items c.loop-first.text.items c.push_class_line.new.text.items c.loop-first.first c.loop-first.invariant c.in_ok-push_class_line.ensures
