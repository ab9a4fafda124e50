use Rattle.std.proofs.Common.{sym, subst}
use Rattle.pair_files.specs.declared.fault.Unpaired.{Unpaired}
use Rattle.run_texts.specs.Told.{IsTold, unpaired_text}
use Rattle.run_texts.proofs.telling.tell_unpaired.Goals as goal

pub returns-in-InputsDiffer-clause-told : goal.returns-in-InputsDiffer-clause-told
returns-in-InputsDiffer-clause-told g c =
    let t = c.tell_differ in
    subst (λ (u : Unpaired). IsTold (g.E.Sink.taken c.args.err.now) (g.E.Sink.faults c.args.err.now) (unpaired_text c.args.left.now c.args.right.now u) (g.E.Sink.taken t.new.err) (g.E.Sink.faults t.new.err)) (sym c.in-InputsDiffer.is) t.ensures.told

pub returns-in-OutputsDiffer-clause-told : goal.returns-in-OutputsDiffer-clause-told
returns-in-OutputsDiffer-clause-told g c =
    let t = c.tell_differ-in-OutputsDiffer in
    subst (λ (u : Unpaired). IsTold (g.E.Sink.taken c.args.err.now) (g.E.Sink.faults c.args.err.now) (unpaired_text c.args.left.now c.args.right.now u) (g.E.Sink.taken t.new.err) (g.E.Sink.faults t.new.err)) (sym c.in-OutputsDiffer.is) t.ensures.told

pub returns-in-FreeDiffer-clause-told : goal.returns-in-FreeDiffer-clause-told
returns-in-FreeDiffer-clause-told g c =
    let t = c.tell_differ-in-FreeDiffer in
    subst (λ (u : Unpaired). IsTold (g.E.Sink.taken c.args.err.now) (g.E.Sink.faults c.args.err.now) (unpaired_text c.args.left.now c.args.right.now u) (g.E.Sink.taken t.new.err) (g.E.Sink.faults t.new.err)) (sym c.in-FreeDiffer.is) t.ensures.told
