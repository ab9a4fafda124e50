use Rattle.std.proofs.Common.{◌∙◌, List, ap, sym, subst}
use Rattle.circ_model.specs.Meaning.{Pair, places_of}
use Rattle.class_partition.specs.declared.classes.Needed.{Needed}
use Rattle.class_partition.specs.Classes.{Classes, IsNeeded}
use Rattle.used_pairs.specs.Latches.{AreByNext}
use Rattle.frame_graph.specs.Inductions.{BasePasses, Induction, StepPasses}
use Rattle.verdict_stamp.specs.Versions.{Standing, induction_of}
use Rattle.verdict_stamp.proofs.Listed.{by_latches_is, listed_is, steps_pass}
use Rattle.verdict_stamp.proofs.Proving.{none_by}
use Rattle.verdict_stamp.proofs.prover.Prover.by_latches.Goals as goal

pub returns-in_default-clause-none : goal.returns-in_default-clause-none
returns-in_default-clause-none c by =
    let u = c.args.pair in
    let ep = c.product-2.ensures.pair ∙ ap (λ (v : Standing). v.pair) c.self.view_is in
    let ec = c.classes.ensures.classes ∙ ap (λ (v : Standing). v.classes) c.self.view_is in
    let here = subst (λ (p : Pair). AreByNext p c.classes.result.now u) (sym ep) (subst (λ (cs : Classes). AreByNext c.args.self.now.pair cs u) (sym ec) by) in
    none_by (List Needed) (AreByNext c.product-2.result.now c.classes.result.now u → ⊥) c.in_ok-pairs.field-0 c.in_default.is c.in_ok-pairs.ensures.none here

pub take_passed-requires-clause-passes : goal.take_passed-requires-clause-passes
take_passed-requires-clause-passes c =
    let v = c.self.inside.current.now in
    let m = c.args.pair.member in
    let is = c.self.invariant.0 in
    let by = by_latches_is v c.product-2.result.now c.classes.result.now c.args.pair c.in_ok-pairs.field-0 c.in-Some.pairs is c.product-2.ensures.pair c.classes.ensures.classes c.in-Some.is c.in_ok-pairs.ensures.steps c.in_ok-pairs.ensures.together in
    subst (λ (i : Induction). StepPasses i m) (sym c.self.invariant.1) (steps_pass v m c.in-Some.pairs is by.1 by.0)

pub by_pairs-requires : goal.by_pairs-requires
by_pairs-requires c =
    let v = c.self.inside.current.now in
    let m = c.args.pair.member in
    let is = c.self.invariant.0 in
    let by = by_latches_is v c.product-2.result.now c.classes.result.now c.args.pair c.in_ok-pairs.field-0 c.in-Some.pairs is c.product-2.ensures.pair c.classes.ensures.classes c.in-Some.is c.in_ok-pairs.ensures.steps c.in_ok-pairs.ensures.together in
    let need = subst (λ (w : Standing). IsNeeded (places_of w.pair) w.classes m) (sym c.self.view_is) c.requires.needed in
    let base = subst (λ (w : Standing). BasePasses (induction_of w) m) (sym c.self.view_is) c.requires.base in
    record { passed = listed_is v m c.in-Some.pairs is need by.1 base by.0 }
