use Rattle.std.proofs.Common.{rules, sym, subst, arith, ◌∙◌, ◌≡◌, ◌++◌, ◌∷◌, [], ℤ, ◌<◌, length, w32}
use mir.Val.{SFits}
use Rattle.std.proofs.lemmas.Int.{to_z-of_z}
use Rattle.log_check.specs.Marks.{code}
use Rattle.log_check.specs.declared.scan.Scan.TheVariants.{Conflict, Unit, Neither}
use Rattle.log_check.proofs.Following.{unit_within}
use Rattle.log_check.proofs.Hints.{scanned, at_conflict, at_neither, at_last_unit, at_unit}
use Rattle.log_check.specs.FirstBad.{clauses_before}
use Rattle.log_check.proofs.refute.refutes.Goals as goal

pub returns-in-Conflict-clause-ok : goal.returns-in-Conflict-clause-ok
returns-in-Conflict-clause-ok c = (
  at_conflict (clauses_before c.args.formula.now c.args.log.now c.args.i) c.args.assumed.now.items c.loop-j.assumed.items c.args.hints.now c.loop-j.j (omega arith) c.loop-j.invariant.ways
      (scanned _ _ _ _ Conflict c.deref.ensures.value c.clause_of.ensures.value c.in-Conflict.ensures),
  c.loop-j.invariant.marks,
)

pub returns-in-Neither-clause-ok : goal.returns-in-Neither-clause-ok
returns-in-Neither-clause-ok c = (
  at_neither (clauses_before c.args.formula.now c.args.log.now c.args.i) c.args.assumed.now.items c.loop-j.assumed.items c.args.hints.now c.loop-j.j (omega arith) c.loop-j.invariant.ways
      (scanned _ _ _ _ Neither c.deref.ensures.value c.clause_of.ensures.value c.in-Neither.ensures),
  c.loop-j.invariant.marks,
)

pub returns-then-last-clause-ok : goal.returns-then-last-clause-ok
returns-then-last-clause-ok c = (
  at_last_unit (clauses_before c.args.formula.now c.args.log.now c.args.i) c.args.assumed.now.items c.loop-j.assumed.items c.args.hints.now c.loop-j.j c.in-Unit.lit (omega arith) c.loop-j.invariant.ways
      (scanned _ _ _ _ (Unit c.in-Unit.lit) c.deref.ensures.value c.clause_of.ensures.value c.in-Unit.ensures),
  c.loop-j.invariant.marks,
)

pub loop-j-preserved : goal.loop-j-preserved
loop-j-preserved c =
    let f : SFits w32 c.in-Unit.lit = search rules in
    let e : c.assume.new.assumed.items ≡ c.loop-j.assumed.items ++ c.in-Unit.lit ∷ [] = simp to_z-of_z at c.in_ok-assume-in-Unit.ensures.ok.0 in
    record {
      marks = c.in_ok-assume-in-Unit.ensures.ok.1;
      size = c.assume.ensures.size ∙ c.loop-j.invariant.size;
      ways = at_unit (clauses_before c.args.formula.now c.args.log.now c.args.i) c.args.assumed.now.items c.loop-j.assumed.items c.assume.new.assumed.items c.args.hints.now c.loop-j.j c.in-Unit.lit (omega arith) c.loop-j.invariant.ways
          (scanned _ _ _ _ (Unit c.in-Unit.lit) c.deref.ensures.value c.clause_of.ensures.value c.in-Unit.ensures) e;
    }

pub scan_clause-requires-clause-within : goal.scan_clause-requires-clause-within
scan_clause-requires-clause-within c = c.clause_of.ensures.small

pub assume-requires-clause-within : goal.assume-requires-clause-within
assume-requires-clause-within c =
    let f : SFits w32 c.in-Unit.lit = search rules in
    subst (λ (l : ℤ). code l < length c.loop-j.marks) (sym (to_z-of_z w32 c.in-Unit.lit f))
    (unit_within c.args.formula.now.vars c.deref.result.now c.clause_of.result.now c.loop-j.marks c.in-Unit.lit c.clause_of.ensures.literals c.in-Unit.ensures (c.loop-j.invariant.size ∙ c.requires.size))
