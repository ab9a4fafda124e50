use Rattle.std.proofs.Common.{◌≡◌, ◌∙◌, ◌<◌, ◌≤◌, ◌*◌, ◌^◌, sym, subst, arith, ⊎_elim}
use Rattle.std.proofs.Math.Nat.{pow-le-pow_right, mod-eq_of_lt}
use Rattle.std.proofs.lemmas.Bool.{cases_lt}
use Rattle.circ_model.specs.Meaning.{Pair, places_of}
use Rattle.class_partition.specs.Classes.{Classes}
use Rattle.class_partition.proofs.ClassCount.{count_most}
use Rattle.tried_classes.specs.Plain.{LeavesWhole}
use Rattle.tried_classes.proofs.plain.sweep.Goals as goal

pub overflow_add-added : goal.overflow_add-added
overflow_add-added c =
    omega (arith, c.loop-number.invariant.3, c.try_path-added.ensures.count, count_most (places_of c.args.product.now) c.try_path-added.new.classes, c.len-places.ensures.few, c.len-places.ensures.places)

pub loop-number-preserved : goal.loop-number-preserved
loop-number-preserved c = (
  c.try_path-added.ensures.size,
  c.try_path-added.ensures.places,
  c.try_path-added.ensures.keeps,
  omega (arith, c.loop-number.invariant.3, c.try_path-added.ensures.count),
  λ z.
      let pair : Pair = c.args.product.now in
      let before = c.loop-number.invariant.4 (omega arith) in
      let whole = subst (λ (k : Classes). LeavesWhole pair k c.loop-number.number) before.0 (c.try_path-added.ensures.whole (omega arith)) in (
        c.try_path-added.ensures.none (omega arith) ∙ before.0,
        λ x lt. ⊎_elim
            (λ (less : x < c.loop-number.number). before.1 x less)
            (λ (ge : c.loop-number.number ≤ x). let e : c.loop-number.number ≡ x = omega arith in subst (LeavesWhole pair c.args.classes.now) e whole)
            (cases_lt x c.loop-number.number),
      ),
)

pub returns-clause-whole : goal.returns-clause-whole
returns-clause-whole c z number lt =
    let before = c.loop-number.invariant.4 z in
    let few : 2 ^ c.args.bits ≤ 2 ^ 16 = pow-le-pow_right (let two : 0 < 2 = omega arith in two) c.requires.few in
    let fits : 1 * 2 ^ c.args.bits < 4294967296 = omega arith in
    let end = mod-eq_of_lt fits in
    let past = c.loop-number-test.false in
    subst (λ (k : Classes). LeavesWhole c.args.product.now k number) (sym before.0) (before.1 number (omega (arith, lt, end, past)))
