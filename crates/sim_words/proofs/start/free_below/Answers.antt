use Rattle.std.proofs.Common.{◌≡◌, ◌∙◌, ◌<◌, ◌+◌, ℕ, length, take, ap, ap₂, sym, arith, if◌then◌else◌}
use Rattle.std.specs.Prelude.{count_by}
use Rattle.std.proofs.Common.{length-take}
use Rattle.std.proofs.lemmas.List.Sums.{count_by-le-length}
use Rattle.circ_model.specs.declared.netlist.Reset.{Reset}
use Rattle.circ_model.specs.Meaning.{is_free, Pair, resets}
use Rattle.circ_model.proofs.FreeLatches.{count_more}
use Rattle.circ_model.proofs.Paths.{length_resets}
use Rattle.sim_words.proofs.start.free_below.Goals as goal

pub loop-i-preserved : goal.loop-i-preserved
loop-i-preserved c =
    let pair : Pair = c.args.product.now in
    let test = c.loop-i-test.true in
    let lt : c.loop-i.i < length (resets pair) = omega (arith, c.requires, length_resets pair) in
    let count : c.loop-i.count + c.taken.result ≡ count_by is_free (take (c.loop-i.i + 1) (resets pair)) =
    ap₂ (λ (x y : ℕ). x + y) c.loop-i.invariant.0 (c.taken.ensures ∙ ap (λ (r : Reset). if is_free r then 1 else 0) c.reset.ensures) ∙ sym (count_more (resets pair) c.loop-i.i lt) in
    (count, omega (arith, count, count_by-le-length is_free (take (c.loop-i.i + 1) (resets pair)), length-take (c.loop-i.i + 1) (resets pair)))
