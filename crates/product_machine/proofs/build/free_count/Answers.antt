use Rattle.std.proofs.Common.{◌≡◌, ◌∙◌, ◌<◌, ◌+◌, ℕ, length, take, ap, ap₂, sym, arith, if◌then◌else◌}
use Rattle.std.specs.Prelude.{count_by}
use Rattle.std.proofs.Common.{length-take}
use Rattle.std.proofs.lemmas.List.Sums.{count_by-le-length}
use Rattle.circ_model.specs.declared.netlist.Reset.{Reset}
use Rattle.circ_model.specs.Meaning.{is_free, own_resets}
use Rattle.circ_model.proofs.FreeLatches.{length_own_resets, count_more, free_number}
use Rattle.circ_model.proofs.Order.{length_variables}
use Rattle.circ_model.proofs.Rows.{length_leaves}
use Rattle.circ_model.proofs.Counting.{few_variables}
use Rattle.product_machine.proofs.Starting.{reset_read, all_resets}
use Rattle.product_machine.proofs.build.free_count.Goals as goal

pub loop-k-preserved : goal.loop-k-preserved
loop-k-preserved c =
    let rs = own_resets c.args.net.now in
    let test = c.loop-k-test.true in
    let lt : c.loop-k.k < length rs = omega (arith, ap length c.latches-latches.ensures, length_own_resets c.args.net.now) in
    let read = reset_read c.args.net.now c.latches-latches.result.now c.loop-k.k c.index-latches-k.result c.latches-latches.ensures test in
    let count : c.loop-k.count + c.free_number-count.result ≡ count_by is_free (take (c.loop-k.k + 1) rs) =
    ap₂ (λ (x y : ℕ). x + y) c.loop-k.invariant.0 (c.free_number-count.ensures ∙ ap (λ (r : Reset). if◌then◌else◌ {A = ℕ} (is_free r) 1 0) read) ∙ sym (count_more rs c.loop-k.k lt) in
    (count, omega (arith, count, count_by-le-length is_free (take (c.loop-k.k + 1) rs), length-take (c.loop-k.k + 1) rs))

pub overflow_cast-result : goal.overflow_cast-result
overflow_cast-result c = omega (arith, few_variables c.args.net.now c.requires, length_variables c.args.net.now, length_leaves c.args.net.now, ap length c.latches-latches.ensures, c.loop-k.invariant.1)

pub returns : goal.returns
returns c =
    c.loop-k.invariant.0 ∙ ap (count_by is_free) (all_resets c.args.net.now c.loop-k.k (let past = c.loop-k-test.false in omega (arith, ap length c.latches-latches.ensures))) ∙ sym (free_number 0 (own_resets c.args.net.now))
