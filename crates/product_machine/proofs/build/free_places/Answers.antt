use Rattle.std.proofs.Common.{◌+◌, ◌∙◌, ℕ, length, map, get_or, ap, arith}
use Rattle.circ_model.specs.Meaning.{free_from, own_resets}
use Rattle.circ_model.proofs.FreeLatches.{length_own_resets}
use Rattle.product_machine.proofs.Starting.{reset_read, all_resets, place_more}
use Rattle.product_machine.proofs.build.free_places.Goals as goal

pub loop-k-preserved : goal.loop-k-preserved
loop-k-preserved c =
    let latches = c.latches-latches.result.now in
    let lt = c.loop-k-test.true in
    place_more c.args.from c.loop-k.k (own_resets c.args.net.now) c.loop-k.places.items c.push_free.new.places.items (get_or latches c.loop-k.k c.index-latches-k.result).reset
    (omega (arith, ap length c.latches-latches.ensures, length_own_resets c.args.net.now))
    (reset_read c.args.net.now latches c.loop-k.k c.index-latches-k.result c.latches-latches.ensures lt) c.loop-k.invariant c.in_ok-push_free.ensures

pub returns : goal.returns
returns c =
    c.loop-k.invariant ∙ ap (λ rs. map (λ (i : ℕ). c.args.from + i) (free_from 0 rs)) (all_resets c.args.net.now c.loop-k.k (let past = c.loop-k-test.false in omega (arith, ap length c.latches-latches.ensures)))
