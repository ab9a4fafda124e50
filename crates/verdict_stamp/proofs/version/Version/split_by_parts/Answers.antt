use Rattle.std.proofs.Common.{◌≡◌, ◌∙◌, ℕ, List, length, ap, arith}
use Rattle.std.proofs.lemmas.List.{with_items_is}
use Rattle.circ_model.specs.Meaning.{places_of}
use Rattle.verdict_stamp.proofs.WideSplitting.{none_so_far, split_so_far}
use Rattle.verdict_stamp.proofs.version.Version.split_by_parts.Goals as goal

pub loop-j-init : goal.loop-j-init
loop-j-init c = record { so_far = none_so_far c.args.self.now c.args.sim.now; size = omega (arith, c.in_ok-words.ensures.len, c.len-places.ensures.places, ap places_of c.product.ensures.pair) }

pub loop-j-preserved : goal.loop-j-preserved
loop-j-preserved c =
    let words : List ℕ = c.split_by_part.new.words in
    let same : length c.as_mut_slice.result.now ≡ length c.loop-j.words.items = ap length c.as_mut_slice.ensures.value in
    let fits : length words ≡ c.loop-j.words.len = omega (arith, c.split_by_part.auto.words, same, c.loop-j.words.ok.0) in
    let e = c.in_ok-split_by_part.ensures in
    record {
      so_far = split_so_far c.args.self.now c.loop-j.self c.split_by_part.new.self c.args.sim.now c.loop-j.j c.in_ok-split_by_part.field-0 c.requires.pair c.loop-j.invariant.so_far e.product e.k e.number e.rows e.count e.none;
      size = ap length (with_items_is c.loop-j.words words fits) ∙ e.size ∙ ap places_of c.loop-j.invariant.so_far.product;
    }
