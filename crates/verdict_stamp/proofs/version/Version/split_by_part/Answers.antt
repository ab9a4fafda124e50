use Rattle.std.proofs.Common.{◌≡◌, ◌∙◌, ◌+◌, ℕ, List, length, ap, sym, subst, arith}
use Rattle.circ_model.specs.Meaning.{Pair, places_of}
use Rattle.circ_model.specs.Correspondence.{MaySplit}
use Rattle.class_partition.specs.Classes.{class_count}
use Rattle.class_partition.specs.Words.{rows_of, splits_of}
use Rattle.sim_words.specs.Lanes.{lane}
use Rattle.sim_words.specs.Wide.{narrow}
use Rattle.verdict_stamp.specs.Versions.{Standing}
use Rattle.verdict_stamp.proofs.SimSplitting.{lane_may, sim_split_stays}
use Rattle.verdict_stamp.proofs.version.Version.split_by_part.Goals as goal

pub invariant_of-self-2 : goal.invariant_of-self-2
invariant_of-self-2 c =
    let i = c.self.inside in
    let v : Standing = record { pair = i.product.now; k = i.depth; classes = i.partition; number = i.splits } in
    let words : List ℕ = (narrow c.args.sim.now c.args.j).words in
    let pair : c.args.sim.now.pair ≡ v.pair = c.requires.pair ∙ sym (ap (λ (s : Standing). s.pair) c.self.view_is) in
    let size : length i.partition.least ≡ places_of v.pair = c.self.invariant.partition.least_len in
    let rows = subst (λ (n : ℕ). c.split_by_words.new.self ≡ splits_of n i.partition (rows_of words)) size (subst (λ (ws : List ℕ). c.split_by_words.new.self ≡ splits_of (length i.partition.least) i.partition (rows_of ws)) c.write_words.ensures c.in_ok-added.ensures.rows) in
    let count = subst (λ (n : ℕ). class_count n c.split_by_words.new.self ≡ class_count n i.partition + c.in_ok-added.added) size c.in_ok-added.ensures.count in
    sim_split_stays v words c.split_by_words.new.self c.in_ok-added.added i.splits c.self.invariant rows
    (λ b lt. subst (λ (p : Pair). MaySplit p v.k (lane b words)) pair (lane_may c.args.sim.now.pair v.k c.frame-frame.result (lane b (narrow c.args.sim.now c.args.j).state) (lane b words) (c.frame-frame.ensures.runs c.args.j b c.requires.part lt)))
    count (omega arith)
