use Rattle.std.proofs.Common.{◌∙◌, ap, subst, arith, length}
use Rattle.circ_model.specs.Meaning.{Pair, places_of}
use Rattle.circ_model.specs.Correspondence.{MaySplit, MaySplit.OfRun}
use Rattle.sim_words.specs.Lanes.{lane}
use Rattle.step_lanes.proofs.rows.LaneRows.of_runs.Goals as goal

pub invariant_of-result : goal.invariant_of-result
invariant_of-result c =
    let words = c.in_ok-words.ensures.items ∙ c.words.ensures.words in
    record {
      places = ap length c.in_ok-words.ensures.items ∙ c.words.ensures.size ∙ ap places_of c.requires.pair;
      may = λ b lt on.
          let last = c.frame-frame.ensures.runs b lt in
          let rows = last.rows in
          subst (λ (p : Pair). MaySplit p c.args.k (lane b c.in_ok-words.words.items)) c.requires.pair
          (OfRun last.run c.frame-frame.result last.is_run (omega (arith, rows)) (ap (lane b) words ∙ last.row));
    }
