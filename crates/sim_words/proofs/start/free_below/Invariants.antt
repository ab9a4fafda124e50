use Rattle.std.proofs.Common.{◌≡◌, ◌≤◌, take}
use Rattle.std.specs.Prelude.{count_by}
use Rattle.circ_model.specs.Meaning.{is_free, resets}
use Rattle.sim_words.proofs.start.free_below.Given as goal

abbrev pub invariant-loop-i : goal.invariant-loop-i
invariant-loop-i l = (l.count ≡ count_by is_free (take l.i (resets l.product))) × (l.count ≤ l.i)
