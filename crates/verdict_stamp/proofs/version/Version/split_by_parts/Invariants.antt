use Rattle.std.proofs.Common.{◌≡◌, length}
use Rattle.circ_model.specs.Meaning.{places_of}
use Rattle.verdict_stamp.proofs.WideSplitting.{IsSplitSoFar}
use Rattle.verdict_stamp.proofs.version.Version.split_by_parts.Given as goal

abbrev pub invariant-loop-j : goal.invariant-loop-j
invariant-loop-j l = record { so_far : IsSplitSoFar l.fn.self l.sim l.j l.self; size : length l.words.items ≡ places_of l.fn.self.pair }
