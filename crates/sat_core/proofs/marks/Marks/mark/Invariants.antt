use Rattle.std.proofs.Common.{◌≡◌, ◌⊎◌, take}
use Rattle.std.specs.List.{All}
use Rattle.sat_core.specs.Analysis.{IsMarked, AreCounted, AddsMarks}
use Rattle.sat_core.proofs.marks.Marks.mark.Given as goal

abbrev pub invariant-loop-lit : goal.invariant-loop-lit
invariant-loop-lit l = record {
  counted : AreCounted l.limit l.self;
  marked : All (λ m. (m ≡ l.skip) ⊎ IsMarked l.trail.lits.items l.self.seen.items l.limit m) (take l.lit-index l.clause);
  adds : AddsMarks l.limit l.initial.self l.self;
}
