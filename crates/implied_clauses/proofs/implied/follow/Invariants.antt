use Rattle.std.proofs.Common.{◌≡◌, ℕ, get_or, take, true, false}
use Rattle.std.specs.List.{Contains}
use Rattle.implied_clauses.specs.Implied.{chained}
use Rattle.implied_clauses.proofs.implied.follow.Given as goal

abbrev pub invariant-loop-step : goal.invariant-loop-step
invariant-loop-step l = record {
  marks : l.marks ≡ chained l.clauses l.fn.marks (take l.step-index l.steps);
  listed : (x : ℕ) → get_or l.marks x false ≡ true → Contains l.listed.items x;
}
