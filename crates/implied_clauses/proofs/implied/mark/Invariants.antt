use Rattle.std.proofs.Common.{◌≡◌, ℕ, get_or, take, true, false}
use Rattle.std.specs.List.{Contains}
use Rattle.implied_clauses.specs.Implied.{with_others}
use Rattle.implied_clauses.proofs.implied.mark.Given as goal

abbrev pub invariant-loop-l : goal.invariant-loop-l
invariant-loop-l l = record {
  marks : l.marks ≡ with_others l.fn.pivot (take l.l-index l.clause) l.fn.marks;
  listed : (x : ℕ) → get_or l.marks x false ≡ true → Contains l.listed.items x;
}
