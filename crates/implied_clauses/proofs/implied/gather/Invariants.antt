use Rattle.std.proofs.Common.{◌≡◌, ℕ, get_or, take, true, false}
use Rattle.std.specs.List.{All, Contains}
use Rattle.implied_clauses.proofs.implied.gather.Given as goal

abbrev pub invariant-loop-l : goal.invariant-loop-l
invariant-loop-l l = record {
  all : (x : ℕ) → get_or l.marks x false ≡ true → Contains (take l.l-index l.listed) x → Contains l.clause.items x;
  only : All (λ (x : ℕ). get_or l.marks x false ≡ true) l.clause.items;
}
