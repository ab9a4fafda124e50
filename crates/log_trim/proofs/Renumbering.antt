-- Lines that are copied with new numbers follow as they did.
use Rattle.std.proofs.Common.{◌≡◌, ◌≤◌, ◌<◌, ℕ, ℤ, neg_ℤ, List, [], ◌∷◌, length, map, sym, subst, arith}
use Rattle.std.specs.List.{All, Contains}
use Rattle.std.proofs.lemmas.List.Elements.{All-map, All-tail}
use Rattle.sat_log.specs.Derivations.{Line, clause_at, LeavesOnly, Refutes, Follows}

-- a clause of one list has this number in another
pub record IsRenumbered (old new : List (List ℤ)) (f : ℕ → ℕ) (h : ℕ) : Type 0 where
  pub first : 0 < f h
  pub last : f h ≤ length new
  pub same : clause_at new (f h) ≡ clause_at old h

refutes_renumbered : (old new : List (List ℤ)) (f : ℕ → ℕ) (assumed : List ℤ) (hints : List ℕ) → All (IsRenumbered old new f) hints → Refutes old assumed hints → Refutes new assumed (map f hints)
refutes_renumbered old new f assumed [] all r = r
refutes_renumbered old new f assumed (h ∷ []) all r =
    let is : IsRenumbered old new f h = all 0 0 (omega arith) in
    subst (λ (c : List ℤ). All (λ m. Contains assumed (neg_ℤ m)) c) (sym is.same) r
refutes_renumbered old new f assumed (h ∷ i ∷ hs) all (l, only, r) =
    let is : IsRenumbered old new f h = all 0 0 (omega arith) in
    (l, subst (λ (c : List ℤ). LeavesOnly assumed c l) (sym is.same) only, refutes_renumbered old new f (l ∷ assumed) (i ∷ hs) (All-tail (IsRenumbered old new f) h (i ∷ hs) all) r)

pub follows_renumbered : (vars : ℕ) (old new : List (List ℤ)) (f : ℕ → ℕ) (line : Line) → All (IsRenumbered old new f) line.hints → Follows vars old line
    → Follows vars new (record { literals = line.literals; hints = map f line.hints })
follows_renumbered vars old new f line all follows = record {
  within = follows.within;
  no_complement = follows.no_complement;
  earlier = All-map (λ h. (0 < h) × (h ≤ length new)) f line.hints (λ k d lt. let is = all k d lt in (is.first, is.last));
  refutes = refutes_renumbered old new f (map neg_ℤ line.literals) line.hints all follows.refutes;
}
