-- Hints, one after the other.
use Rattle.std.proofs.Common.{◌≡◌, ◌≢◌, ◌<◌, ◌+◌, ◌==◌, ℕ, ℤ, List, [], ◌∷◌, ◌++◌, length, get_or, drop, sym, ◌∙◌, ap, subst, arith, ⊎_elim, add-one, drop-cons}
use Rattle.std.proofs.lemmas.Bool.{cases_eq, eq-eqb, ne_eqb}
use Rattle.std.proofs.Math.ListN.{drop_of_length-le}
use Rattle.std.specs.List.{All}
use Rattle.sat_log.specs.Derivations.{clause_at, LeavesOnly, Refutes}
use Rattle.log_check.specs.Marks.{IsFalse, IsScan}
use Rattle.log_check.specs.FirstBad.{Decides}
use Rattle.log_check.specs.declared.scan.Scan.{Scan}
use Rattle.log_check.specs.declared.scan.Scan.TheVariants.{Neither}
use Rattle.log_check.proofs.Scanning.{Same, conflict_early, unit_late, neither_any, unit_step}

pub one_hint : (hints : List ℕ) (i : ℕ) → i < length hints → drop i hints ≡ get_or hints i 0 ∷ drop (i + 1) hints
one_hint hints i lt = rw add-one (drop-cons hints i 0 lt)

last_hint : (hints : List ℕ) (i : ℕ) → i + 1 ≡ length hints → drop i hints ≡ get_or hints i 0 ∷ []
last_hint hints i e = one_hint hints i (omega arith) ∙ ap (λ (l : List ℕ). get_or hints i 0 ∷ l) (drop_of_length-le hints (omega arith))

more_hints : (hints : List ℕ) (i : ℕ) → i + 1 < length hints → drop i hints ≡ get_or hints i 0 ∷ get_or hints (i + 1) 0 ∷ drop (i + 1 + 1) hints
more_hints hints i lt = one_hint hints i (omega arith) ∙ ap (λ (l : List ℕ). get_or hints i 0 ∷ l) (one_hint hints (i + 1) lt)

-- what was seen is of this clause, under what is assumed
pub scanned : (s a c d : List ℤ) (r : Scan) → s ≡ a → c ≡ d → IsScan s c r → IsScan a d r
scanned s a c d r e f h = subst (λ (x : List ℤ). IsScan x d r) e (subst (λ (y : List ℤ). IsScan s y r) f h)

pub at_conflict : (db : List (List ℤ)) (first a : List ℤ) (hints : List ℕ) (i : ℕ) → i < length hints → Same (Refutes db a (drop i hints)) (Refutes db first hints) → All (IsFalse a) (clause_at db (get_or hints i 0)) → Decides (i + 1 == length hints) (Refutes db first hints)
at_conflict db first a hints i lt ways all = ⊎_elim
    (λ (e : i + 1 ≡ length hints). let t = eq-eqb (i + 1) (length hints) e in rw t (ways.0 (subst (λ (hs : List ℕ). Refutes db a hs) (sym (last_hint hints i e)) all)))
    (λ (ne : i + 1 ≢ length hints). let t = ne_eqb (i + 1) (length hints) ne in
    rw t (λ r. conflict_early db a (drop (i + 1 + 1) hints) (get_or hints i 0) (get_or hints (i + 1) 0) all (subst (λ (hs : List ℕ). Refutes db a hs) (more_hints hints i (omega arith)) (ways.1 r))))
    (cases_eq (i + 1) (length hints))

pub at_neither : (db : List (List ℤ)) (first a : List ℤ) (hints : List ℕ) (i : ℕ) → i < length hints → Same (Refutes db a (drop i hints)) (Refutes db first hints) → IsScan a (clause_at db (get_or hints i 0)) Neither → Refutes db first hints → ⊥
at_neither db first a hints i lt ways n r = neither_any db a (drop (i + 1) hints) (get_or hints i 0) n.0 n.1 (subst (λ (hs : List ℕ). Refutes db a hs) (one_hint hints i lt) (ways.1 r))

pub at_last_unit : (db : List (List ℤ)) (first a : List ℤ) (hints : List ℕ) (i : ℕ) (l : ℤ) → i + 1 ≡ length hints → Same (Refutes db a (drop i hints)) (Refutes db first hints) → LeavesOnly a (clause_at db (get_or hints i 0)) l → Refutes db first hints → ⊥
at_last_unit db first a hints i l e ways only r = unit_late db a (get_or hints i 0) l only (subst (λ (hs : List ℕ). Refutes db a hs) (last_hint hints i e) (ways.1 r))

pub at_unit : (db : List (List ℤ)) (first a b : List ℤ) (hints : List ℕ) (i : ℕ) (l : ℤ) → i + 1 < length hints → Same (Refutes db a (drop i hints)) (Refutes db first hints) → LeavesOnly a (clause_at db (get_or hints i 0)) l → b ≡ a ++ l ∷ []
    → Same (Refutes db b (drop (i + 1) hints)) (Refutes db first hints)
at_unit db first a b hints i l lt ways only e =
    let u = unit_step db a (drop (i + 1 + 1) hints) (get_or hints i 0) (get_or hints (i + 1) 0) l only in
    let n = one_hint hints (i + 1) lt in
    let m = more_hints hints i lt in (
      (λ r. ways.0 (subst (λ (hs : List ℕ). Refutes db a hs) (sym m) (u.0 (subst (λ (hs : List ℕ). Refutes db (a ++ l ∷ []) hs) n (subst (λ (x : List ℤ). Refutes db x (drop (i + 1) hints)) e r))))),
      (λ r. subst (λ (x : List ℤ). Refutes db x (drop (i + 1) hints)) (sym e) (subst (λ (hs : List ℕ). Refutes db (a ++ l ∷ []) hs) (sym n) (u.1 (subst (λ (hs : List ℕ). Refutes db a hs) m (ways.1 r))))),
    )
