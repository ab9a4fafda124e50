-- What the answers to a version's two questions say of a needed pair.
use Rattle.std.proofs.Common.{◌≡◌, ◌∙◌, ◌<◌, ◌⊎◌, ◌+◌, ℕ, Bool, true, false, not, List, length, refl, ap, sym, subst, arith, inl, inr, ⊎_elim, true≢false, Option, Some, None, IfSome, IfNone}
use Rattle.std.proofs.lemmas.List.Elements.{All-nil}
use Rattle.circ_model.specs.Meaning.{Pair, Path, IsPath, IsRun, places_of, row_at, value_in}
use Rattle.circ_model.specs.Correspondence.{HoldsIn, Separates, MaySplit, MaySplit.OfRun}
use Rattle.circ_model.proofs.Rows.{length_row}
use Rattle.class_partition.specs.Classes.{Classes, HoldIn, IsNeeded, needed}
use Rattle.sat_log.specs.Derivations.{Line}
use Rattle.class_partition.proofs.Partition.{may_split_after}
use Rattle.frame_questions.specs.declared.found.Seen.{Seen}
use Rattle.frame_questions.specs.declared.found.Separation.{Separation}
use Rattle.frame_questions.specs.declared.found.Separation.TheVariants as found
use Rattle.frame_questions.specs.Found.{IsFound, IsSeen}
use Rattle.frame_unroll.specs.Unrolled.{NoneSought}
use Rattle.frame_unroll.proofs.Members.{members_to, members_from}
use Rattle.verdict_stamp.specs.declared.prover.Proof.{Proof}
use Rattle.verdict_stamp.specs.declared.prover.Proof.TheVariants.{Holds, Splits}
use Rattle.verdict_stamp.specs.declared.used.Used.TheVariants.{Version}
use Rattle.verdict_stamp.proofs.Listed.{on_version}
use Rattle.pair_sweep.specs.Sweeps.{Extent}
use Rattle.split_rows.specs.Rows.{IsRowApart, SeparatesSome}
use Rattle.frame_graph.specs.Inductions.{BasePasses, StepPasses}
use Rattle.frame_graph.proofs.Staying.{both_halves}
use Rattle.verdict_stamp.specs.Proofs.{IsApart, IsProof, IsSettled, IsSplitOf, SplitsSome}
use Rattle.verdict_stamp.specs.Versions.{Standing, IsVersion, Split, IsPassed, base_of, step_of, base_question, step_question, extent_of, induction_of}

-- two bits are equal or complements, and not both
same_or_not : (x y : Bool) → (x ≡ y) ⊎ (x ≡ not y)
same_or_not true true = inl refl
same_or_not true false = inr refl
same_or_not false true = inr refl
same_or_not false false = inl refl

no_not : (b : Bool) → b ≡ not b → ⊥
no_not true e = true≢false e
no_not false e = true≢false (sym e)

pub not_both : (bits : List Bool) (p : ℕ × ℕ) → HoldsIn bits p → Separates bits p → ⊥
not_both bits p holds apart = no_not (value_in bits p.1) (sym holds ∙ apart)

holds_unless : (bits : List Bool) (p : ℕ × ℕ) → (Separates bits p → ⊥) → HoldsIn bits p
holds_unless bits p never = ⊎_elim (λ (h : HoldsIn bits p). h) (λ (s : Separates bits p). absurd (never s)) (same_or_not (value_in bits p.0) (value_in bits p.1))

-- no run is sought: the pair holds in the first frames of each
base_passes : (v : Standing) (m : ℕ) → NoneSought (base_of v) (base_question v m) → (run : Path) → IsRun v.pair run → length run.inputs ≡ v.k → (t : ℕ) → t < v.k → HoldsIn (row_at v.pair run t) (needed v.classes m)
base_passes v m none run runs len t lt = holds_unless (row_at v.pair run t) (needed v.classes m) (λ apart. none run (record {
  is_path = runs.is_path;
  rows = len;
  reset = λ from. runs;
  classes = λ s less. All-nil (HoldsIn (row_at v.pair run s));
  asked = (t, omega arith, let e : 0 + t ≡ t = omega arith in subst (λ (s : ℕ). Separates (row_at v.pair run s) (needed v.classes m)) (sym e) apart);
}))

-- no path is sought: the pair holds in frame k of each on which the classes hold before
step_passes : (v : Standing) (m : ℕ) → NoneSought (step_of v) (step_question v m) → (path : Path) → IsPath v.pair path → length path.inputs ≡ v.k + 1
    → ((t : ℕ) → t < v.k → HoldIn (places_of v.pair) v.classes (row_at v.pair path t)) → HoldsIn (row_at v.pair path v.k) (needed v.classes m)
step_passes v m none path is len hold = holds_unless (row_at v.pair path v.k) (needed v.classes m) (λ apart. none path (record {
  is_path = is;
  rows = len;
  reset = λ from. absurd (true≢false (sym from));
  classes = λ t less. members_from (places_of v.pair) v.classes (row_at v.pair path t) (hold t (omega arith));
  asked = (0, omega arith, let e : v.k + 0 ≡ v.k = omega arith in subst (λ (s : ℕ). Separates (row_at v.pair path s) (needed v.classes m)) (sym e) apart);
}))

-- a row that was seen in a frame of a run
pub base_row : (v : Standing) (m : ℕ) (s : Seen) → IsVersion v → IsSeen (base_of v) (base_question v m) s → IsSplitOf v m s.bits
base_row v m s is seen =
    let to : s.frame < v.k = (let t = seen.to in let some = is.some in omega arith) in
    let run : IsRun v.pair s.path = seen.sought.reset refl in
    record {
      size = ap length seen.row ∙ length_row v.pair s.path s.frame;
      may = OfRun s.path s.frame run (let r = seen.sought.rows in omega arith) seen.row;
      apart = seen.apart;
      fails = λ pass. not_both (row_at v.pair s.path s.frame) (needed v.classes m) (pass.base s.path run seen.sought.rows s.frame to)
          (subst (λ (r : List Bool). Separates r (needed v.classes m)) seen.row seen.apart);
    }

-- and in the last frame of a path on which the classes hold before
pub step_row : (v : Standing) (m : ℕ) (s : Seen) → IsVersion v → IsSeen (step_of v) (step_question v m) s → IsSplitOf v m s.bits
step_row v m s is seen =
    let at : s.frame ≡ v.k = (let from = seen.from in let to = seen.to in omega arith) in
    let row : s.bits ≡ row_at v.pair s.path v.k = seen.row ∙ ap (row_at v.pair s.path) at in
    let hold : (t : ℕ) → t < v.k → HoldIn (places_of v.pair) v.classes (row_at v.pair s.path t)
    = λ t lt. members_to (places_of v.pair) v.classes (row_at v.pair s.path t) (seen.sought.classes t (omega arith)) in
    record {
      size = ap length row ∙ length_row v.pair s.path v.k;
      may = subst (MaySplit v.pair v.k) (sym row) (may_split_after v.pair v.k v.classes s.path is.keeps seen.sought.is_path (let r = seen.sought.rows in omega arith) hold);
      apart = seen.apart;
      fails = λ pass. not_both (row_at v.pair s.path v.k) (needed v.classes m) (pass.step s.path seen.sought.is_path seen.sought.rows hold)
          (subst (λ (r : List Bool). Separates r (needed v.classes m)) row seen.apart);
    }

-- from what was found to what is answered
pub base_found : (v : Standing) (m : ℕ) (f : Separation) (s : Seen) → IsVersion v → f ≡ found.Path s → IsFound (base_of v) (base_question v m) f → IsSplitOf v m s.bits
base_found v m f s is e h = base_row v m s is (subst (IsFound (base_of v) (base_question v m)) e h)

pub step_found : (v : Standing) (m : ℕ) (f : Separation) (s : Seen) → IsVersion v → f ≡ found.Path s → IsFound (step_of v) (step_question v m) f → IsSplitOf v m s.bits
step_found v m f s is e h = step_row v m s is (subst (IsFound (step_of v) (step_question v m)) e h)

pub splits : (v w : Standing) (m : ℕ) (x : Split) (bits : List Bool) → v ≡ w → x ≡ record { pair = v.pair; k = v.k; bits = bits } → IsSplitOf w m bits → IsProof w m (Splits x)
splits v w m x bits ev ex s = subst (λ (z : Split). IsProof w m (Splits z)) (sym ex) (ap (λ (z : Standing). z.pair) ev, ap (λ (z : Standing). z.k) ev, s.apart, s.may, s.fails)

pub passed : (v : Standing) (m : ℕ) → BasePasses (induction_of v) m → StepPasses (induction_of v) m → IsNeeded (places_of v.pair) v.classes m → IsPassed (record { version = v; member = m; used = Version })
passed v m base step need = on_version v m need (both_halves (induction_of v) m base step)

-- nothing found: each half holds
pub base_none : (v : Standing) (m : ℕ) (f : Separation) (log : List Line) → f ≡ found.None log → IsFound (base_of v) (base_question v m) f → BasePasses (induction_of v) m
base_none v m f log e h = let none = subst (IsFound (base_of v) (base_question v m)) e h in λ t lt run is. base_passes v m none.0 run is.is_run is.rows t lt

pub step_none : (v : Standing) (m : ℕ) (f : Separation) (log : List Line) → f ≡ found.None log → IsFound (step_of v) (step_question v m) f → StepPasses (induction_of v) m
step_none v m f log e h = let none = subst (IsFound (step_of v) (step_question v m)) e h in λ path is. step_passes v m none.0 path is.is_path is.rows is.hold

-- the accessors' product and k are the version's
pub may_by : (v : Standing) (pair : Pair) (k : ℕ) (bits : List Bool) → pair ≡ v.pair → k ≡ v.k → MaySplit v.pair v.k bits → MaySplit pair k bits
may_by v pair k bits ep ek may = subst (λ (n : ℕ). MaySplit pair n bits) (sym ek) (subst (λ (p : Pair). MaySplit p v.k bits) (sym ep) may)

-- a row that was answered
pub split_of : (v : Standing) (m : ℕ) (o : Option (List Bool)) (row : List Bool) → o ≡ Some row → IfSome o (IsSplitOf v m) → IsSplitOf v m row
split_of v m o row e = subst (λ (x : Option (List Bool)). IfSome x (IsSplitOf v m)) e

-- a row that is held, for the pair, k and classes of a version
pub held_is : (v : Standing) (e : Extent) (classes : Classes) (m : ℕ) (o : Option (List Bool)) (row : List Bool) → e ≡ extent_of v → classes ≡ v.classes → o ≡ Some row
    → IfSome o (IsRowApart e.pair e.k classes m) → IsRowApart v.pair v.k v.classes m row
held_is v e classes m o row ee ec eo has =
    subst (λ (x : Extent). IsRowApart x.pair x.k v.classes m row) ee
    (subst (λ (z : Classes). IsRowApart e.pair e.k z m row) ec (subst (λ (x : Option (List Bool)). IfSome x (IsRowApart e.pair e.k classes m)) eo has))

-- and the vector of such a row
pub apart_of : (v w : Standing) (m : ℕ) (x : Split) (bits : List Bool) → v ≡ w → x ≡ record { pair = v.pair; k = v.k; bits = bits } → Separates bits (needed v.classes m) → MaySplit v.pair v.k bits → IsApart w m x
apart_of v w m x bits ev ex apart may = subst (λ (z : Standing). IsApart z m x) ev (subst (IsApart v m) (sym ex) (refl, refl, apart, may))

pub apart_by : (v w : Standing) (m : ℕ) (o : Option Split) (x : Split) → v ≡ w → o ≡ Some x → IfSome o (IsApart v m) → IsApart w m x
apart_by v w m o x ev eo has = subst (λ (z : Standing). IsApart z m x) ev (subst (λ (y : Option Split). IfSome y (IsApart v m)) eo has)

-- a row that waits, for the pair, k and classes of a version
pub waits : (v : Standing) (e : Extent) (classes : Classes) (o : Option (List Bool)) (row : List Bool) → e ≡ extent_of v → classes ≡ v.classes → o ≡ Some row
    → IfSome o (SeparatesSome e.pair e.k classes) → SeparatesSome v.pair v.k v.classes row
waits v e classes o row ee ec eo has =
    subst (λ (x : Extent). SeparatesSome x.pair x.k v.classes row) ee
    (subst (λ (z : Classes). SeparatesSome e.pair e.k z row) ec (subst (λ (x : Option (List Bool)). IfSome x (SeparatesSome e.pair e.k classes)) eo has))

-- and its vector
pub splits_some : (v w : Standing) (x : Split) (bits : List Bool) → v ≡ w → x ≡ record { pair = v.pair; k = v.k; bits = bits } → SeparatesSome v.pair v.k v.classes bits → SplitsSome w x
splits_some v w x bits ev ex is = subst (λ (z : Standing). SplitsSome z x) ev (subst (SplitsSome v) (sym ex) (record { pair_is = refl; k_is = refl; separates = is }))

-- an exact answer settles the pair
pub settles : (v w : Standing) (m : ℕ) (p : Proof) → v ≡ w → IsProof v m p → IsSettled w m p
settles v w m (Holds x) e is = subst (λ (z : Standing). IsSettled z m (Holds x)) e (is.0, is.1, is.3)
settles v w m (Splits x) e is = subst (λ (z : Standing). IsSettled z m (Splits x)) e (is.0, is.1, is.2, is.3)

pub none_by : (X : Type 0) (P : Type 0) (o : Option X) → o ≡ None → IfNone o P → P
none_by X P o e h = subst (λ (y : Option X). IfNone y P) e h
