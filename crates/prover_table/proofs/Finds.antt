-- What a bench settles of a claimed pair is what the worker may answer.
use Rattle.std.proofs.Common.{◌≡◌, ◌∙◌, ℕ, Result, Ok, Err, IfOk, Option, Some, IfSome, ap, subst, sym}
use Rattle.boxcar.specs.Table.{Shelves}
use Rattle.circ_model.specs.Meaning.{Pair}
use Rattle.refine_board.specs.Running.{Claiming, IsClaiming}
use Rattle.verdict_stamp.specs.declared.prover.Proof.{Proof}
use Rattle.verdict_stamp.specs.declared.prover.Proof.TheVariants.{Holds, Splits}
use Rattle.verdict_stamp.specs.Proofs.{IsSettled, SplitsSome}
use Rattle.verdict_stamp.specs.Published.{Issued}
use Rattle.verdict_stamp.specs.Versions.{Split, Standing}
use Rattle.prover_table.specs.Tables.{IsFoundFor}

found_for : (pair : Pair) (k : ℕ) (list : Shelves) (c : Claiming) (r : Proof) → IsClaiming pair k list c → IsSettled c.stamp.value.version c.pair.member r → IsFoundFor pair k c r
found_for pair k list c (Holds w) own is =
    let same : w.version ≡ c.stamp.value.version = is.0 in
    let member : w.member ≡ c.pair.member = is.1 in
    let rep = own.1.2 in
    ((member, rw (same, member) rep), same)
found_for pair k list c (Splits x) own is = (is.0 ∙ own.0.1, is.1 ∙ own.0.2)

pub found_by : {E : Type 0} (pair : Pair) (k : ℕ) (list : Shelves) (c : Claiming) (r : Result Proof E) → IsClaiming pair k list c → IfOk r (IsSettled c.stamp.value.version c.pair.member) → IfOk r (IsFoundFor pair k c)
found_by pair k list c (Ok p) own is = found_for pair k list c p own is
found_by pair k list c (Err e) own is = is

-- so is a row that waited at the bench of its version
pub splits_for : (pair : Pair) (k : ℕ) (list : Shelves) (c : Claiming) (v : Issued) (o : Option Split) (x : Split) → IsClaiming pair k list c → v ≡ c.stamp.value → o ≡ Some x → IfSome o (SplitsSome v.version) → IsFoundFor pair k c (Splits x)
splits_for pair k list c v o x own ev eo has =
    let is : SplitsSome v.version x = subst (λ (y : Option Split). IfSome y (SplitsSome v.version)) eo has in
    (is.pair_is ∙ ap (λ (z : Issued). z.version.pair) ev ∙ own.0.1, is.k_is ∙ ap (λ (z : Issued). z.version.k) ev ∙ own.0.2)
