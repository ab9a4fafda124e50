-- Where no store and no write fails, no answer stays unwritten.
use Rattle.std.proofs.Common.{ℕ, List, Bool, Option, None, Some, inl, inr, IsSomeAnd}
use Rattle.sec_base.specs.Faults.{Rose}
use Rattle.refine_board.specs.Running.{Written}
use Rattle.command_line.specs.Asked.{Asked}
use Rattle.sec_cli.specs.Reports.{World, IsUnstoredAs, store_name}
use Rattle.sec_cli.specs.Runs.{IsUnwritten}

stored_as : (name : Option (List ℕ)) (before after : World) → (Rose before.store_faults after.store_faults → ⊥) → IsUnstoredAs name before after → ⊥
stored_as None before after store u = u
stored_as (Some name) before after store u = store u.rose

pub all_written : (c : Option Asked) (tells : Bool) (journal : Option Written) (before after : World) → (Rose before.store_faults after.store_faults → ⊥) → (Rose before.out_faults after.out_faults → ⊥) → IsSomeAnd c (λ d. IsUnwritten tells d journal before after) → ⊥
all_written None tells journal before after store out u = u
all_written (Some c) tells journal before after store out u =
    elim u.failed [
      | inl p ↦ out p.rose
      | inr q ↦ stored_as (store_name c u.answer.status) before after store q
    ]
