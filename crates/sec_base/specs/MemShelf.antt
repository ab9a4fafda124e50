-- A shelf in memory: which calls fail, and what stands after a call.
use Rattle.std.specs.Prelude.{ℕ, Bool, ◌||◌, List, [], ◌∷◌, ◌++◌, is_none, Result, Ok, Err}
use Rattle.sec_base.specs.Calls.{one_more, is_listed}
use Rattle.sec_base.specs.Files.{file_in, with_file}
use Rattle.sec_base.specs.Shelved.{Shelved}
use Rattle.sec_base.specs.declared.fault.LoadFault.{LoadFault}
use Rattle.sec_base.specs.declared.fault.LoadFault.TheVariants as load
use Rattle.sec_base.specs.declared.fault.StoreFault.{StoreFault}
use Rattle.sec_base.specs.declared.fault.StoreFault.TheVariants as store

-- a load fails where its call is listed or the name is missing
abbrev pub fails_load : Shelved → List ℕ → Bool
fails_load s name = is_listed s.fails s.calls || is_none (file_in s.files name)

-- each load is a call; one that failed is counted and its name kept
abbrev pub after_load : Result (Unit {0}) LoadFault → Shelved → List ℕ → Shelved
after_load (Err load.Failed) s name =
    record s { calls = one_more s.calls; failed = s.failed ++ name ∷ []; load_faults = one_more s.load_faults }
after_load other s name = record s { calls = one_more s.calls }

-- each store is a call; one that failed is counted and changes no file
abbrev pub after_store : Result (Unit {0}) StoreFault → Shelved → List ℕ → List ℕ → Shelved
after_store (Ok done) s name bytes = record s { calls = one_more s.calls; files = with_file s.files name bytes }
after_store (Err store.Failed) s name bytes = record s { calls = one_more s.calls; store_faults = one_more s.store_faults }
after_store (Err store.Memory) s name bytes = record s { calls = one_more s.calls }
