-- How many entries of a kind a journal has.
use Rattle.std.specs.Prelude.{ℕ, List, Bool, true, false, count_by}
use Rattle.refine_board.specs.declared.journal.Step.{Step}
use Rattle.refine_board.specs.declared.journal.Step.TheVariants.{Offered, Stale, Split, Already, Foreign, Back}
use Rattle.refine_board.specs.declared.journal.Entry.{Entry}

abbrev pub is_split : Step → Bool
is_split (Split bits n) = true
is_split e = false

abbrev pub split_entries : List Entry → ℕ
split_entries entries = count_by (λ (e : Entry). is_split e.step) entries

abbrev pub is_offered : Step → Bool
is_offered (Offered p) = true
is_offered e = false

abbrev pub offered_entries : List Entry → ℕ
offered_entries entries = count_by (λ (e : Entry). is_offered e.step) entries

-- the entries that may open a pair again
abbrev pub may_reopen : Step → Bool
may_reopen (Stale p) = true
may_reopen (Already bits) = true
may_reopen (Back p) = true
may_reopen Foreign = true
may_reopen e = false

abbrev pub reopening_entries : List Entry → ℕ
reopening_entries entries = count_by (λ (e : Entry). may_reopen e.step) entries

abbrev pub is_back : Step → Bool
is_back (Back p) = true
is_back e = false

abbrev pub back_entries : List Entry → ℕ
back_entries entries = count_by (λ (e : Entry). is_back e.step) entries

abbrev pub is_late : Step → Bool
is_late (Stale p) = true
is_late (Already bits) = true
is_late e = false

abbrev pub late_entries : List Entry → ℕ
late_entries entries = count_by (λ (e : Entry). is_late e.step) entries
