-- What the entries of a journal come to: the ends of each party, offers and their answers.
use Rattle.std.specs.Prelude.{ℕ, zero, suc, ◌+◌, ◌*◌, ◌^◌, ◌==◌, ◌&&◌, Bool, true, false, List, count_by}
use Rattle.refine_board.specs.declared.journal.Step.{Step}
use Rattle.refine_board.specs.declared.journal.Step.TheVariants.{Offered, Idle, Done, Counted, Stale, Split, Already, Foreign, Back}
use Rattle.refine_board.specs.declared.journal.Entry.{Entry}

abbrev pub is_done : Step → Bool
is_done Done = true
is_done e = false

-- how often a party was told that each pair is counted
abbrev pub dones : List Entry → ℕ → ℕ
dones entries party = count_by (λ (e : Entry). is_done e.step && e.worker == party) entries

-- the sum over the parties below n
unfoldable pub sum_below : ℕ → (ℕ → ℕ) → ℕ
sum_below zero f = 0
sum_below (suc n) f = sum_below n f + f n

-- all ends, and their sum where party q's is 2^q
abbrev pub ends : ℕ → List Entry → ℕ
ends workers entries = sum_below workers (dones entries)

abbrev pub weights : ℕ → List Entry → ℕ
weights workers entries = sum_below workers (λ p. dones entries p * 2 ^ p)

-- an entry that answers an offer
abbrev pub is_answer : Step → Bool
is_answer (Offered p) = false
is_answer Idle = false
is_answer Done = false
is_answer (Counted p w) = true
is_answer (Stale p) = true
is_answer (Split bits n) = true
is_answer (Already bits) = true
is_answer Foreign = true
is_answer (Back p) = true

abbrev pub answers : List Entry → ℕ
answers entries = count_by (λ (e : Entry). is_answer e.step) entries
