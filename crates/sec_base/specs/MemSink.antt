-- A sink in memory: which calls fail, and what stands after a call.
use Rattle.std.specs.Prelude.{ℕ, ◌-◌, Bool, ◌||◌, ◌&&◌, not, List, ◌++◌, length, take, ◌==◌, if◌then◌else◌}
use Rattle.sec_base.specs.Calls.{one_more, is_listed}
use Rattle.sec_base.specs.Held.{Held}

abbrev pub room_left : Held → ℕ
room_left s = s.room - length s.bytes

-- the call is listed, or it has a nonempty piece and no room is left
abbrev pub refuses : Held → List ℕ → Bool
refuses s piece = is_listed s.fails s.calls || ((room_left s == 0) && not (length piece == 0))

-- a refused call is counted, and another takes what fits
abbrev pub after_write : Held → List ℕ → Held
after_write s piece =
    if refuses s piece then record s { calls = one_more s.calls; faults = one_more s.faults }
    else record s { calls = one_more s.calls; bytes = s.bytes ++ take (room_left s) piece }
