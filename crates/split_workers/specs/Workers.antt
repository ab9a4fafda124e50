-- A worker between its calls: what it claimed, what it answered, and what it holds.
use Rattle.std.specs.Prelude.{◌≡◌, ◌+◌, ◌<◌, ◌≤◌, ℕ, Option, cond, is_some, length}
use Rattle.work_desk.specs.Seats.{Calling}
use Rattle.work_desk.specs.declared.desk.Asked.{Asked}
use Rattle.work_desk.specs.declared.desk.Asked.TheVariants.{Work, Idle, Moved, Awaited, Ended, Stopped}

-- its party, whether it was told that each pair is counted (0 or 1), how many pairs it answered, how many it holds, each with a vector, how many it
-- claimed, and how many claims it keeps for another pass (0 or 1)
pub record Working : Type 0 where
  pub party : ℕ
  pub ended : ℕ
  pub answered : ℕ
  pub held : ℕ
  pub claims : ℕ
  pub kept : ℕ

abbrev pub working : {T : Type 0} → Calling → ℕ → Option T → Working
working c held ticket = record { party = c.party; ended = c.ended; answered = c.answered; held = held; claims = length c.claims; kept = cond (is_some ticket) 1 0 }

-- it works on
abbrev pub IsAtWork : ℕ → Working → Type 0
IsAtWork party w = (w.party ≡ party) × (w.ended ≡ 0)

-- it works on, or not, as before
abbrev pub IsSameWorker : Working → Working → Type 0
IsSameWorker before after = (after.party ≡ before.party) × (after.ended ≡ before.ended)

-- one claim is in hand: the one that it kept, or else a new one
abbrev pub HasInHand : Working → Working → Type 0
HasInHand before after = (after ≡ record before { claims = after.claims; kept = 0 }) × (after.claims + before.kept ≡ before.claims + 1)

-- none is: a new claim it keeps, and one that it kept is gone
abbrev pub HasNoneInHand : Working → Working → Type 0
HasNoneInHand before after = (after ≡ record before { claims = after.claims; kept = after.kept }) × (after.claims ≡ before.claims + after.kept) × (before.kept + after.kept ≤ 1)

-- it answered one pair more, or holds one more
abbrev pub HasOneMore : Working → Working → Type 0
HasOneMore before after = (after.answered + after.held ≡ before.answered + before.held + 1) × (after.claims ≡ before.claims) × (after.kept ≡ before.kept)

-- each new claim is answered, held or kept, and nothing is answered or held but what was claimed
abbrev pub IsAccountedFor : Working → Working → Type 0
IsAccountedFor before after = (before.answered + before.held + after.claims ≤ after.answered + after.held + after.kept + before.claims)
    × (after.answered + after.held + after.kept + before.claims ≤ before.answered + before.held + before.kept + after.claims)
    × (before.answered + before.held ≤ after.answered + after.held)

-- it answered only what it held or kept, or claimed since
abbrev pub HasAnsweredClaims : Working → Working → Type 0
HasAnsweredClaims before after = after.answered + before.claims ≤ before.answered + before.held + before.kept + after.claims

-- what it is told when it asks for work
abbrev pub IsTold : {L : Type 0} → ℕ → Working → Working → Asked L → Type 0
IsTold workers before after (Work pass) = (pass.party < workers) × (after ≡ before)
IsTold workers before after (Idle word) = after ≡ before
IsTold workers before after Moved = after ≡ before
IsTold workers before after Awaited = after ≡ before
IsTold workers before after Ended = after ≡ record before { ended = 1 }
IsTold workers before after Stopped = after ≡ before
