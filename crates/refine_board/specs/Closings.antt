-- What a party adds that works alone to the end.
use Rattle.std.specs.Prelude.{◌≡◌, ℕ, List, [], ◌∷◌, ◌++◌, ◌⊎◌}
use Rattle.class_partition.specs.declared.classes.Needed.{Needed}
use Rattle.class_partition.specs.Classes.{Classes}
use Rattle.refine_board.specs.declared.marks.Mark.TheVariants.{Out}
use Rattle.refine_board.specs.declared.journal.Step.{Step}
use Rattle.refine_board.specs.declared.journal.Step.TheVariants.{Offered, Idle, Done, Counted, Stale, Split, Already, Foreign, Back}
use Rattle.refine_board.specs.declared.journal.Entry.{Entry}
use Rattle.refine_board.specs.States.{State, IsNeededPair, mark_of}
use Rattle.refine_board.specs.Schedules.{IsStep, SeparatesPair}
use Rattle.refine_board.specs.Running.{Running, Appends}

-- the pair is counted, or the classes are split by a row that separates it
abbrev pub DecidesPair : Classes → Needed → Step → Type 0
DecidesPair classes p (Counted q w) = q ≡ p
DecidesPair classes p (Split bits n) = SeparatesPair classes bits p
DecidesPair classes p (Offered q) = ⊥
DecidesPair classes p Idle = ⊥
DecidesPair classes p Done = ⊥
DecidesPair classes p (Stale q) = ⊥
DecidesPair classes p (Back q) = ⊥
DecidesPair classes p Foreign = ⊥
DecidesPair classes p (Already bits) = ⊥

abbrev pub IsDecidedNext : Classes → Needed → List Entry → Type 0
IsDecidedNext classes p [] = ⊥
IsDecidedNext classes p (e ∷ rest) = DecidesPair classes p e.step

-- an offer, whose pair the next entry decides; or a pair that is out is decided
abbrev pub IsClosingStep : ℕ → State → Step → List Entry → Type 0
IsClosingStep places board (Offered p) rest = IsDecidedNext board.classes p rest
IsClosingStep places board (Counted p w) rest = mark_of board p.member ≡ Out
IsClosingStep places board (Split bits n) rest = (p : Needed) × IsNeededPair places board.classes p × (mark_of board p.member ≡ Out) × SeparatesPair board.classes bits p
IsClosingStep places board Idle rest = ⊥
IsClosingStep places board Done rest = ⊥
IsClosingStep places board (Stale p) rest = ⊥
IsClosingStep places board (Back p) rest = ⊥
IsClosingStep places board Foreign rest = ⊥
IsClosingStep places board (Already bits) rest = ⊥

-- entries of this party lead from one board to another, each of them an offer that is decided next, or what decides a pair that is out
abbrev pub LeadsAlone : ℕ → ℕ → State → List Entry → State → Type 0
LeadsAlone places party before [] after = after ≡ before
LeadsAlone places party before (e ∷ rest) after = (e.worker ≡ party) × (middle : State) × IsStep places e before middle × IsClosingStep places before e.step rest × LeadsAlone places party middle rest after

-- such entries were added
abbrev pub Closes : ℕ → ℕ → Running → Running → Type 0
Closes places party before after = (more : List Entry) × (after.entries ≡ before.entries ++ more) × LeadsAlone places party before.state more after.state

-- the pair is out, where need be by an offer to this party
abbrev pub IsClaimed : ℕ → ℕ → Running → Running → Needed → Type 0
IsClaimed places party before after p = (mark_of after.state p.member ≡ Out) × (after.state.classes ≡ before.state.classes)
    × (Appends places before after party (Offered p) ⊎ ((after.state ≡ before.state) × (after.entries ≡ before.entries)))
