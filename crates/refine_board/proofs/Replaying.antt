-- A journal's splits, one after the other, make the classes of the state to which it leads.
use Rattle.std.proofs.Common.{◌≡◌, ◌∙◌, ℕ, Bool, List, ◌∷◌, length, ap, sym, subst}
use Rattle.circ_model.specs.Meaning.{Pair, places_of}
use Rattle.circ_model.specs.Correspondence.{MaySplit, OfRun, OfPath}
use Rattle.circ_model.proofs.Rows.{length_row}
use Rattle.class_partition.specs.Classes.{Classes, ArePartition, IsSplit, split_of}
use Rattle.class_partition.proofs.SameClasses.{same_classes}
use Rattle.class_partition.proofs.Splitting.{split_is}
use Rattle.refine_board.specs.declared.journal.Step.{Step}
use Rattle.refine_board.specs.declared.journal.Step.TheVariants.{Offered, Idle, Done, Counted, Stale, Split, Already, Foreign, Back}
use Rattle.refine_board.specs.declared.journal.Entry.{Entry}
use Rattle.refine_board.specs.States.{State}
use Rattle.refine_board.specs.Schedules.{IsAllowed}
use Rattle.refine_board.specs.Replays.{HasRow, IsReplayed, replayed}
use Rattle.refine_board.proofs.Splits.{Makes, makes}

-- a row that may split has a bit for each place
pub length_of_row : (pair : Pair) (k : ℕ) (bits : List Bool) → MaySplit pair k bits → length bits ≡ places_of pair
length_of_row pair k bits (OfRun run t is lt e) = ap length e ∙ length_row pair run t
length_of_row pair k bits (OfPath path is lt h e) = ap length e ∙ length_row pair path k

-- two splits by one row are equal
same_split : (places : ℕ) (before : Classes) (bits : List Bool) (a b : Classes) → IsSplit places before bits a → IsSplit places before bits b → a ≡ b
same_split places before bits a b is_a is_b =
    same_classes places a b is_a.partition is_b.partition (is_a.phase ∙ sym is_b.phase)
    (λ p q lt_p lt_q h. (is_b.together p q lt_p lt_q).1 ((is_a.together p q lt_p lt_q).0 h))
    (λ p q lt_p lt_q h. (is_a.together p q lt_p lt_q).1 ((is_b.together p q lt_p lt_q).0 h))

pub has_row : (pair : Pair) (k : ℕ) (board : State) (s : Step) → IsAllowed pair k board s → HasRow (places_of pair) s
has_row pair k board (Split bits n) ok = length_of_row pair k bits ok
has_row pair k board (Offered p) ok = tt
has_row pair k board Idle ok = tt
has_row pair k board Done ok = tt
has_row pair k board (Counted p w) ok = tt
has_row pair k board (Stale p) ok = tt
has_row pair k board (Already bits) ok = tt
has_row pair k board Foreign ok = tt
has_row pair k board (Back p) ok = tt

replayed_is : (places : ℕ) (s : Step) (before after : Classes) → ArePartition places before → Makes places s before after → after ≡ replayed s before
replayed_is places (Split bits n) before after is made =
    subst (λ (m : ℕ). after ≡ split_of m before bits) (sym is.least_len) (same_split places before bits after (split_of places before bits) made.0 (split_is places before bits is))
replayed_is places (Offered p) before after is made = made
replayed_is places Idle before after is made = made
replayed_is places Done before after is made = made
replayed_is places (Counted p w) before after is made = made
replayed_is places (Stale p) before after is made = made
replayed_is places (Already bits) before after is made = made
replayed_is places Foreign before after is made = made
replayed_is places (Back p) before after is made = made

-- one entry of the rest
pub replay_more : (pair : Pair) (k : ℕ) (before after : Classes) (entry : Entry) (rest : List Entry) (state : State) → ArePartition (places_of pair) before
    → (HasRow (places_of pair) entry.step → after ≡ replayed entry.step before) → IsReplayed pair k before (entry ∷ rest) state → IsReplayed pair k after rest state
replay_more pair k before after entry rest state is made (middle, same, (next, step, ok, further)) =
    let is_middle : ArePartition (places_of pair) middle.classes = subst (ArePartition (places_of pair)) (sym same) is in
    let here : next.classes ≡ replayed entry.step middle.classes = replayed_is (places_of pair) entry.step middle.classes next.classes is_middle (makes (places_of pair) entry.worker entry.step middle next step.2) in
    (next, here ∙ ap (replayed entry.step) same ∙ sym (made (has_row pair k middle entry.step ok)), further)
