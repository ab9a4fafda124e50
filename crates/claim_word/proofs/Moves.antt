-- What each call on the table owes: the rule holds after its step, whatever the word and the views were.
use Rattle.std.proofs.Common.{◌≡◌, ℕ, ◌+◌, ◌<◌, ◌==◌, List, [], ◌∷◌, Bool, true, false, length, set, refl, sym, ap, ◌∙◌, subst, arith, eqb-true, length-set}
use Rattle.std.specs.Prelude.{slice_index}
use mathlib.Core.Option.{none, some}
use prog.Atomic.{either}
use Rattle.atomic_table.specs.Table.{State, Me, Act, keeps, Valid, step, stepped, carried_after, Allows, Splits, Joins}
use Rattle.claim_word.specs.declared.view.View.{View}
use Rattle.claim_word.specs.Words.{version_of, pairs_of, index_of, next_claim}
use Rattle.claim_word.specs.Steps.{IsKept, Holds, nobody, with_seen, with_claim, advanced, joined, Looked, Checked, After, Tried, Advanced}
use Rattle.claim_word.proofs.Kept.{agrees, kept_same, kept_claim, kept_advance, kept_split, kept_join, kept_cut}

-- the rule, of a table
abbrev Rule : State ℕ View → Type 0
Rule s = Holds s.words s.views

-- the first word after it was set
word_set : (words : List ℕ) (n : ℕ) → 0 < length words → slice_index (set words 0 n) 0 ≡ n
word_set [] n room = absurd (omega arith)
word_set (w ∷ words) n room = refl

-- the rule after the first word was set
held : (words : List ℕ) (n : ℕ) (views : List View) → 0 < length words → IsKept n views → Holds (set words 0 n) views
held words n views room kept = (omega (arith, length-set words 0 n), subst (λ (x : ℕ). IsKept x views) (sym (word_set words n room)) kept)

-- a load that lists the word
pub looks : (slots p : ℕ) (me : Me ℕ View) → Allows Rule slots p me 0 (λ n. n) (Looked me)
looks slots p me s holds len at small =
    let w : ℕ = slice_index s.words 0 in
    (with_seen me.0 w, keeps, tt, held s.words w (set s.views p (with_seen me.0 w)) holds.0 (kept_same w s.views p me.0 (with_seen me.0 w) at refl refl refl holds.1), (refl, agrees w s.views p me.0 at holds.1))

-- a load that lists nothing
pub checks : (slots p : ℕ) (me : Me ℕ View) → Allows Rule slots p me 0 (λ n. n) (Checked me)
checks slots p me s holds len at small =
    let w : ℕ = slice_index s.words 0 in
    (me.0, keeps, tt, held s.words w (set s.views p me.0) holds.0 (kept_same w s.views p me.0 me.0 at refl refl refl holds.1), (refl, agrees w s.views p me.0 at holds.1))

-- an exchange of a word with a pair left by the next
pub tries : (slots p old : ℕ) (me : Me ℕ View) → index_of old < pairs_of old → Allows Rule slots p me 0 (λ n. either (n == old) (old + 1) n) (Tried (step slots 0 old (old + 1) none) me)
tries slots p old me room s holds len at small = tried (slice_index s.words 0 == old) refl
  where
    w : ℕ
    w = slice_index s.words 0

    tried : (b : Bool) → (w == old) ≡ b
        → (v : View) × (a : Act ℕ) × Valid s.homes me.1 a × Rule (stepped s 0 (either b (old + 1) w) p me.1 v a) × After b old me w (v, carried_after me.1 a)
    tried true e =
        let is : w ≡ old = eqb-true w old e in
        (with_claim me.0 (next_claim old), keeps, tt, held s.words (old + 1) (set s.views p (with_claim me.0 (next_claim old))) holds.0 (kept_claim old s.views p me.0 at room (subst (λ (x : ℕ). IsKept x s.views) is holds.1)), refl)
    tried false e = (with_seen me.0 w, keeps, tt, held s.words w (set s.views p (with_seen me.0 w)) holds.0 (kept_same w s.views p me.0 (with_seen me.0 w) at refl refl refl holds.1), refl)

-- a swap by the board's seat, to a greater version
pub advances : (slots p new : ℕ) (me : Me ℕ View) → me.0.board ≡ true → version_of me.0.written < version_of new → index_of new ≡ 0
    → Allows Rule slots p me 0 (λ _. new) (Advanced (step slots 0 new 0 none) me)
advances slots p new me board later zeroed s holds len at small =
    (advanced me.0 new, keeps, tt, held s.words new (set s.views p (advanced me.0 new)) holds.0 (kept_advance (slice_index s.words 0) new s.views p me.0 at board later zeroed holds.1), refl)

-- a new seat without claims
pub splits : (p : ℕ) (v : View) → Splits Rule p v v nobody
splits p v s holds at = (holds.0, kept_split (slice_index s.words 0) s.views p v at holds.1)

-- a seat with the lists of two, and one that is spent
pub joins : (p : ℕ) (v : View) (o : ℕ) (w : View) → Joins Rule p v o w (joined v w) nobody
joins p v o w s holds at apart there = (holds.0, kept_join (slice_index s.words 0) s.views p v o w at there holds.1)

-- a seat with the lists of two, made two again
pub cuts : (p : ℕ) (v left right : View) → v ≡ joined left right → right.board ≡ false → Splits Rule p v left right
cuts p v left right is beside s holds at = (holds.0, kept_cut (slice_index s.words 0) s.views p left right (at ∙ ap some is) beside holds.1)
