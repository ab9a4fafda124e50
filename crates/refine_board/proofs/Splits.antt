-- What a legal list of entries does to the classes.
use Rattle.std.proofs.Common.{◌≡◌, ◌==◌, ◌∙◌, ◌≤◌, ℕ, ◌+◌, Bool, true, false, List, [], ◌∷◌, cond, if◌then◌else◌, refl, ap, ap₂, sym, subst, arith, Option, Some, None}
use Rattle.std.proofs.lemmas.List.Sums.{sum_by-cons}
use Rattle.circ_model.specs.Meaning.{Pair, places_of}
use Rattle.circ_model.specs.Correspondence.{Together}
use Rattle.class_partition.specs.Classes.{Classes, ArePartition, AreTogether, IsSplit, class_count, AreOfGreatest}
use Rattle.refine_board.specs.declared.marks.Mark.TheVariants.{Open, Proved}
use Rattle.refine_board.specs.declared.marks.LastOffer.{LastOffer}
use Rattle.refine_board.specs.declared.journal.Step.{Step}
use Rattle.refine_board.specs.declared.journal.Step.TheVariants.{Offered, Idle, Done, Counted, Stale, Back, Foreign, Already, Split}
use Rattle.refine_board.specs.declared.journal.Entry.{Entry}
use Rattle.refine_board.specs.States.{State, offer_of, AllCounted, called, offered, cleared, marked, reopened, released, divided}
use Rattle.refine_board.specs.Schedules.{Does, IsAllowed, Leads, IsSupported}
use Rattle.refine_board.specs.Tallies.{is_split, split_entries}
use Rattle.circ_model.proofs.Greatest.{may_split_agrees}
use Rattle.class_partition.proofs.Partition.{taken_apart}
use Rattle.refine_board.specs.Laws.{AreAlike}
use Rattle.class_partition.proofs.SameClasses.{undivided, same_classes, same_of_greatest, together_in_classes, together_in_greatest}
use Rattle.class_partition.proofs.ClassCount.{count_most, count_positive}
use Rattle.circ_model.proofs.Rows.{some_place}
use Rattle.refine_board.proofs.Supported.{always_supported, done_is_greatest, greatest_undivided, after_event}

pub classes_of_reopened : (offer : Option LastOffer) (board : State) → (reopened offer board).classes ≡ board.classes
classes_of_reopened None board = refl
classes_of_reopened (Some offer) board = at (offer.number == board.number)
  where
    at : (b : Bool) → (if b then marked offer.pair.member Open board else board).classes ≡ board.classes
    at true = refl
    at false = refl

-- what an entry does to the classes: a split, or nothing
abbrev pub Makes : ℕ → Step → Classes → Classes → Type 0
Makes places (Split bits n) before after = IsSplit places before bits after × (1 ≤ n) × (class_count places after ≡ class_count places before + n)
Makes places (Offered p) before after = after ≡ before
Makes places Idle before after = after ≡ before
Makes places Done before after = after ≡ before
Makes places (Counted p w) before after = after ≡ before
Makes places (Stale p) before after = after ≡ before
Makes places (Back p) before after = after ≡ before
Makes places Foreign before after = after ≡ before
Makes places (Already bits) before after = after ≡ before

of_classes : (b c : State) → b ≡ c → b.classes ≡ c.classes
of_classes b c e = ap (λ (x : State). x.classes) e

pub makes : (places party : ℕ) (event : Step) (before after : State) → Does places party event before after → Makes places event before.classes after.classes
makes places party (Split bits n) before after (classes, split, some, count, e) =
    let at : after.classes ≡ classes = of_classes after (called party (cleared party (divided classes before))) e in
    subst (λ (c : Classes). IsSplit places before.classes bits c × (1 ≤ n) × (class_count places c ≡ class_count places before.classes + n)) (sym at) (split, some, count)
makes places party (Offered p) before after does = of_classes after (called party (offered party p before)) does.1
makes places party Idle before after does = of_classes after (called party before) does.2
makes places party Done before after does = of_classes after (called party before) does.1
makes places party (Counted p w) before after does = of_classes after (called party (cleared party (marked p.member (Proved p.rep w) before))) does.1
makes places party (Stale p) before after does = of_classes after (called party (released party before)) does ∙ classes_of_reopened (offer_of before party) before
makes places party (Back p) before after does = of_classes after (called party (released party before)) does ∙ classes_of_reopened (offer_of before party) before
makes places party Foreign before after does = of_classes after (called party (released party before)) does ∙ classes_of_reopened (offer_of before party) before
makes places party (Already bits) before after does = of_classes after (called party (released party before)) does.1 ∙ classes_of_reopened (offer_of before party) before

same_phase : (places : ℕ) (event : Step) (before after : Classes) → Makes places event before after → after.phase ≡ before.phase
same_phase places (Split bits n) before after makes = makes.0.phase
same_phase places (Offered p) before after makes = ap (λ (c : Classes). c.phase) makes
same_phase places Idle before after makes = ap (λ (c : Classes). c.phase) makes
same_phase places Done before after makes = ap (λ (c : Classes). c.phase) makes
same_phase places (Counted p w) before after makes = ap (λ (c : Classes). c.phase) makes
same_phase places (Stale p) before after makes = ap (λ (c : Classes). c.phase) makes
same_phase places (Back p) before after makes = ap (λ (c : Classes). c.phase) makes
same_phase places Foreign before after makes = ap (λ (c : Classes). c.phase) makes
same_phase places (Already bits) before after makes = ap (λ (c : Classes). c.phase) makes

pub phases_stay : (pair : Pair) (k : ℕ) (entries : List Entry) (before after : State) → Leads pair k before entries after → after.classes.phase ≡ before.classes.phase
phases_stay pair k [] before after e = ap (λ (b : State). b.classes.phase) e
phases_stay pair k (entry ∷ rest) before after (middle, step, ok, further) =
    phases_stay pair k rest middle after further ∙ same_phase (places_of pair) entry.step before.classes middle.classes (makes (places_of pair) entry.worker entry.step before middle step.2)

-- each split makes classes more
abbrev one : Bool → ℕ
one b = cond b 1 0

splits_grow : (places : ℕ) (event : Step) (before after : Classes) → Makes places event before after → one (is_split event) + class_count places before ≤ class_count places after
splits_grow places (Split bits n) before after makes = let some = makes.1 in let count = makes.2 in omega arith
splits_grow places (Offered p) before after makes = let e = ap (class_count places) makes in omega arith
splits_grow places Idle before after makes = let e = ap (class_count places) makes in omega arith
splits_grow places Done before after makes = let e = ap (class_count places) makes in omega arith
splits_grow places (Counted p w) before after makes = let e = ap (class_count places) makes in omega arith
splits_grow places (Stale p) before after makes = let e = ap (class_count places) makes in omega arith
splits_grow places (Back p) before after makes = let e = ap (class_count places) makes in omega arith
splits_grow places Foreign before after makes = let e = ap (class_count places) makes in omega arith
splits_grow places (Already bits) before after makes = let e = ap (class_count places) makes in omega arith

pub splits_counted : (pair : Pair) (k : ℕ) (entries : List Entry) (before after : State) → Leads pair k before entries after → split_entries entries + class_count (places_of pair) before.classes ≤ class_count (places_of pair) after.classes
splits_counted pair k [] before after e = let same = ap (λ (b : State). class_count (places_of pair) b.classes) e in omega arith
splits_counted pair k (entry ∷ rest) before after (middle, step, ok, further) =
    let here = splits_grow (places_of pair) entry.step before.classes middle.classes (makes (places_of pair) entry.worker entry.step before middle step.2) in
    let later = splits_counted pair k rest middle after further in
    rw (sum_by-cons (λ (e : Entry). one (is_split e.step)) entry rest) (omega arith)

pub splits_below : (pair : Pair) (k : ℕ) (entries : List Entry) (before after : State) → ArePartition (places_of pair) before.classes → Leads pair k before entries after → split_entries entries + 1 ≤ places_of pair
splits_below pair k entries before after is leads =
    let h = splits_counted pair k entries before after leads in
    let low = count_positive (places_of pair) before.classes is (some_place pair) in
    let high = count_most (places_of pair) after.classes in
    omega arith

-- from the classes of the greatest correspondence on, nothing splits and the classes stay
pub unsplit : (pair : Pair) (k : ℕ) (event : Step) (before : State) (after : Classes) → IsSupported pair k before → AreOfGreatest pair k before.classes → IsAllowed pair k before event → Makes (places_of pair) event before.classes after → (after ≡ before.classes) × (is_split event ≡ false)
unsplit pair k (Split bits n) before after is of ok makes =
    let same : after ≡ before.classes = undivided (places_of pair) before.classes bits after is.partition makes.0 (greatest_undivided pair k before.classes bits is.partition of ok) in
    let some = makes.1 in
    let count = makes.2 in
    let e = ap (class_count (places_of pair)) same in
    absurd (omega arith)
unsplit pair k (Offered p) before after is of ok makes = (makes, refl)
unsplit pair k Idle before after is of ok makes = (makes, refl)
unsplit pair k Done before after is of ok makes = (makes, refl)
unsplit pair k (Counted p w) before after is of ok makes = (makes, refl)
unsplit pair k (Stale p) before after is of ok makes = (makes, refl)
unsplit pair k (Back p) before after is of ok makes = (makes, refl)
unsplit pair k Foreign before after is of ok makes = (makes, refl)
unsplit pair k (Already bits) before after is of ok makes = (makes, refl)

pub no_later_split : (pair : Pair) (k : ℕ) (entries : List Entry) (before after : State) → IsSupported pair k before → AreOfGreatest pair k before.classes → Leads pair k before entries after → (after.classes ≡ before.classes) × (split_entries entries ≡ 0)
no_later_split pair k [] before after is of e = (ap (λ (b : State). b.classes) e, refl)
no_later_split pair k (entry ∷ rest) before after is of (middle, step, ok, further) =
    let here = unsplit pair k entry.step before middle.classes is of ok (makes (places_of pair) entry.worker entry.step before middle step.2) in
    let later = no_later_split pair k rest middle after (after_event pair k entry.worker entry.step before middle step.2 ok is) (subst (AreOfGreatest pair k) (sym here.0) of) further in
    (later.0 ∙ here.0, sum_by-cons (λ (e : Entry). one (is_split e.step)) entry rest ∙ ap₂ (λ (x y : ℕ). x + y) (ap one here.1) later.1)

-- two legal lists from openings with the same phases, after which Done fits, have the same classes
pub same_end : (pair : Pair) (k : ℕ) (xs ys : List Entry) (a a' b b' : State) → IsSupported pair k a → IsSupported pair k b → a.classes.phase ≡ b.classes.phase
    → Leads pair k a xs a' → Leads pair k b ys b' → AllCounted (places_of pair) a' → AllCounted (places_of pair) b' → a'.classes ≡ b'.classes
same_end pair k xs ys a a' b b' is_a is_b phase leads_a leads_b done_a done_b =
    let sa = always_supported pair k xs a a' leads_a is_a in
    let sb = always_supported pair k ys b b' leads_b is_b in
    same_of_greatest pair k a'.classes b'.classes sa.partition sb.partition (phases_stay pair k xs a a' leads_a ∙ phase ∙ sym (phases_stay pair k ys b b' leads_b)) (done_is_greatest pair k a' sa done_a) (done_is_greatest pair k b' sb done_b)

-- and from whatever openings, classes that are alike
pub alike_end : (pair : Pair) (k : ℕ) (xs ys : List Entry) (a a' b b' : State) → IsSupported pair k a → IsSupported pair k b
    → Leads pair k a xs a' → Leads pair k b ys b' → AllCounted (places_of pair) a' → AllCounted (places_of pair) b' → AreAlike (places_of pair) a'.classes b'.classes
alike_end pair k xs ys a a' b b' is_a is_b leads_a leads_b done_a done_b =
    let sa = always_supported pair k xs a a' leads_a is_a in
    let sb = always_supported pair k ys b b' leads_b is_b in
    let of_a = done_is_greatest pair k a' sa done_a in
    let of_b = done_is_greatest pair k b' sb done_b in
    let other : Classes = record { least = b'.classes.least; phase = a'.classes.phase } in
    let is_other : ArePartition (places_of pair) other = record { least_len = sb.partition.least_len; phase_len = sa.partition.phase_len; lower = sb.partition.lower; fixed = sb.partition.fixed } in
    let same : a'.classes ≡ other = same_classes (places_of pair) a'.classes other sa.partition is_other refl
    (λ p q lp lq h. together_in_classes pair k b'.classes of_b.keeps p q (together_in_greatest pair k a'.classes of_a p q lp lq h))
    (λ p q lp lq h. together_in_classes pair k a'.classes of_a.keeps p q (together_in_greatest pair k b'.classes of_b p q lp lq h)) in (
      ap (λ (c : Classes). c.least) same,
      λ x y lx ly. (λ h. of_b.keeps x y (of_a.reaches x y lx ly h), λ h. of_a.keeps x y (of_b.reaches x y lx ly h)),
    )

-- two places that a split takes apart are together in no correspondence
pub split_apart : (pair : Pair) (k party : ℕ) (bits : List Bool) (n : ℕ) (before after : State) → IsSupported pair k before → IsAllowed pair k before (Split bits n) → Does (places_of pair) party (Split bits n) before after
    → (p q : ℕ) → (AreTogether after.classes p q → ⊥) → Together pair k p q → ⊥
split_apart pair k party bits n before after is ok does p q apart (sign, h) =
    taken_apart pair k before.classes bits after.classes (may_split_agrees pair k bits ok) is.keeps (makes (places_of pair) party (Split bits n) before after does).0 p q apart false sign h
