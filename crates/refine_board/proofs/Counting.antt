-- Pairs that are counted, place by place.
use Rattle.std.proofs.Common.{◌≡◌, ◌∙◌, ◌<◌, ◌+◌, ℕ, Bool, true, false, not, List, length, set, refl, ap, sym, subst, arith, ⊎_elim, slice_index_or, get_or-set_same, get_or-set_other}
use Rattle.std.proofs.lemmas.Bool.{cases_eq}
use Rattle.class_partition.specs.Classes.{IsNeeded, class_count, needed}
use Rattle.class_partition.specs.declared.classes.Needed.{Needed}
use Rattle.refine_board.specs.declared.marks.Mark.TheVariants.{Open, Out, Proved}
use Rattle.refine_board.specs.declared.journal.Step.TheVariants.{Counted, Offered}
use Rattle.verdict_stamp.specs.declared.used.Used.{Used}
use Rattle.refine_board.specs.States.{State, IsCountedAt, is_counted, called, cleared, marked, offered}
use Rattle.refine_board.specs.Schedules.{Does}
use Rattle.refine_board.specs.declared.answers.Cut.{Cut}
use Rattle.refine_board.specs.declared.answers.Cut.TheVariants as cut_as
use Rattle.refine_board.specs.Answers.{cut_step}
use Rattle.refine_board.specs.Running.{Running, Appends, AreCountedBelow}
use Rattle.circ_model.specs.Correspondence.{Separates}

pub counted_more : (places : ℕ) (board : State) (p : ℕ) → AreCountedBelow places board p → (IsNeeded places board.classes p → IsCountedAt board p) → AreCountedBelow places board (p + 1)
counted_more places board p below here m lt need = ⊎_elim
    (λ (e : m ≡ p). subst (IsCountedAt board) (sym e) (here (subst (IsNeeded places board.classes) e need)))
    (λ (ne : m ≡ p → ⊥). below m (omega arith) need)
    (cases_eq m p)

pub counted_step : (places party : ℕ) (p : Needed) (w : Used) (before after : State) → length before.marks ≡ places → Does places party (Counted p w) before after → AreCountedBelow places before p.member
    → (after.classes ≡ before.classes) × AreCountedBelow places after (p.member + 1)
counted_step places party p w before after len does below =
    let new : State = called party (cleared party (marked p.member (Proved p.rep w) before)) in
    let in_marks : p.member < length before.marks = omega (arith, len, does.0.0.0) in
    let at_new : AreCountedBelow places new (p.member + 1) = λ m lt need. ⊎_elim
    (λ (e : m ≡ p.member). ap (λ (i : ℕ). is_counted (slice_index_or (set before.marks p.member (Proved p.rep w)) i Open)) e ∙ ap is_counted (get_or-set_same before.marks p.member (Proved p.rep w) Open in_marks))
    (λ (ne : m ≡ p.member → ⊥). ap is_counted (get_or-set_other before.marks p.member m (Proved p.rep w) Open ne) ∙ below m (omega arith) need)
    (cases_eq m p.member) in
    (ap (λ (b : State). b.classes) does.1, subst (λ (b : State). AreCountedBelow places b (p.member + 1)) (sym does.1) at_new)

-- a pair that a party takes leaves those below it as they are
pub offered_below : (places party : ℕ) (p : Needed) (before after : State) → Does places party (Offered p) before after → AreCountedBelow places before p.member
    → (after.classes ≡ before.classes) × AreCountedBelow places after p.member
offered_below places party p before after does below =
    let new : State = called party (offered party p before) in
    let at_new : AreCountedBelow places new p.member = λ m lt need. ap is_counted (get_or-set_other before.marks p.member m Out Open (λ (e : m ≡ p.member). omega (arith, e, lt))) ∙ below m lt need in
    (ap (λ (b : State). b.classes) does.1, subst (λ (b : State). AreCountedBelow places b p.member) (sym does.1) at_new)

pub not_both : (a b : Bool) → a ≡ b → a ≡ not b → ⊥
not_both true true e f = cc
not_both true false e f = cc
not_both false true e f = cc
not_both false false e f = cc

-- a row that separates a pair of the classes splits them
pub cut_grows : (places party m : ℕ) (r : Cut) (bits : List Bool) (before after : Running) → Appends places before after party (cut_step r bits) → (r ≡ cut_as.Foreign → ⊥) → m < places → Separates bits (needed before.state.classes m)
    → class_count places before.state.classes < class_count places after.state.classes
cut_grows places party m (cut_as.Split n) bits before after ((inside, call, (classes, split, some, count, e)), entries) own lt apart =
    let same : after.state.classes ≡ classes = ap (λ (b : State). b.classes) e in
    let counts : class_count places after.state.classes ≡ class_count places classes = ap (class_count places) same in
    omega arith
cut_grows places party m cut_as.Already bits before after ((inside, call, (holds, e)), entries) own lt apart =
    absurd (not_both _ _ (holds m lt) apart)
cut_grows places party m cut_as.Foreign bits before after appends own lt apart = absurd (own refl)
