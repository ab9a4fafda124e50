use Rattle.std.proofs.Common.{◌≡◌, ◌≢◌, ◌∙◌, ◌<◌, ◌+◌, ◌-◌, ◌*◌, ◌/◌, ℕ, List, length, ap, sym, subst, arith}
use Rattle.std.proofs.lemmas.List.{get_or_default}
use Rattle.circ_model.specs.Meaning.{Pair, bit, literal_value, places_of, row_at}
use Rattle.product_machine.specs.declared.cell.Cell.TheVariants.{Held}
use Rattle.product_machine.specs.declared.cell.Start.{Start}
use Rattle.product_machine.specs.declared.cell.Start.TheVariants.{Like}
use Rattle.product_machine.specs.Cells.{IsBehind, StartsAs}
use Rattle.frame_graph.specs.Frames.{frame_of}
use Rattle.frame_graph.proofs.Positions.{rests_at}
use Rattle.frame_graph.proofs.Rows.{next_value, reset_fits}
use Rattle.frame_graph.proofs.Showing.{frame_before, shown_at}
use Rattle.frame_graph.proofs.own_literals.latch_literal.Goals as goal

pub literal_from-requires : goal.literal_from-requires
literal_from-requires c =
    let rests = rests_at c.args.frame.now.product.now c.args.p (Held c.args.start c.args.next) c.cells-cells.ensures.pair c.requires.place (sym c.requires.latch) in
    let before = frame_before c.args.frame.now.number (places_of c.args.frame.now.product.now) (omega arith) in
    omega (arith, rests.0, before, c.args.frame.now.begins, c.requires.literals, c.len.ensures.places)

pub returns-clause-within : goal.returns-clause-within
returns-clause-within c nodes room is =
    let rests = rests_at c.args.frame.now.product.now c.args.p (Held c.args.start c.args.next) c.cells-cells.ensures.pair c.requires.place (sym c.requires.latch) in
    let before = frame_before c.args.frame.now.number (places_of c.args.frame.now.product.now) (omega arith) in
    let within = is.at (c.args.frame.now.begin - c.len.result + c.args.next / 2) (omega (arith, rests.0, before, c.args.frame.now.begins, c.requires.literals, c.len.ensures.places)) in
    omega (arith, c.literal_from.ensures.place)

pub returns-clause-value : goal.returns-clause-value
returns-clause-value c path v is =
    let f = frame_of c.args.frame.now in
    let pair : Pair = c.args.frame.now.product.now in
    let literals : List ℕ = c.args.literals.now in
    let ne : f.number ≢ 0 = omega arith in
    let rests : c.args.next / 2 < places_of pair = (rests_at pair c.args.p (Held c.args.start c.args.next) c.cells-cells.ensures.pair c.requires.place (sym c.requires.latch)).0 in
    let before = frame_before f.number (places_of pair) ne in
    next_value f literals path v c.args.p c.args.next c.literal_from.result c.args.start c.cells-cells.ensures.pair c.requires.place c.requires.latch ne is
    (c.literal_from.ensures.value v (row_at pair path (f.number - 1))
    (shown_at pair literals path v (f.number - 1) (c.args.next / 2) (c.args.frame.now.begin - c.len.result + c.args.next / 2) is.shows rests
    (omega (arith, before, c.args.frame.now.begins, c.len.ensures.places)) (omega (arith, rests, before, c.args.frame.now.begins, c.requires.literals, c.len.ensures.places))))

-- the place as which the latch starts stands before it
behind : (pair : Pair) (p q : ℕ) (start : Start) → IsBehind p start → start ≡ Like q → q < p
behind pair p q start h e = let own : IsBehind p (Like q) = subst (IsBehind p) e h in own

first_place : (number places n p : ℕ) → number ≡ 0 → n ≡ number * places + p → n ≡ p
first_place number places n p e size = size ∙ ap (λ (k : ℕ). k * places + p) e ∙ omega arith

pub bounds-literals-q : goal.bounds-literals-q
bounds-literals-q c =
    let pair : Pair = c.args.frame.now.product.now in
    let rests = rests_at pair c.args.p (Held c.args.start c.args.next) c.cells-cells.ensures.pair c.requires.place (sym c.requires.latch) in
    let first : c.args.frame.now.number ≡ 0 = omega arith in
    omega (arith, behind pair c.args.p c.in-Like.q c.args.start rests.1 c.in-Like.is, first_place c.args.frame.now.number (places_of pair) (length c.args.literals.now) c.args.p first c.requires.literals)

pub returns-in-Like-clause-within : goal.returns-in-Like-clause-within
returns-in-Like-clause-within c nodes room is =
    let pair : Pair = c.args.frame.now.product.now in
    let rests = rests_at pair c.args.p (Held c.args.start c.args.next) c.cells-cells.ensures.pair c.requires.place (sym c.requires.latch) in
    let first : c.args.frame.now.number ≡ 0 = omega arith in
    let lt : c.in-Like.q < length c.args.literals.now =
    omega (arith, behind pair c.args.p c.in-Like.q c.args.start rests.1 c.in-Like.is, first_place c.args.frame.now.number (places_of pair) (length c.args.literals.now) c.args.p first c.requires.literals) in
    subst (λ (lit : ℕ). lit / 2 < length nodes) (sym (c.index-literals-q.is ∙ get_or_default c.args.literals.now c.in-Like.q c.index-literals-q.result 0 lt)) (is.at c.in-Like.q lt)

pub returns-in-Like-clause-value : goal.returns-in-Like-clause-value
returns-in-Like-clause-value c path v is =
    let f = frame_of c.args.frame.now in
    let pair : Pair = c.args.frame.now.product.now in
    let literals : List ℕ = c.args.literals.now in
    let rests = rests_at pair c.args.p (Held c.args.start c.args.next) c.cells-cells.ensures.pair c.requires.place (sym c.requires.latch) in
    let first : c.args.frame.now.number ≡ 0 = omega arith in
    let below = behind pair c.args.p c.in-Like.q c.args.start rests.1 c.in-Like.is in
    let size = first_place c.args.frame.now.number (places_of pair) (length literals) c.args.p first c.requires.literals in
    let lt : c.in-Like.q < length literals = omega arith in
    let like : StartsAs (bit (row_at pair path f.number)) c.args.p (Like c.in-Like.q) =
    subst (StartsAs (bit (row_at pair path f.number)) c.args.p) c.in-Like.is (reset_fits f literals path v c.args.p c.args.next c.args.start c.cells-cells.ensures.pair c.requires.place c.requires.latch first c.if-frame.true is) in
    ap (literal_value v) (c.index-literals-q.is ∙ get_or_default literals c.in-Like.q c.index-literals-q.result 0 lt)
    ∙ shown_at pair literals path v f.number c.in-Like.q c.in-Like.q is.shows (let place = c.requires.place in omega arith) (sym (ap (λ (k : ℕ). k * places_of pair + c.in-Like.q) first ∙ omega arith)) lt
    ∙ sym like

pub returns-then-frame-eq0-clause-value : goal.returns-then-frame-eq0-clause-value
returns-then-frame-eq0-clause-value c path v is = let first : c.args.frame.now.number ≡ 0 = omega arith in c.start_literal.ensures.value c.args.literals.now path v c.args.next c.requires.latch first is
