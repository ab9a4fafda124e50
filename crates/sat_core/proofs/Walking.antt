-- Steps of the walk down the trail, over all that analysis knows.
use Rattle.std.proofs.Common.{◌≡◌, ◌≤◌, ◌<◌, ◌+◌, ◌-◌, ℕ, Bool, true, false, List, [], ◌∷◌, ◌++◌, length, get_or, reverse, arith, sym, ◌∙◌, ap, subst}
use Rattle.cnf_store.specs.Codes.{neg}
use Rattle.sat_core.specs.declared.analysis.Analysis.{Analysis}
use Rattle.sat_guide.specs.declared.minimising.Minimiser.{Minimiser}
use Rattle.sat_core.specs.Analysis.{open_below, Counts, AreCounted, Ready, AreKnown, AreKept, State, Resolves, KeepsPlace, IsUnique, IsLowered, IsMinimised}
use Rattle.sat_core.proofs.Marking.{counts_step, past_start}
use Rattle.sat_core.proofs.Refuting.{ready_down, kept_first, kept_down, kept_resolve, kept_push, kept_end, state_down}

-- the level's first place is found: the walk goes on below its start
pub lowered_first : (db : List (List ℕ)) (lits : List ℕ) (a b : Analysis) (first : ℕ) → IsUnique db lits first a → AreCounted a.marks.start b.marks → b.marks.seen.items ≡ a.marks.seen.items → b.marks.start ≡ 0 → b.hints.items ≡ a.hints.items → b.learned.items ≡ []
    → IsLowered db lits a.marks.start first a.marks.start b
lowered_first db lits a b first u counted seen zero hints none =
    let start : ℕ = a.marks.start in
    let s = u.state in
    let le : start ≤ first = u.start in
    let w : first + 1 ≤ length lits = s.within in
    let step = counts_step a.marks.seen.items start first a.marks.above a.marks.below le u.seen s.counted in
    let one : a.marks.above ≡ 1 = u.one in
    let kept = kept_first lits a.marks.seen.items start first le u.seen (omega (arith, step.1.above)) u.resolved in
    let ready = ready_down db lits a.marks.seen.items start (first + 1) (reverse a.hints.items) (omega arith) s.ready in record {
      state = record {
        size = ap (λ (xs : List Bool). length xs) seen ∙ s.size;
        within = omega arith;
        counted = counted;
        ready = subst (λ (hs : List ℕ). Ready db lits b.marks.seen.items start (reverse hs)) (sym hints) (subst (λ (xs : List Bool). Ready db lits xs start (reverse a.hints.items)) (sym seen) ready);
        known = subst (AreKnown db) (sym hints) s.known;
      };
      kept = subst (AreKept lits b.marks.seen.items start first start) (sym none) (subst (λ (xs : List Bool). AreKept lits xs start first start []) (sym seen) kept);
      zero = zero;
      low = omega arith;
      top = le;
    }

-- unmarked places are passed
pub lowered_down : (db : List (List ℕ)) (lits : List ℕ) (start first i j : ℕ) (a : Analysis) → i < j → AreCounted (i + 1) a.marks → ((q : ℕ) → i < q → q < j → get_or a.marks.seen.items q false ≡ false) → IsLowered db lits start first j a → IsLowered db lits start first (i + 1) a
lowered_down db lits start first i j a lt counted none l = record {
  state = state_down db lits a (i + 1) j (omega arith) counted l.state;
  kept = kept_down lits a.marks.seen.items start first (i + 1) j a.learned.items (omega arith) (λ q le h. none q (omega arith) h) l.kept;
  zero = l.zero;
  low = let w = l.low in omega arith;
  top = l.top;
}

-- what is known of the literals that a clause can do without counts for nothing
pub lowered_other : (db : List (List ℕ)) (lits : List ℕ) (start first i : ℕ) (a : Analysis) (m : Minimiser) → IsLowered db lits start first i a → IsLowered db lits start first i (record a { minimiser = m })
lowered_other db lits start first i a m l = record {
  state = record { size = l.state.size; within = l.state.within; counted = l.state.counted; ready = l.state.ready; known = l.state.known };
  kept = l.kept;
  zero = l.zero;
  low = l.low;
  top = l.top;
}

-- a marked place is counted
pub some_left : (db : List (List ℕ)) (lits : List ℕ) (start first i : ℕ) (a : Analysis) → get_or a.marks.seen.items i false ≡ true → IsLowered db lits start first (i + 1) a → 0 < a.marks.above
some_left db lits start first i a is l =
    let zero : a.marks.start ≡ 0 = l.zero in
    (counts_step a.marks.seen.items a.marks.start i a.marks.above a.marks.below (omega arith) is l.state.counted).0

-- a marked place is resolved
pub lowered_resolve : (db : List (List ℕ)) (lits : List ℕ) (start first i : ℕ) (a b : Analysis) → IsLowered db lits start first (i + 1) a → Resolves db lits i a b → IsLowered db lits start first i b
lowered_resolve db lits start first i a b l r =
    let low : i + 1 ≤ start = l.low in let top : start ≤ first = l.top in record {
      state = r.state;
      kept = subst (AreKept lits b.marks.seen.items start first i) (sym r.learned) (kept_resolve lits a.marks.seen.items b.marks.seen.items start first i a.learned.items (omega arith) r.past r.here l.kept);
      zero = r.start ∙ l.zero;
      low = omega arith;
      top = top;
    }

-- or kept
pub lowered_keep : (db : List (List ℕ)) (lits : List ℕ) (start first i : ℕ) (a b : Analysis) → get_or a.marks.seen.items i false ≡ true → IsLowered db lits start first (i + 1) a → KeepsPlace lits i a b → IsLowered db lits start first i b
lowered_keep db lits start first i a b is l k =
    let s = l.state in
    let low : i + 1 ≤ start = l.low in
    let zero : a.marks.start ≡ 0 = l.zero in
    let step = counts_step a.marks.seen.items a.marks.start i a.marks.above a.marks.below (omega arith) is s.counted in
    let counted : Counts b.marks.seen.items b.marks.start i b.marks.above b.marks.below = record {
      above = subst (λ (xs : List Bool). open_below xs b.marks.start i ≡ b.marks.above) (sym k.seen) (subst (λ (n : ℕ). open_below a.marks.seen.items n i ≡ b.marks.above) (sym k.start) (step.1.above ∙ sym k.above));
      below = subst (λ (xs : List Bool). open_below xs 0 b.marks.start ≡ b.marks.below) (sym k.seen) (subst (λ (n : ℕ). open_below a.marks.seen.items 0 n ≡ b.marks.below) (sym k.start) (step.1.below ∙ sym k.below));
    } in
    let ready = ready_down db lits a.marks.seen.items i (i + 1) (reverse a.hints.items) (omega arith) s.ready in record {
      state = record {
        size = ap (λ (xs : List Bool). length xs) k.seen ∙ s.size;
        within = let w = s.within in omega arith;
        counted = counted;
        ready = subst (λ (hs : List ℕ). Ready db lits b.marks.seen.items i (reverse hs)) (sym k.hints) (subst (λ (xs : List Bool). Ready db lits xs i (reverse a.hints.items)) (sym k.seen) ready);
        known = subst (AreKnown db) (sym k.hints) s.known;
      };
      kept = subst (AreKept lits b.marks.seen.items start first i) (sym k.learned) (subst (λ (xs : List Bool). AreKept lits xs start first i (a.learned.items ++ neg (get_or lits i 0) ∷ [])) (sym k.seen)
          (kept_push lits a.marks.seen.items start first i a.learned.items (omega arith) is l.kept));
      zero = k.start ∙ zero;
      low = omega arith;
      top = l.top;
    }

-- no marked place is left
pub minimised : (db : List (List ℕ)) (lits : List ℕ) (start first i : ℕ) (a : Analysis) → a.marks.above ≡ 0 → IsLowered db lits start first i a → IsMinimised db lits start first a
minimised db lits start first i a none l =
    let s = l.state in
    let here : open_below a.marks.seen.items 0 i ≡ 0 = subst (λ (n : ℕ). open_below a.marks.seen.items n i ≡ 0) l.zero (s.counted.above ∙ none) in record {
      ready = ready_down db lits a.marks.seen.items 0 i (reverse a.hints.items) (omega arith) s.ready;
      known = s.known;
      kept = kept_end lits a.marks.seen.items start first i a.learned.items here l.kept;
    }

-- while more than one is counted, the place is past the start
pub past_decision : (db : List (List ℕ)) (lits : List ℕ) (i : ℕ) (a : Analysis) → a.marks.start ≤ i → get_or a.marks.seen.items i false ≡ true → 1 < a.marks.above → State db lits a (i + 1) → a.marks.start < i
past_decision db lits i a le is more s =
    let step = counts_step a.marks.seen.items a.marks.start i a.marks.above a.marks.below le is s.counted in
    past_start a.marks.seen.items a.marks.start i (a.marks.above - 1) step.1.above (omega arith)
