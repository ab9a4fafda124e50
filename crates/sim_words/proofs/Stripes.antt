-- The words of one number among eights, and what a change of one eight is for them.
use Rattle.std.proofs.Common.{◌≡◌, ◌≢◌, ◌∙◌, ◌<◌, ◌≤◌, ◌+◌, ◌*◌, ◌/◌, ◌&&◌, ⊎_elim, ℕ, zero, suc, List, [], ◌∷◌, Bool, false, length, replicate, get_or, set, refl, ap, ap₂, sym, subst, arith}
use Rattle.std.proofs.lemmas.Bool.{cases_eq, cases_lt}
use Rattle.std.proofs.lemmas.List.{ext_get_or, length-set, get_or-set_same, get_or-set_other}
use Rattle.std.proofs.lemmas.List.FromFn.{length-map-range_with_len, get_or-map-range_with_len}
use Rattle.product_machine.specs.declared.cell.Cell.TheVariants.{Low, Product}
use Rattle.circ_model.proofs.Values.{literal_same}
use Rattle.circ_model.specs.declared.netlist.Reset.{Reset}
use Rattle.circ_model.specs.declared.netlist.Reset.TheVariants.{Zero, One, Free}
use Rattle.circ_model.specs.Meaning.{bit, literal_value, Pair, IsSoundPair, latches_of, places_of, resets}
use Rattle.product_machine.specs.Cells.{cells}
use Rattle.product_machine.specs.States.{nexts}
use Rattle.product_machine.proofs.OneRow.{IsFreeCell}
use Rattle.sim_words.specs.Lanes.{lane, lane_bit}
use Rattle.sim_words.specs.Simulation.{free_before, free_count, start_bit}
use Rattle.sim_words.specs.Wide.{stripe, wide_bit}
use Rattle.sim_words.proofs.Lanes.{lane_at, lane_zero}
use Rattle.sim_words.proofs.Frames.{IsFilled, AreNext, fill_begun, fill_low, fill_gate, fill_free}
use Rattle.sim_words.proofs.Runs.{AreStarted, started_more, zeros_at}

pub length_stripe : (n j : ℕ) (ws : List ℕ) → length (stripe n j ws) ≡ n
unfolding stripe
length_stripe n j ws = length-map-range_with_len (λ i. get_or ws (8 * i + j) 0) 0 n

pub stripe_at : (n j i : ℕ) (ws : List ℕ) → i < n → get_or (stripe n j ws) i 0 ≡ get_or ws (8 * i + j) 0
unfolding stripe
stripe_at n j i ws lt = get_or-map-range_with_len (λ i. get_or ws (8 * i + j) 0) 0 n i i 0 lt (omega arith)

-- a bit of a run
pub wide_lane : (n j b i : ℕ) (ws : List ℕ) → i < n → bit (lane b (stripe n j ws)) i ≡ wide_bit ws j b i
wide_lane n j b i ws lt = lane_at b (stripe n j ws) i ∙ ap (lane_bit b) (stripe_at n j i ws lt)

-- all others stand as before
abbrev pub KeepsOthers : ℕ → List ℕ → List ℕ → Type 0
KeepsOthers p ws vs = ((k : ℕ) → k < 8 * p → get_or vs k 0 ≡ get_or ws k 0) × ((k : ℕ) → 8 * p + 8 ≤ k → get_or vs k 0 ≡ get_or ws k 0)

pub stripe_changed : (n j p : ℕ) (ws vs : List ℕ) → j < 8 → p < n → KeepsOthers p ws vs → stripe n j vs ≡ set (stripe n j ws) p (get_or vs (8 * p + j) 0)
stripe_changed n j p ws vs small lt (below, above) =
    let w : ℕ = get_or vs (8 * p + j) 0 in
    ext_get_or 0 (stripe n j vs) (set (stripe n j ws) p w) (length_stripe n j vs ∙ sym (length-set (stripe n j ws) p w ∙ length_stripe n j ws)) (λ i less.
    let short : i < n = omega (arith, length_stripe n j vs) in
    stripe_at n j i vs short
    ∙ ⊎_elim
    (λ (e : i ≡ p). ap (λ (q : ℕ). get_or vs (8 * q + j) 0) e ∙ sym (rw e (get_or-set_same (stripe n j ws) p w 0 (omega (arith, length_stripe n j ws)))))
    (λ (other : i ≢ p).
    ⊎_elim (λ (low : i < p). below (8 * i + j) (omega arith)) (λ (high : p ≤ i). above (8 * i + j) (omega arith)) (cases_lt i p) ∙ sym (stripe_at n j i ws short) ∙ sym (get_or-set_other (stripe n j ws) p i w 0 other))
    (cases_eq i p))

-- for each number of eight the first p places are written
pub record AreFilled (pair : Pair) (begin : List ℕ) (p : ℕ) (words : List ℕ) : Type 0 where
  pub size : length words ≡ 8 * places_of pair
  pub each : (j : ℕ) → j < 8 → IsFilled pair (stripe (places_of pair) j begin) p (stripe (places_of pair) j words)

pub filled_begun : (pair : Pair) (words : List ℕ) → length words ≡ 8 * places_of pair → AreFilled pair words 0 words
filled_begun pair words size = record { size = size; each = λ j small. fill_begun pair (stripe (places_of pair) j words) (length_stripe (places_of pair) j words) }

pub filled_low : (pair : Pair) (begin words next : List ℕ) (p : ℕ) → IsSoundPair pair → p < places_of pair → get_or (cells pair) p Low ≡ Low → length next ≡ length words → ((j : ℕ) → j < 8 → get_or next (8 * p + j) 0 ≡ 0)
    → KeepsOthers p words next → AreFilled pair begin p words → AreFilled pair begin (p + 1) next
filled_low pair begin words next p is lt e size low others h = record {
  size = size ∙ h.size;
  each = λ j small.
      let n : ℕ = places_of pair in
      let changed : stripe n j next ≡ set (stripe n j words) p 0 = stripe_changed n j p words next small lt others ∙ ap (set (stripe n j words) p) (low j small) in
      subst (IsFilled pair (stripe n j begin) (p + 1)) (sym changed) (fill_low pair (stripe n j begin) (stripe n j words) p is lt e (h.each j small));
}

pub filled_gate : (pair : Pair) (begin words next : List ℕ) (p x y : ℕ) → IsSoundPair pair → p < places_of pair → get_or (cells pair) p Low ≡ Product x y → x / 2 < places_of pair → y / 2 < places_of pair → length next ≡ length words
    → ((j b : ℕ) → j < 8 → b < 64 → lane_bit b (get_or next (8 * p + j) 0) ≡ (literal_value (wide_bit words j b) x && literal_value (wide_bit words j b) y)) → KeepsOthers p words next → AreFilled pair begin p words → AreFilled pair begin (p + 1) next
filled_gate pair begin words next p x y is lt e left right size gate others h = record {
  size = size ∙ h.size;
  each = λ j small.
      let n : ℕ = places_of pair in
      subst (IsFilled pair (stripe n j begin) (p + 1)) (sym (stripe_changed n j p words next small lt others))
      (fill_gate pair (stripe n j begin) (stripe n j words) p x y (get_or next (8 * p + j) 0) is lt e
      (λ b less. gate j b small less ∙ ap₂ (λ (v w : Bool). v && w) (same j b x left) (same j b y right)) (h.each j small));
}
  where
    same : (j b lit : ℕ) → lit / 2 < places_of pair → literal_value (wide_bit words j b) lit ≡ literal_value (bit (lane b (stripe (places_of pair) j words))) lit
    same j b lit within = literal_same (wide_bit words j b) (bit (lane b (stripe (places_of pair) j words))) lit (sym (wide_lane (places_of pair) j b (lit / 2) words within))

pub filled_free : (pair : Pair) (begin words : List ℕ) (p : ℕ) → p < places_of pair → IsFreeCell (get_or (cells pair) p Low) → AreFilled pair begin p words → AreFilled pair begin (p + 1) words
filled_free pair begin words p lt free h = record { size = h.size; each = λ j small. fill_free pair (stripe (places_of pair) j begin) (stripe (places_of pair) j words) p lt free (h.each j small) }

-- for each number of eight the words of the first i latches are those of their next literals
abbrev pub AllNext : Pair → List ℕ → ℕ → List ℕ → Type 0
AllNext pair words i state = (j : ℕ) → j < 8 → AreNext pair (stripe (places_of pair) j words) i (stripe (latches_of pair) j state)

pub next_more : (pair : Pair) (words state after : List ℕ) (i : ℕ) → i < latches_of pair → get_or (nexts pair) i 0 / 2 < places_of pair
    → ((j b : ℕ) → j < 8 → b < 64 → lane_bit b (get_or after (8 * i + j) 0) ≡ literal_value (wide_bit words j b) (get_or (nexts pair) i 0)) → KeepsOthers i state after → AllNext pair words i state → AllNext pair words (i + 1) after
next_more pair words state after i lt within word others done j small b less k low =
    let n : ℕ = latches_of pair in
    let w : ℕ = get_or after (8 * i + j) 0 in
    ap (λ (ws : List ℕ). lane_bit b (get_or ws k 0)) (stripe_changed n j i state after small lt others)
    ∙ ⊎_elim
    (λ (e : k ≡ i). rw e (ap (lane_bit b) (get_or-set_same (stripe n j state) i w 0 (omega (arith, length_stripe n j state))) ∙ word j b small less
    ∙ literal_same (wide_bit words j b) (bit (lane b (stripe (places_of pair) j words))) (get_or (nexts pair) i 0) (sym (wide_lane (places_of pair) j b (get_or (nexts pair) i 0 / 2) words within))))
    (λ (other : k ≢ i). ap (lane_bit b) (get_or-set_other (stripe n j state) i k w 0 other) ∙ done j small b less k (omega arith))
    (cases_eq k i)

-- for each number of eight the first i latches have started
abbrev pub AllStarted : Pair → List ℕ → ℕ → List ℕ → Type 0
AllStarted pair free i state = (j : ℕ) → j < 8 → AreStarted pair (stripe (free_count pair) j free) i (stripe (latches_of pair) j state)

start_same : (r : Reset) (x y : Bool) → (r ≡ Free → x ≡ y) → start_bit r x ≡ start_bit r y
start_same Zero x y h = refl
start_same One x y h = refl
start_same Free x y h = h refl

pub all_started_more : (pair : Pair) (free state after : List ℕ) (i : ℕ) → i < latches_of pair → (get_or (resets pair) i Free ≡ Free → free_before pair i < free_count pair)
    → ((j b : ℕ) → j < 8 → b < 64 → lane_bit b (get_or after (8 * i + j) 0) ≡ start_bit (get_or (resets pair) i Free) (wide_bit free j b (free_before pair i))) → KeepsOthers i state after → AllStarted pair free i state → AllStarted pair free (i + 1) after
all_started_more pair free state after i lt within word others done j small =
    let n : ℕ = latches_of pair in
    let given : List ℕ = stripe (free_count pair) j free in
    subst (AreStarted pair given (i + 1)) (sym (stripe_changed n j i state after small lt others))
    (started_more pair given (stripe n j state) i (get_or after (8 * i + j) 0) (omega (arith, length_stripe n j state))
    (λ b less. word j b small less
    ∙ start_same (get_or (resets pair) i Free) (wide_bit free j b (free_before pair i)) (bit (lane b given) (free_before pair i)) (λ e. sym (wide_lane (free_count pair) j b (free_before pair i) free (within e))))
    (done j small))

-- zeros
pub wide_zero : (m n j b k : ℕ) (ws : List ℕ) → ws ≡ replicate m 0 → bit (lane b (stripe n j ws)) k ≡ false
wide_zero m n j b k ws e = ⊎_elim
    (λ (lt : k < n). wide_lane n j b k ws lt ∙ ap (λ (l : List ℕ). lane_bit b (get_or l (8 * k + j) 0)) e ∙ ap (lane_bit b) (zeros_at m (8 * k + j)) ∙ lane_zero b)
    (λ (ge : n ≤ k). lane_at b (stripe n j ws) k ∙ ap (lane_bit b) (get_or_past (stripe n j ws) k (omega (arith, length_stripe n j ws))) ∙ lane_zero b)
    (cases_lt k n)
  where
    get_or_past : (xs : List ℕ) (k : ℕ) → length xs ≤ k → get_or xs k 0 ≡ 0
    get_or_past [] k le = refl
    get_or_past (x ∷ xs) zero le = absurd (omega arith)
    get_or_past (x ∷ xs) (suc k) le = get_or_past xs k (omega arith)
