-- Lanes as runs: where they start, and how a step makes a run one frame longer.
use Rattle.std.proofs.Common.{◌≡◌, ◌∙◌, ◌<◌, ◌≤◌, ◌+◌, ◌-◌, ℕ, zero, suc, List, [], ◌∷◌, Bool, true, false, Option, Some, None, length, map, take, get_or, refl, ap, ap₂, sym, subst, arith}
use Rattle.std.specs.Prelude.{count_by, IsTrue, ◌&&◌, not}
use Rattle.std.proofs.lemmas.List.{length-map, get_or-set_same, get_or-set_other, ext_get_or, get_or-map, get_or-append_right, get_or_append_left}
use Rattle.std.proofs.lemmas.List.Elements.{All-cons, All-nil}
use Rattle.std.proofs.Common.{length-append, set, replicate, ◌≢◌, ⊎_elim}
use Rattle.std.proofs.lemmas.Bool.{cases_eq, lt-ltb, le-ltb}
use Rattle.sim_words.proofs.Counting.{by_side, and_false, take_append_left}
use Rattle.circ_model.proofs.FreeLatches.{IsFreeLatch, length_own_resets, listed_latch}
use Rattle.circ_model.specs.declared.netlist.Reset.{Reset}
use Rattle.circ_model.specs.declared.netlist.Reset.TheVariants.{Zero, One, Free}
use Rattle.circ_model.specs.Meaning.{bit, is_free, own_resets, Pair, Path, IsRun, StartsTied, IsInputRow, MayStartAt, latches_of, resets, row, next_state, state_at, inputs_at}
use Rattle.circ_model.specs.Runs.{first_bit}
use Rattle.circ_model.specs.Laws.{extended}
use Rattle.circ_model.proofs.Paths.{length_resets, left_reset_at, right_reset_at, extended_is_run, state_same, state_next, state_start}
use Rattle.sim_words.specs.Lanes.{lane, lane_bit}
use Rattle.sim_words.proofs.Lanes.{lane_at, lane_zero}
use Rattle.sim_words.proofs.Frames.{length_lane}
use Rattle.sim_words.specs.Simulation.{IsLane, IsLastFrame, IsStart, start_bit, free_before, next_frame}

-- the first i latches have started
abbrev pub AreStarted : Pair → List ℕ → ℕ → List ℕ → Type 0
AreStarted pair free i state = (b : ℕ) → b < 64 → (k : ℕ) → k < i → lane_bit b (get_or state k 0) ≡ start_bit (get_or (resets pair) k Free) (bit (lane b free) (free_before pair k))

pub started_more : (pair : Pair) (free state : List ℕ) (i w : ℕ) → i < length state → ((b : ℕ) → b < 64 → lane_bit b w ≡ start_bit (get_or (resets pair) i Free) (bit (lane b free) (free_before pair i)))
    → AreStarted pair free i state → AreStarted pair free (i + 1) (set state i w)
started_more pair free state i w within word done b lt k less = ⊎_elim
    (λ (s : k ≡ i). rw s (ap (lane_bit b) (get_or-set_same state i w 0 within) ∙ word b lt))
    (λ (n : k ≢ i). ap (lane_bit b) (get_or-set_other state i k w 0 n) ∙ done b lt k (omega arith))
    (cases_eq k i)

pub start_all : (pair : Pair) (free state : List ℕ) (i b : ℕ) → latches_of pair ≤ i → length state ≡ latches_of pair → AreStarted pair free i state → b < 64 → IsStart pair (lane b free) (lane b state)
start_all pair free state i b end size done lt = record {
  size = length_lane b state ∙ size;
  bits = λ k less. lane_at b state k ∙ done b lt k (omega arith);
}

may_start : (r : Reset) (b : Bool) → MayStartAt r (start_bit r b)
may_start Zero b = refl
may_start One b = refl
may_start Free b = tt

-- the j-th free latch of each side of a tied pair has word j
left_word : (pair : Pair) (i j : ℕ) → IsFreeLatch pair.left i j → free_before pair i ≡ j
left_word pair i j latch =
    let within = latch.within in
    ap (λ (low : Bool). by_side pair i (pair.tied && not low)) (lt-ltb i (length pair.left.latches) within) ∙ ap (by_side pair i) (and_false pair.tied)
    ∙ ap (count_by is_free) (take_append_left i (own_resets pair.left) (own_resets pair.right) (omega (arith, length_own_resets pair.left))) ∙ latch.before

right_word : (pair : Pair) (k j : ℕ) → IsTrue pair.tied → IsFreeLatch pair.right k j → free_before pair (length pair.left.latches + k) ≡ j
right_word pair k j tied latch =
    let i : ℕ = length pair.left.latches + k in
    ap (λ (low : Bool). by_side pair i (pair.tied && not low)) (le-ltb i (length pair.left.latches) (omega arith)) ∙ ap (λ (on : Bool). by_side pair i (on && true)) tied
    ∙ ap (λ (n : ℕ). count_by is_free (take n (own_resets pair.right))) (let e : i - length pair.left.latches ≡ k = omega arith in e) ∙ latch.before

-- free latches start with their bits
free_start : (pair : Pair) (free state : List Bool) (i j : ℕ) → IsStart pair free state → i < latches_of pair → get_or (resets pair) i Free ≡ Free → free_before pair i ≡ j → bit state i ≡ bit free j
free_start pair free state i j h lt e number = h.bits i lt ∙ ap₂ (λ (r : Reset) (n : ℕ). start_bit r (bit free n)) e number

start_ties : (pair : Pair) (free state : List Bool) → IsStart pair free state → IsTrue pair.tied → StartsTied pair (record { start = state; inputs = [] })
start_ties pair free state h tied j lt less =
    let (m, left) = listed_latch pair.left j lt in
    let (k, right) = listed_latch pair.right j less in
    ap (bit state) left.is ∙ free_start pair free state m j h (omega (arith, left.within)) (left_reset_at pair m left.within ∙ left.free) (left_word pair m j left)
    ∙ sym (ap (λ (n : ℕ). bit state (length pair.left.latches + n)) right.is ∙ free_start pair free state (length pair.left.latches + k) j h (omega (arith, right.within)) (right_reset_at pair k ∙ right.free) (right_word pair k j tied right))

-- a state after a reset is one in which a run starts
pub start_is_run : (pair : Pair) (free state : List Bool) → IsStart pair free state → IsRun pair (record { start = state; inputs = [] })
start_is_run pair free state h = record {
  is_path = record { start = h.size; inputs = All-nil (IsInputRow pair) };
  reset = λ i lt. subst (MayStartAt (get_or (resets pair) i Free)) (sym (h.bits i (let s = h.size in omega arith))) (may_start (get_or (resets pair) i Free) (bit free (free_before pair i)));
  ties = start_ties pair free state h;
}

pub zeros_at : (n k : ℕ) → ◌≡◌ {A = ℕ} (get_or (replicate n 0) k 0) 0
zeros_at zero k = refl
zeros_at (suc n) zero = refl
zeros_at (suc n) (suc k) = zeros_at n k

-- lanes of zeros
pub zero_lane : (b n k : ℕ) (ws : List ℕ) → ws ≡ replicate n 0 → bit (lane b ws) k ≡ false
zero_lane b n k ws e = lane_at b ws k ∙ ap (λ (l : List ℕ). lane_bit b (get_or l k 0)) e ∙ ap (lane_bit b) (zeros_at n k) ∙ lane_zero b

start_first : (r : Reset) (b : Bool) → b ≡ false → start_bit r b ≡ first_bit r
start_first Zero b e = refl
start_first One b e = refl
start_first Free b e = e

-- where all free bits are 0 it is the start of the quiet run
pub start_is_first : (pair : Pair) (free state : List Bool) → ((k : ℕ) → bit free k ≡ false) → IsStart pair free state → state ≡ map first_bit (resets pair)
start_is_first pair free state zeros h =
    let n = length_resets pair in
    ext_get_or false state (map first_bit (resets pair)) (h.size ∙ sym n ∙ sym (length-map (resets pair) first_bit))
    (λ i lt. let within : i < latches_of pair = (let s = h.size in omega arith) in
    h.bits i within ∙ start_first (get_or (resets pair) i Free) (bit free (free_before pair i)) (zeros (free_before pair i))
    ∙ sym (get_or-map first_bit (resets pair) i Free false (omega arith)))

one_more : (pair : Pair) (run : Path) (inputs : List Bool) (t : ℕ) → length run.inputs ≡ t → inputs_at (extended run (inputs ∷ [])) t ≡ inputs
one_more pair run inputs t len =
    get_or-append_right run.inputs (inputs ∷ []) t t [] len (omega arith) ∙ ap (λ (k : ℕ). get_or (inputs ∷ []) k []) (let e : t - t ≡ 0 = omega arith in e)

state_kept : (pair : Pair) (run : Path) (inputs : List Bool) (t : ℕ) → length run.inputs ≡ t → state_at pair (extended run (inputs ∷ [])) t ≡ state_at pair run t
state_kept pair run inputs t len = state_same pair (extended run (inputs ∷ [])) run t refl (λ i lt. get_or_append_left run.inputs (inputs ∷ []) [] i (omega arith))

-- a run with one row of inputs more
pub longer : (pair : Pair) (run : Path) (t : ℕ) (state inputs after bits : List Bool) → IsRun pair run → length run.inputs ≡ t → state ≡ state_at pair run t → length inputs ≡ length pair.left.inputs
    → bits ≡ row pair state inputs → after ≡ next_state pair state inputs → IsLastFrame pair t after bits
longer pair run t state inputs after bits is len e size r n = record {
  run = extended run (inputs ∷ []);
  is_run = extended_is_run pair run (inputs ∷ []) is (All-cons (IsInputRow pair) inputs [] size (All-nil (IsInputRow pair)));
  rows = omega (arith, length-append run.inputs (inputs ∷ []));
  row = r ∙ sym (ap₂ (row pair) (state_kept pair run inputs t len ∙ sym e) (one_more pair run inputs t len));
  next = n ∙ sym (ap₂ (next_state pair) (state_kept pair run inputs t len ∙ sym e) (one_more pair run inputs t len)) ∙ sym (state_next pair (extended run (inputs ∷ [])) t)
      ∙ ap (state_at pair (extended run (inputs ∷ []))) (let s : suc t ≡ t + 1 = omega arith in s);
}

-- a step makes each lane one frame longer
pub lane_steps : (pair : Pair) (frame : Option ℕ) (state old inputs after bits : List Bool) → IsLane pair frame state old → length inputs ≡ length pair.left.inputs
    → bits ≡ row pair state inputs → after ≡ next_state pair state inputs → IsLane pair (Some (next_frame frame)) after bits
lane_steps pair None state old inputs after bits is size r n =
    longer pair (record { start = state; inputs = [] }) 0 state inputs after bits is refl (sym (state_start pair (record { start = state; inputs = [] }))) size r n
lane_steps pair (Some t) state old inputs after bits is size r n = longer pair is.run (t + 1) state inputs after bits is.is_run is.rows is.next size r n
