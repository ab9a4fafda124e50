-- The opening, frame by frame.
use Rattle.std.proofs.Common.{◌≡◌, ◌∙◌, ◌<◌, ◌≤◌, ◌+◌, ◌*◌, ℕ, zero, suc, Bool, true, false, List, [], ◌∷◌, ◌++◌, None, Some, length, map, replicate, slice_index, refl, ap, ap₂, sym, subst, arith, ⊎_elim, MatchBool, cond}
use Rattle.std.specs.List.{range_with_len}
use Rattle.std.proofs.lemmas.Bool.{cases_lt}
use Rattle.std.proofs.lemmas.List.{length-replicate, length_push, get_or_push, get_or_append_left, ext_get_or}
use Rattle.std.proofs.lemmas.List.FromFn.{length-map-range_with_len, get_or-map-range_with_len}
use Rattle.std.proofs.lemmas.List.Sums.{sum_by_push}
use Rattle.rand_core.specs.Pcg32Seed.{pcg32_seed}
use Rattle.rand_core.specs.Steps.{first_words}
use Rattle.rand_pcg.specs.Lcg.{Lcg}
use Rattle.rand_pcg.specs.Pcg.{pcg64, pcg64_of_seed}
use Rattle.circ_model.specs.Meaning.{Pair, bit, signed, inputs_at, latches_of, next_state, places_of, row, row_at, state_at}
use Rattle.circ_model.specs.Runs.{phases, quiet_run}
use Rattle.circ_model.proofs.Paths.{state_start, state_next}
use Rattle.circ_model.proofs.Rows.{length_row}
use Rattle.class_partition.specs.Classes.{Classes, ArePartition, class_count, one_class, relative}
use Rattle.class_partition.proofs.Finer.{AreFiner, still_together, two_apart}
use Rattle.sim_words.specs.Lanes.{lane}
use Rattle.sim_words.specs.Simulation.{IsStart, free_count, next_frame}
use Rattle.sim_words.specs.Stimulus.{after_words}
use Rattle.sim_words.specs.Wide.{WideSimulation, narrow, stripe}
use Rattle.verdict_stamp.specs.Versions.{Standing, first_version}
use Rattle.verdict_stamp.specs.WideSplits.{wide_splits}
use Rattle.verdict_stamp.specs.Opening.{seeded, free_words, input_words, start_in, inputs_in, opening_run, phased_bit, EqualIn, EqualBelow, AreOpened, AddsClasses, AreFramesThatAdd}
use Rattle.verdict_stamp.proofs.WideSplitting.{AreSplitByParts, HaveEqualParts, parts_are}

-- the words after m and then n words
pub after_both : (m n : ℕ) (g : Lcg) → after_words n (after_words m g) ≡ after_words (m + n) g
unfolding after_words
after_both zero n g = let e : n ≡ 0 + n = omega arith in ap (λ (k : ℕ). after_words k g) e
after_both (suc m) n g = after_both m n (pcg64 g).1 ∙ (let e : suc (m + n) ≡ suc m + n = omega arith in ap (λ (k : ℕ). after_words k g) e)

-- the run starts with the bits of the free words, and has the bits of each frame's words
starts : (pair : Pair) (j b : ℕ) → state_at pair (opening_run pair j b) 0 ≡ map (start_in pair j b) (range_with_len 0 (latches_of pair))
unfolding opening_run
starts pair j b = state_start pair (opening_run pair j b)

pub start_is : (pair : Pair) (j b : ℕ) (state : List Bool) → IsStart pair (lane b (stripe (free_count pair) j (free_words pair))) state → state ≡ state_at pair (opening_run pair j b) 0
start_is pair j b state is =
    ext_get_or false state (map (start_in pair j b) (range_with_len 0 (latches_of pair))) (is.size ∙ sym (length-map-range_with_len (start_in pair j b) 0 (latches_of pair)))
    (λ i lt. let short : i < latches_of pair = let n = is.size in omega arith in is.bits i short ∙ sym (get_or-map-range_with_len (start_in pair j b) 0 (latches_of pair) i i false short (omega arith)))
    ∙ sym (starts pair j b)

inputs_are : (pair : Pair) (j b t : ℕ) → t < 16 → inputs_at (opening_run pair j b) t ≡ inputs_in pair j b t
unfolding opening_run
inputs_are pair j b t lt = get_or-map-range_with_len (inputs_in pair j b) 0 16 t t [] lt (omega arith)

-- a frame with the run's state and inputs is that of the run
pub row_is : (pair : Pair) (j b t : ℕ) (state inputs : List Bool) → t < 16 → state ≡ state_at pair (opening_run pair j b) t → inputs ≡ inputs_in pair j b t → row pair state inputs ≡ row_at pair (opening_run pair j b) t
row_is pair j b t state inputs lt s i = ap₂ (row pair) s (i ∙ sym (inputs_are pair j b t lt))

pub next_is : (pair : Pair) (j b t : ℕ) (state inputs : List Bool) → t < 16 → state ≡ state_at pair (opening_run pair j b) t → inputs ≡ inputs_in pair j b t → next_state pair state inputs ≡ state_at pair (opening_run pair j b) (t + 1)
next_is pair j b t state inputs lt s i =
    ap₂ (next_state pair) s (i ∙ sym (inputs_are pair j b t lt)) ∙ sym (state_next pair (opening_run pair j b) t) ∙ ap (state_at pair (opening_run pair j b)) (let e : suc t ≡ t + 1 = omega arith in e)

-- before frame 0 all places are together
all_zero : (n p : ℕ) → slice_index (replicate n 0) p ≡ 0
all_zero zero p = refl
all_zero (suc n) zero = refl
all_zero (suc n) (suc p) = all_zero n p

one_partition : (pair : Pair) → ArePartition (places_of pair) (one_class (phases pair))
one_partition pair =
    let n : length (phases pair) ≡ places_of pair = length_row pair (quiet_run pair 1) 0 in
    record {
      least_len = length-replicate (length (phases pair)) 0 ∙ n;
      phase_len = n;
      lower = λ p lt. let z = all_zero (length (phases pair)) p in omega arith;
      fixed = λ p lt. all_zero (length (phases pair)) (slice_index (replicate (length (phases pair)) 0) p) ∙ sym (all_zero (length (phases pair)) p);
    }

opened_none : (pair : Pair) → AreOpened pair 0 (one_class (phases pair))
opened_none pair = record {
  partition = one_partition pair;
  phase = refl;
  together = λ p q lp lq. (λ h t lt. absurd (omega arith), λ h. all_zero (length (phases pair)) p ∙ sym (all_zero (length (phases pair)) q));
}

frames_none : (pair : Pair) → AreFramesThatAdd pair 0 0
frames_none pair = ([], refl, λ t lt. absurd (omega arith), refl)

-- a frame's words are those of the runs
abbrev pub AreRows : Pair → ℕ → List ℕ → Type 0
AreRows pair t words = (j b : ℕ) → j < 8 → b < 64 → lane b (stripe (places_of pair) j words) ≡ row_at pair (opening_run pair j b) t

phased_is : (pair : Pair) (t : ℕ) (before : Classes) (words : List ℕ) (j b x : ℕ) → before.phase ≡ phases pair → lane b (stripe (places_of pair) j words) ≡ row_at pair (opening_run pair j b) t
    → relative before (lane b (stripe (places_of pair) j words)) x ≡ phased_bit pair j b t x
phased_is pair t before words j b x phase e = ap₂ (λ (f r : List Bool). signed (bit f x) (bit r x)) phase e

-- equal bits in them
equal_in : (pair : Pair) (t : ℕ) (before : Classes) (words : List ℕ) (p q : ℕ) → before.phase ≡ phases pair → AreRows pair t words → HaveEqualParts (places_of pair) 8 words before p q → EqualIn pair t p q
equal_in pair t before words p q phase rows h j b lt less = sym (phased_is pair t before words j b p phase (rows j b lt less)) ∙ h j b lt less ∙ phased_is pair t before words j b q phase (rows j b lt less)

equal_bits : (pair : Pair) (t : ℕ) (before : Classes) (words : List ℕ) (p q : ℕ) → before.phase ≡ phases pair → AreRows pair t words → EqualIn pair t p q → HaveEqualParts (places_of pair) 8 words before p q
equal_bits pair t before words p q phase rows h j b lt less = phased_is pair t before words j b p phase (rows j b lt less) ∙ h j b lt less ∙ sym (phased_is pair t before words j b q phase (rows j b lt less))

below_more : (pair : Pair) (t p q : ℕ) → EqualBelow pair t p q → EqualIn pair t p q → EqualBelow pair (t + 1) p q
below_more pair t p q below here s lt = ⊎_elim (λ (less : s < t). below s less) (λ (ge : t ≤ s). let e : s ≡ t = omega arith in subst (λ (x : ℕ). EqualIn pair x p q) (sym e) here) (cases_lt s t)

pub opened_more : (pair : Pair) (t : ℕ) (before : Classes) (words : List ℕ) (after : Classes) → AreOpened pair t before → AreRows pair t words → after ≡ wide_splits 8 (places_of pair) before words → AreOpened pair (t + 1) after
opened_more pair t before words after is rows e =
    let split = subst (AreSplitByParts 8 (places_of pair) before words) (sym e) (parts_are 8 (places_of pair) before words is.partition) in
    record {
      partition = split.partition;
      phase = split.phase ∙ is.phase;
      together = λ p q lp lq. (
        λ h.
            let parts = (split.together p q lp lq).0 h in
            below_more pair t p q ((is.together p q lp lq).0 parts.0) (equal_in pair t before words p q is.phase rows parts.1),
        λ h. (split.together p q lp lq).1 ((is.together p q lp lq).1 (λ s lt. h s (omega arith)), equal_bits pair t before words p q is.phase rows (h t (omega arith))),
      );
    }

-- whether the frame adds classes
finer : (pair : Pair) (t : ℕ) (before after : Classes) → AreOpened pair t before → AreOpened pair (t + 1) after → AreFiner (places_of pair) before after
finer pair t before after is now = record {
  was = is.partition;
  partition = now.partition;
  phase = now.phase ∙ sym is.phase;
  apart = λ p q lp lq h. (is.together p q lp lq).1 (λ s lt. (now.together p q lp lq).0 h s (omega arith));
}

adds_some : (pair : Pair) (t : ℕ) (before after : Classes) → AreOpened pair t before → AreOpened pair (t + 1) after → class_count (places_of pair) before < class_count (places_of pair) after → AddsClasses pair t
adds_some pair t before after is now more =
    let two = two_apart (places_of pair) before after (finer pair t before after is now) more in
    let p : ℕ = two.0 in
    let q : ℕ = two.1 in
    let below : EqualBelow pair t p q = (is.together p q two.2 two.3).0 two.4 in
    (p, q, two.2, two.3, below, λ (here : EqualIn pair t p q). two.5 ((now.together p q two.2 two.3).1 (below_more pair t p q below here)))

adds_none : (pair : Pair) (t : ℕ) (before after : Classes) → AreOpened pair t before → AreOpened pair (t + 1) after → class_count (places_of pair) after ≡ class_count (places_of pair) before → AddsClasses pair t → ⊥
adds_none pair t before after is now same (p, q, lp, lq, below, apart) =
    let still = still_together (places_of pair) before after (finer pair t before after is now) same p q lp lq ((is.together p q lp lq).1 below) in
    apart ((now.together p q lp lq).0 still t (omega arith))

push : (pair : Pair) (t number : ℕ) (x : Bool) → AreFramesThatAdd pair t number → MatchBool x (AddsClasses pair t) (AddsClasses pair t → ⊥) → AreFramesThatAdd pair (t + 1) (number + cond x 1 0)
push pair t number x (adds, size, each, count) here = (
  adds ++ x ∷ [],
  length_push adds x ∙ ap (λ (n : ℕ). n + 1) size,
  λ s lt. ⊎_elim
      (λ (less : s < t). subst (λ (y : Bool). MatchBool y (AddsClasses pair s) (AddsClasses pair s → ⊥)) (sym (get_or_append_left adds (x ∷ []) false s (omega arith))) (each s less))
      (λ (ge : t ≤ s).
      let e : s ≡ t = omega arith in
      subst (λ (y : Bool). MatchBool y (AddsClasses pair s) (AddsClasses pair s → ⊥)) (sym (get_or_push adds x false s (omega arith))) (subst (λ (z : ℕ). MatchBool x (AddsClasses pair z) (AddsClasses pair z → ⊥)) (sym e) here))
      (cases_lt s t),
  sum_by_push (λ (b : Bool). cond b 1 0) adds x ∙ ap (λ (n : ℕ). n + cond x 1 0) count,
)

pub frames_more : (pair : Pair) (t : ℕ) (before after : Classes) (added number next : ℕ) → AreOpened pair t before → AreOpened pair (t + 1) after → class_count (places_of pair) after ≡ class_count (places_of pair) before + added
    → (0 < added → next ≡ number + 1) → (added ≡ 0 → next ≡ number) → AreFramesThatAdd pair t number → AreFramesThatAdd pair (t + 1) next
frames_more pair t before after zero number next is now count some none frames =
    subst (AreFramesThatAdd pair (t + 1)) (let e = none refl in omega arith) (push pair t number false frames (adds_none pair t before after is now (omega arith)))
frames_more pair t before after (suc added) number next is now count some none frames =
    subst (AreFramesThatAdd pair (t + 1)) (sym (some (omega arith))) (push pair t number true frames (adds_some pair t before after is now (omega arith)))

-- what holds before frame t
pub record IsBefore (pair : Pair) (k t : ℕ) (version : Standing) (sim : WideSimulation) (stimulus : Lcg) (inputs : List ℕ) : Type 0 where
  pub of_pair : version.pair ≡ pair
  pub of_k : version.k ≡ k
  pub sim_of : sim.pair ≡ pair
  pub frame : next_frame sim.frame ≡ t
  pub size : length inputs ≡ 8 * length pair.left.inputs
  pub states : (j b : ℕ) → j < 8 → b < 64 → lane b (narrow sim j).state ≡ state_at pair (opening_run pair j b) t
  pub words : stimulus ≡ after_words (8 * free_count pair + t * (8 * length pair.left.inputs)) seeded
  pub opened : AreOpened pair t version.classes
  pub frames : AreFramesThatAdd pair t version.number

seeded_is : pcg64_of_seed (pcg32_seed 32 1) ≡ seeded
unfolding seeded
seeded_is = refl

pub begins : (pair : Pair) (k : ℕ) (version : Standing) (start sim : WideSimulation) (source stimulus : Lcg) (given free inputs : List ℕ) → version ≡ first_version pair k → start.pair ≡ pair → sim.pair ≡ start.pair → sim.frame ≡ None
    → source ≡ pcg64_of_seed (pcg32_seed 32 1) → length given ≡ 8 * free_count pair → free ≡ first_words pcg64 (length given) source → stimulus ≡ after_words (length given) source
    → ((j b : ℕ) → j < 8 → b < 64 → IsStart start.pair (lane b (stripe (free_count start.pair) j free)) (lane b (narrow sim j).state)) → length inputs ≡ 8 * length pair.left.inputs → IsBefore pair k 0 version sim stimulus inputs
begins pair k version start sim source stimulus given free inputs first of_pair stays none seed count words after starts size =
    let from : source ≡ seeded = seed ∙ seeded_is in
    let free_is : free ≡ free_words pair = words ∙ ap₂ (first_words pcg64) count from in
    let zero_more : 8 * free_count pair ≡ 8 * free_count pair + 0 * (8 * length pair.left.inputs) = omega arith in
    record {
      of_pair = ap (λ (v : Standing). v.pair) first;
      of_k = ap (λ (v : Standing). v.k) first;
      sim_of = stays ∙ of_pair;
      frame = ap next_frame none;
      size = size;
      states = λ j b lt less.
          let state : List Bool = lane b (narrow sim j).state in
          start_is pair j b state (subst (λ (ws : List ℕ). IsStart pair (lane b (stripe (free_count pair) j ws)) state) free_is (subst (λ (p : Pair). IsStart p (lane b (stripe (free_count p) j free)) state) of_pair (starts j b lt less)));
      words = after ∙ ap₂ after_words (count ∙ zero_more) from;
      opened = subst (λ (v : Standing). AreOpened pair 0 v.classes) (sym first) (opened_none pair);
      frames = subst (λ (v : Standing). AreFramesThatAdd pair 0 v.number) (sym first) (frames_none pair);
    }

more_words : (f t n : ℕ) → (f + t * n) + n ≡ f + (t + 1) * n
more_words f t n = grind arith

pub goes_on : (pair : Pair) (k t : ℕ) (version next : Standing) (sim stepped : WideSimulation) (stimulus after : Lcg) (inputs given next_inputs : List ℕ) (added : ℕ) → t < 16 → IsBefore pair k t version sim stimulus inputs
    → given ≡ first_words pcg64 (length inputs) stimulus → after ≡ after_words (length inputs) stimulus → next_inputs ≡ given → length given ≡ length inputs → stepped.pair ≡ sim.pair → stepped.frame ≡ Some (next_frame sim.frame)
    → ((j b : ℕ) → j < 8 → b < 64 → lane b (narrow stepped j).words ≡ row sim.pair (lane b (narrow sim j).state) (lane b (stripe (length sim.pair.left.inputs) j given)))
    → ((j b : ℕ) → j < 8 → b < 64 → lane b (narrow stepped j).state ≡ next_state sim.pair (lane b (narrow sim j).state) (lane b (stripe (length sim.pair.left.inputs) j given)))
    → next.pair ≡ version.pair → next.k ≡ version.k → next.classes ≡ wide_splits 8 (places_of version.pair) version.classes stepped.words
    → class_count (places_of version.pair) next.classes ≡ class_count (places_of version.pair) version.classes + added → (0 < added → next.number ≡ version.number + 1) → (added ≡ 0 → next ≡ version)
    → IsBefore pair k (t + 1) next stepped after next_inputs
goes_on pair k t version next sim stepped stimulus after inputs given next_inputs added lt is words more_after same len of_sim frame rows states of_pair of_k split count some none =
    let given_is : given ≡ input_words pair t = words ∙ ap₂ (first_words pcg64) is.size is.words in
    let part_is : (j b : ℕ) → lane b (stripe (length sim.pair.left.inputs) j given) ≡ inputs_in pair j b t = λ j b. ap₂ (λ (p : Pair) (ws : List ℕ). lane b (stripe (length p.left.inputs) j ws)) is.sim_of given_is in
    let stepped_of : places_of stepped.pair ≡ places_of pair = ap places_of (of_sim ∙ is.sim_of) in
    let lanes : AreRows pair t stepped.words =
    λ j b low less.
    ap (λ (n : ℕ). lane b (stripe n j stepped.words)) (sym stepped_of) ∙ rows j b low less ∙ ap (λ (p : Pair). row p (lane b (narrow sim j).state) (lane b (stripe (length sim.pair.left.inputs) j given))) is.sim_of
    ∙ row_is pair j b t (lane b (narrow sim j).state) (lane b (stripe (length sim.pair.left.inputs) j given)) lt (is.states j b low less) (part_is j b) in
    let opened : AreOpened pair (t + 1) next.classes = opened_more pair t version.classes stepped.words next.classes is.opened lanes (subst (λ (p : Pair). next.classes ≡ wide_splits 8 (places_of p) version.classes stepped.words) is.of_pair split) in
    let width : ℕ = 8 * length pair.left.inputs in
    record {
      of_pair = of_pair ∙ is.of_pair;
      of_k = of_k ∙ is.of_k;
      sim_of = of_sim ∙ is.sim_of;
      frame = ap next_frame frame ∙ ap (λ (n : ℕ). n + 1) is.frame;
      size = ap length same ∙ len ∙ is.size;
      states = λ j b low less.
          states j b low less ∙ ap (λ (p : Pair). next_state p (lane b (narrow sim j).state) (lane b (stripe (length sim.pair.left.inputs) j given))) is.sim_of
          ∙ next_is pair j b t (lane b (narrow sim j).state) (lane b (stripe (length sim.pair.left.inputs) j given)) lt (is.states j b low less) (part_is j b);
      words = more_after ∙ ap₂ after_words is.size is.words ∙ after_both (8 * free_count pair + t * width) width seeded ∙ ap (λ (n : ℕ). after_words n seeded) (more_words (8 * free_count pair) t width);
      opened = opened;
      frames = frames_more pair t version.classes next.classes added version.number next.number is.opened opened
          (subst (λ (p : Pair). class_count (places_of p) next.classes ≡ class_count (places_of p) version.classes + added) is.of_pair count) some (λ z. ap (λ (v : Standing). v.number) (none z)) is.frames;
    }
