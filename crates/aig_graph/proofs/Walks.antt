-- One step of the walk: a gate is met, or a gate gets its level.
use Rattle.std.proofs.Common.{◌≡◌, ℕ, zero, suc, ◌+◌, ◌*◌, ◌-◌, ◌/◌, ◌<◌, ◌≤◌, ◌⊎◌, inl, inr, ap₂, max, Bool, true, false, cond, ltb, List, [], ◌∷◌, ◌++◌, length, take, set, map, get_or, refl, sym, ap, subst, ◌∙◌, arith, length-append, length-set, get_or-set_same, get_or-set_other}
use Rattle.std.specs.List.{sum_by}
use Rattle.std.proofs.lemmas.Bool.{cases_eq, cases_lt}
use Rattle.std.proofs.lemmas.List.{get_or-take, length-take, length-map, get_or_past}
use Rattle.std.proofs.lemmas.List.Sums.{sum_by-set, sum_by-le}
use Rattle.std.proofs.Math.ListN.{get_or-append, get_or-map}
use Rattle.std.proofs.Math.Seq.{get_or-append_seam}
use Rattle.std.proofs.lemmas.Bool.Decides.{nat_tests}
use Rattle.circ_model.specs.declared.netlist.Gate.{Gate}
use Rattle.aig_graph.specs.Walk.{gate_in, var_in, Uses, Fits, IsCyclic, Indexes, IsDone, steps, all_steps, unsettled, Levels, Way, Keeps, Meets, Walk, Turned, Between, IsLevels, first_level}

-- ---- the two weights

steps_done : (x : ℕ) → x < 4294967294 → steps x ≡ 0
steps_done x lt = grind (arith, nat_tests)

steps_way : (x : ℕ) → x ≡ 4294967294 → steps x ≡ 1
steps_way x e = grind (arith, nat_tests)

steps_new : (x : ℕ) → 4294967294 < x → steps x ≡ 2
steps_new x lt = grind (arith, nat_tests)

open_done : (x : ℕ) → x < 4294967294 → unsettled x ≡ 0
open_done x lt = grind (arith, nat_tests)

open_not : (x : ℕ) → 4294967294 ≤ x → unsettled x ≡ 1
open_not x le = grind (arith, nat_tests)

-- ---- no levels fit gates that wait for each other

falls : (gates : List Gate) (level stack : List ℕ) (f : ℕ → ℕ) → Way gates level stack → ((k : ℕ) → k < length gates → Fits f (gate_in gates k))
    → (d i n : ℕ) → i + d ≡ n → n < length stack → f (var_in gates (get_or stack n 0)) ≤ f (var_in gates (get_or stack i 0))
falls gates level stack f way fits zero i n e lt = let s : i ≡ n = omega arith in subst (λ (m : ℕ). f (var_in gates (get_or stack m 0)) ≤ f (var_in gates (get_or stack i 0))) s (omega arith)
falls gates level stack f way fits (suc d) i n e lt =
    let next = falls gates level stack f way fits d (i + 1) n (omega arith) lt in
    let uses = way.chain i (omega arith) in
    let fit = fits (get_or stack i 0) ((way.entry i (omega arith)).0) in
    below f (gate_in gates (get_or stack i 0)) (var_in gates (get_or stack (i + 1) 0)) (f (var_in gates (get_or stack n 0))) fit uses next
  where
    below : (f : ℕ → ℕ) (g : Gate) (v m : ℕ) → Fits f g → Uses g v → m ≤ f v → m ≤ f g.var
    below f g v m fit (inl e) le = let h : f v ≡ f (g.left / 2) = ap f e in omega arith
    below f g v m fit (inr e) le = let h : f v ≡ f (g.right / 2) = ap f e in omega arith

pub cyclic : (gates : List Gate) (level stack : List ℕ) (n v : ℕ) → Way gates level stack → length stack ≡ n + 1 → Uses (gate_in gates (get_or stack n 0)) v → get_or level v 0 ≡ 4294967294 → IsCyclic gates
cyclic gates level stack n v way len uses on = λ f fits.
    let at = way.found v on in
    let low = falls gates level stack f way fits (n - at.0) at.0 n (omega (arith, at.1)) (omega arith) in
    let same : f (var_in gates (get_or stack at.0 0)) ≡ f v = ap f at.2 in
    let fit = fits (get_or stack n 0) ((way.entry n (omega arith)).0) in
    elim uses [
      | inl e ↦ let h : f v ≡ f ((gate_in gates (get_or stack n 0)).left / 2) = ap f e in absurd (omega arith)
      | inr e ↦ let h : f v ≡ f ((gate_in gates (get_or stack n 0)).right / 2) = ap f e in absurd (omega arith)
    ]

-- ---- a write at a place

pub record Written (level : List ℕ) (v x : ℕ) : Type 0 where
  pub here : get_or (set level v x) v 0 ≡ x
  pub others : (w : ℕ) → (w ≡ v → ⊥) → get_or (set level v x) w 0 ≡ get_or level w 0

written : (level : List ℕ) (v x : ℕ) → v < length level → Written level v x
written level v x lt = record { here = get_or-set_same level v x 0 lt; others = λ w ne. get_or-set_other level v w x 0 ne }

-- done is not the place that isn't
apart : (level : List ℕ) (v w : ℕ) → 4294967294 ≤ get_or level v 0 → IsDone level w → w ≡ v → ⊥
apart level v w not_yet done e = let h : get_or level w 0 ≡ get_or level v 0 = ap (λ (k : ℕ). get_or level k 0) e in absurd (omega arith)

fits_same : (old new : List ℕ) (g : Gate) → get_or new g.var 0 ≡ get_or old g.var 0 → get_or new (g.left / 2) 0 ≡ get_or old (g.left / 2) 0 → get_or new (g.right / 2) 0 ≡ get_or old (g.right / 2) 0
    → Fits (λ v. get_or old v 0) g → Fits (λ v. get_or new v 0) g
fits_same old new g a b c fit = a ∙ fit ∙ ap₂ (λ (x y : ℕ). 1 + max x y) (sym b) (sym c)

-- a gate that was not met is on the way now
pub record Met (defs : List ℕ) (gates : List Gate) (level stack : List ℕ) (finished v k : ℕ) : Type 0 where
  pub levels : Levels defs gates (set level v 4294967294) finished
  pub way : Way gates (set level v 4294967294) (stack ++ k ∷ [])
  pub fewer : all_steps (set level v 4294967294) + 1 ≡ all_steps level
  pub keeps : Keeps level (set level v 4294967294)

pub met : (defs : List ℕ) (gates : List Gate) (level stack : List ℕ) (finished v k : ℕ) → Indexes defs gates → Levels defs gates level finished → Way gates level stack
    → get_or defs v 0 ≡ k + 2 → v < length level → 4294967294 < get_or level v 0 → ((i : ℕ) → i + 1 ≡ length stack → Uses (gate_in gates (get_or stack i 0)) v) → Met defs gates level stack finished v k
met defs gates level stack finished v k ix lv way def lt fresh uses =
    let w = written level v 4294967294 lt in
    let g = ix.gate v k def in
    let not_done : (x : ℕ) → IsDone level x → x ≡ v → ⊥ = λ x d. apart level v x (omega arith) d in
    let was_done : (x : ℕ) → IsDone (set level v 4294967294) x → (x ≡ v → ⊥) = λ x d e.
    let h : get_or (set level v 4294967294) x 0 ≡ 4294967294 = ap (λ (j : ℕ). get_or (set level v 4294967294) j 0) e ∙ w.here in absurd (omega arith) in
    let back : (x : ℕ) → IsDone (set level v 4294967294) x → IsDone level x = λ x d. subst (λ (n : ℕ). n < 4294967294) (w.others x (was_done x d)) d in
    let forth : (x : ℕ) → IsDone level x → IsDone (set level v 4294967294) x = λ x d. subst (λ (n : ℕ). n < 4294967294) (sym (w.others x (not_done x d))) d in
    let len : length (stack ++ k ∷ []) ≡ length stack + 1 = length-append stack (k ∷ []) in
    let old : (i : ℕ) → i < length stack → get_or (stack ++ k ∷ []) i 0 ≡ get_or stack i 0 = λ i h. get_or-append stack (k ∷ []) 0 i h in
    let last : get_or (stack ++ k ∷ []) (length stack) 0 ≡ k = get_or-append_seam stack k [] 0 in
    let not_v : (i : ℕ) → i < length stack → var_in gates (get_or stack i 0) ≡ v → ⊥ = λ i h e.
    let o = (way.entry i h).1 in let s : get_or level (var_in gates (get_or stack i 0)) 0 ≡ get_or level v 0 = ap (λ (j : ℕ). get_or level j 0) e in absurd (omega arith) in
    record {
      levels = record {
        len = length-set level v 4294967294 ∙ lv.len;
        small = λ x. elim (cases_eq x v) [
          | inl e ↦ let h : get_or (set level v 4294967294) x 0 ≡ 4294967294 = ap (λ (j : ℕ). get_or (set level v 4294967294) j 0) e ∙ w.here in omega arith
          | inr ne ↦ let h = w.others x ne in let s = lv.small x in omega arith
        ];
        leaf = λ x low. w.others x (λ e. let h : get_or defs x 0 ≡ get_or defs v 0 = ap (λ (j : ℕ). get_or defs j 0) e in absurd (omega arith)) ∙ lv.leaf x low;
        done = λ j jl d.
            let p = lv.done j jl (back _ d) in
            (forth _ p.0, forth _ p.1, fits_same level (set level v 4294967294) (gate_in gates j) (w.others _ (was_done _ d)) (w.others _ (not_done _ p.0)) (w.others _ (not_done _ p.1)) p.2);
        bound = λ x d. let h = w.others x (was_done x d) in let b = lv.bound x (back x d) in omega arith;
        room = let s = sum_by-set unsettled level v 4294967294 0 lt in let a = open_not (get_or level v 0) (omega arith) in let b = open_not 4294967294 (omega arith) in omega (arith, lv.room, length-set level v 4294967294);
      };
      way = record {
        entry = λ i il. elim (cases_lt i (length stack)) [
          | inl h ↦ let o = old i h in let p = way.entry i h in
              rw o (p.0, w.others _ (not_v i h) ∙ p.1)
          | inr h ↦ let e : i ≡ length stack = omega arith in
              let o : get_or (stack ++ k ∷ []) i 0 ≡ k = ap (λ (j : ℕ). get_or (stack ++ k ∷ []) j 0) e ∙ last in
              rw o (g.0, ap (λ (j : ℕ). get_or (set level v 4294967294) j 0) g.1 ∙ w.here)
        ];
        chain = λ i il. elim (cases_lt (i + 1) (length stack)) [
          | inl h ↦ let o = old i (omega arith) in let p = old (i + 1) h in rw (o, p) (way.chain i h)
          | inr h ↦ let e : i + 1 ≡ length stack = omega arith in
              let o = old i (omega arith) in
              let p : get_or (stack ++ k ∷ []) (i + 1) 0 ≡ k = ap (λ (j : ℕ). get_or (stack ++ k ∷ []) j 0) e ∙ last in
              rw (o, p) (subst (λ (x : ℕ). Uses (gate_in gates (get_or stack i 0)) x) (sym g.1) (uses i e))
        ];
        distinct = λ i j ij jl same. elim (cases_lt j (length stack)) [
          | inl h ↦ way.distinct i j ij h (sym (old i (omega arith)) ∙ same ∙ old j h)
          | inr h ↦ let e : j ≡ length stack = omega arith in
              let is : get_or stack i 0 ≡ k = sym (old i (omega arith)) ∙ same ∙ ap (λ (x : ℕ). get_or (stack ++ k ∷ []) x 0) e ∙ last in
              not_v i (omega arith) (ap (λ (x : ℕ). var_in gates x) is ∙ g.1)
        ];
        found = λ x on. elim (cases_eq x v) [
          | inl e ↦ (length stack, omega arith, ap (λ (j : ℕ). var_in gates j) last ∙ g.1 ∙ sym e)
          | inr ne ↦ let p = way.found x (sym (w.others x ne) ∙ on) in (p.0, omega (arith, p.1), ap (λ (j : ℕ). var_in gates j) (old p.0 p.1) ∙ p.2)
        ];
      };
      fewer = let s = sum_by-set steps level v 4294967294 0 lt in let a = steps_new (get_or level v 0) fresh in let b = steps_way 4294967294 refl in omega arith;
      keeps = λ x d. w.others x (not_done x d);
    }

-- the gate on top gets its level
pub record Settled (defs : List ℕ) (gates : List Gate) (level stack : List ℕ) (finished n v x : ℕ) : Type 0 where
  pub levels : Levels defs gates (set level v x) (finished + 1)
  pub way : Way gates (set level v x) (take n stack)
  pub fewer : all_steps (set level v x) + 1 ≡ all_steps level
  pub keeps : Keeps level (set level v x)
  pub done : IsDone (set level v x) v

pub settled : (defs : List ℕ) (gates : List Gate) (level stack : List ℕ) (finished n v x k : ℕ) → Indexes defs gates → Levels defs gates level finished → Way gates level stack
    → length stack ≡ n + 1 → get_or stack n 0 ≡ k → var_in gates k ≡ v → IsDone level ((gate_in gates k).left / 2) → IsDone level ((gate_in gates k).right / 2)
    → x ≡ 1 + max (get_or level ((gate_in gates k).left / 2) 0) (get_or level ((gate_in gates k).right / 2) 0) → Settled defs gates level stack finished n v x
settled defs gates level stack finished n v x k ix lv way top at is left right value =
    let entry = way.entry n (omega arith) in
    let kl : k < length gates = subst (λ (j : ℕ). j < length gates) at entry.0 in
    let on : get_or level v 0 ≡ 4294967294 = ap (λ (j : ℕ). get_or level j 0) (sym is ∙ ap (λ (j : ℕ). var_in gates j) (sym at)) ∙ entry.1 in
    let own : get_or defs v 0 ≡ k + 2 = ap (λ (j : ℕ). get_or defs j 0) (sym is) ∙ ix.own k kl in
    let lt : v < length level = omega (arith, (ix.within k kl).2, lv.len) in
    let w = written level v x lt in
    let room = lv.room in
    let sum = sum_by-set unsettled level v x 0 lt in
    let one = open_not (get_or level v 0) (omega arith) in
    let lb = lv.bound _ left in
    let rb = lv.bound _ right in
    let small : x ≤ finished + 1 = omega arith in
    let low : x < 4294967294 = omega (arith, ix.few, lv.len) in
    let none = open_done x low in
    let not_done : (y : ℕ) → IsDone level y → y ≡ v → ⊥ = λ y d. apart level v y (omega arith) d in
    let forth : (y : ℕ) → IsDone level y → IsDone (set level v x) y = λ y d. subst (λ (m : ℕ). m < 4294967294) (sym (w.others y (not_done y d))) d in
    let back : (y : ℕ) → (y ≡ v → ⊥) → IsDone (set level v x) y → IsDone level y = λ y ne d. subst (λ (m : ℕ). m < 4294967294) (w.others y ne) d in
    let old : (i : ℕ) → i < n → get_or (take n stack) i 0 ≡ get_or stack i 0 = λ i h. get_or-take n stack i 0 h in
    let len : length (take n stack) ≡ n = omega (arith, length-take n stack) in
    let not_v : (i : ℕ) → i < n → var_in gates (get_or stack i 0) ≡ v → ⊥ = λ i h e.
    let a = ix.own (get_or stack i 0) ((way.entry i (omega arith)).0) in
    let b : get_or defs (var_in gates (get_or stack i 0)) 0 ≡ get_or defs v 0 = ap (λ (j : ℕ). get_or defs j 0) e in
    let c : get_or stack i 0 ≡ get_or stack n 0 = omega arith in
    way.distinct i n h (omega arith) c in
    record {
      levels = record {
        len = length-set level v x ∙ lv.len;
        small = λ y. elim (cases_eq y v) [
          | inl e ↦ let h : get_or (set level v x) y 0 ≡ x = ap (λ (j : ℕ). get_or (set level v x) j 0) e ∙ w.here in omega arith
          | inr ne ↦ let h = w.others y ne in let s = lv.small y in omega arith
        ];
        leaf = λ y h. w.others y (λ e. let q : get_or defs y 0 ≡ get_or defs v 0 = ap (λ (j : ℕ). get_or defs j 0) e in absurd (omega arith)) ∙ lv.leaf y h;
        done = λ j jl d. elim (cases_eq (var_in gates j) v) [
          | inl e ↦
              let a = ix.own j jl in
              let b : get_or defs (var_in gates j) 0 ≡ get_or defs v 0 = ap (λ (m : ℕ). get_or defs m 0) e in
              let same : k ≡ j = omega arith in
              subst (λ (m : ℕ). IsDone (set level v x) ((gate_in gates m).left / 2) × IsDone (set level v x) ((gate_in gates m).right / 2) × Fits (λ u. get_or (set level v x) u 0) (gate_in gates m)) same
              (forth _ left, forth _ right, ap (λ (m : ℕ). get_or (set level v x) m 0) is ∙ w.here ∙ value ∙ ap₂ (λ (p q : ℕ). 1 + max p q) (sym (w.others _ (not_done _ left))) (sym (w.others _ (not_done _ right))))
          | inr ne ↦
              let p = lv.done j jl (back _ ne d) in
              (forth _ p.0, forth _ p.1, fits_same level (set level v x) (gate_in gates j) (w.others _ ne) (w.others _ (not_done _ p.0)) (w.others _ (not_done _ p.1)) p.2)
        ];
        bound = λ y d. elim (cases_eq y v) [
          | inl e ↦ let h : get_or (set level v x) y 0 ≡ x = ap (λ (j : ℕ). get_or (set level v x) j 0) e ∙ w.here in omega arith
          | inr ne ↦ let h = w.others y ne in let b = lv.bound y (back y ne d) in omega arith
        ];
        room = omega (arith, length-set level v x);
      };
      way = record {
        entry = λ i il. let h : i < n = omega arith in let o = old i h in let p = way.entry i (omega arith) in
            rw o (p.0, w.others _ (not_v i h) ∙ p.1);
        chain = λ i il. let o = old i (omega arith) in let p = old (i + 1) (omega arith) in rw (o, p) (way.chain i (omega arith));
        distinct = λ i j ij jl same. way.distinct i j ij (omega arith) (sym (old i (omega arith)) ∙ same ∙ old j (omega arith));
        found = λ y on_y.
            let ne : y ≡ v → ⊥ = λ e. let h : get_or (set level v x) y 0 ≡ x = ap (λ (j : ℕ). get_or (set level v x) j 0) e ∙ w.here in absurd (omega arith) in
            let p = way.found y (sym (w.others y ne) ∙ on_y) in
            let not_top : p.0 ≡ n → ⊥ = λ e. ne (sym p.2 ∙ ap (λ (j : ℕ). var_in gates j) (ap (λ (j : ℕ). get_or stack j 0) e ∙ at) ∙ is) in
            let h : p.0 < n = omega (arith, p.1) in
            (p.0, omega arith, ap (λ (j : ℕ). var_in gates j) (old p.0 h) ∙ p.2);
      };
      fewer = let s = sum_by-set steps level v x 0 lt in let a = steps_way (get_or level v 0) on in let b = steps_done x low in omega arith;
      keeps = λ y d. w.others y (not_done y d);
      done = subst (λ (m : ℕ). m < 4294967294) (sym w.here) low;
    }

meets_set : (level : List ℕ) (v x : ℕ) → v < length level → x < 4294967295 → Meets level (set level v x)
meets_set level v x lt low = λ y h. elim (cases_eq y v) [
  | inl e ↦ let s : get_or (set level v x) y 0 ≡ x = ap (λ (j : ℕ). get_or (set level v x) j 0) e ∙ get_or-set_same level v x 0 lt in omega arith
  | inr ne ↦ let s = get_or-set_other level v y x 0 ne in omega arith
]

pub turned_met : (defs : List ℕ) (gates : List Gate) (level stack : List ℕ) (v k n : ℕ) → Indexes defs gates → Walk defs gates level stack
    → length stack ≡ n + 1 → get_or defs v 0 ≡ k + 2 → v < length level → 4294967294 < get_or level v 0 → Uses (gate_in gates (get_or stack n 0)) v → Turned defs gates level (set level v 4294967294) (stack ++ k ∷ [])
turned_met defs gates level stack v k n ix walk top def lt fresh uses =
    let m = met defs gates level stack walk.finished v k ix walk.levels walk.way def lt fresh (λ i e. let s : n ≡ i = omega arith in subst (λ (j : ℕ). Uses (gate_in gates (get_or stack j 0)) v) s uses) in
    record { walk = record { finished = walk.finished; levels = m.levels; way = m.way }; fewer = omega (arith, m.fewer); keeps = m.keeps; meets = meets_set level v 4294967294 lt (omega arith) }

pub turned_settled : (defs : List ℕ) (gates : List Gate) (level stack : List ℕ) (n v x k : ℕ) → Indexes defs gates → Walk defs gates level stack
    → length stack ≡ n + 1 → get_or stack n 0 ≡ k → var_in gates k ≡ v → IsDone level ((gate_in gates k).left / 2) → IsDone level ((gate_in gates k).right / 2)
    → x ≡ 1 + max (get_or level ((gate_in gates k).left / 2) 0) (get_or level ((gate_in gates k).right / 2) 0) → Turned defs gates level (set level v x) (take n stack)
turned_settled defs gates level stack n v x k ix walk top at is left right value =
    let m = settled defs gates level stack walk.finished n v x k ix walk.levels walk.way top at is left right value in
    let entry = walk.way.entry n (omega arith) in
    let kl : k < length gates = subst (λ (j : ℕ). j < length gates) at entry.0 in
    let lt : v < length level = omega (arith, (ix.within k kl).2, walk.levels.len) in
    let here = get_or-set_same level v x 0 lt in
    record { walk = record { finished = walk.finished + 1; levels = m.levels; way = m.way }; fewer = omega (arith, m.fewer); keeps = m.keeps; meets = meets_set level v x lt (omega (arith, m.done)) }

-- what has no level yet is a gate's variable
pub is_gate : (defs : List ℕ) (gates : List Gate) (level stack : List ℕ) (v : ℕ) → Walk defs gates level stack → 4294967294 ≤ get_or level v 0 → 2 ≤ get_or defs v 0
is_gate defs gates level stack v walk high =
    elim (cases_lt (get_or defs v 0) 2) [ inl low ↦ let h = walk.levels.leaf v low in absurd (omega arith) | inr le ↦ le ]

-- the same at the gate that the code read
pub turn_settles : (defs : List ℕ) (gates : List Gate) (level stack : List ℕ) (n : ℕ) (g : Gate) (x : ℕ) → Indexes defs gates → Walk defs gates level stack
    → length stack ≡ n + 1 → g ≡ gate_in gates (get_or stack n 0) → IsDone level (g.left / 2) → IsDone level (g.right / 2)
    → x ≡ max (get_or level (g.left / 2) 0) (get_or level (g.right / 2) 0) + 1 → Turned defs gates level (set level g.var x) (take n stack)
turn_settles defs gates level stack n g x ix walk top is =
    subst (λ (h : Gate). IsDone level (h.left / 2) → IsDone level (h.right / 2) → x ≡ max (get_or level (h.left / 2) 0) (get_or level (h.right / 2) 0) + 1 → Turned defs gates level (set level h.var x) (take n stack)) (sym is)
    (λ l r v. turned_settled defs gates level stack n (var_in gates (get_or stack n 0)) x (get_or stack n 0) ix walk top refl refl l r (omega arith))

pub turn_cyclic : (gates : List Gate) (level stack : List ℕ) (n v : ℕ) (g : Gate) (defs : List ℕ) → Walk defs gates level stack → length stack ≡ n + 1 → g ≡ gate_in gates (get_or stack n 0) → Uses g v → get_or level v 0 ≡ 4294967294 → IsCyclic gates
turn_cyclic gates level stack n v g defs walk top is uses on = cyclic gates level stack n v walk.way top (subst (λ (h : Gate). Uses h v) is uses) on

pub turn_meets : (defs : List ℕ) (gates : List Gate) (level stack : List ℕ) (v k n : ℕ) (g : Gate) → Indexes defs gates → Walk defs gates level stack
    → length stack ≡ n + 1 → g ≡ gate_in gates (get_or stack n 0) → Uses g v → get_or defs v 0 ≡ k + 2 → v < length level → 4294967294 < get_or level v 0 → Turned defs gates level (set level v 4294967294) (stack ++ k ∷ [])
turn_meets defs gates level stack v k n g ix walk top is uses def lt fresh = turned_met defs gates level stack v k n ix walk top def lt fresh (subst (λ (h : Gate). Uses h v) is uses)

-- ---- the beginning and the end

first_at : (defs : List ℕ) (v : ℕ) → ((length defs ≤ v) × (get_or (map first_level defs) v 0 ≡ 0)) ⊎ ((v < length defs) × (get_or (map first_level defs) v 0 ≡ first_level (get_or defs v 0)))
first_at defs v =
    elim (cases_lt v (length defs)) [
      | inl lt ↦ inr (lt, get_or-map first_level defs v 0)
      | inr le ↦ inl (le, get_or_past (map first_level defs) v 0 (omega (arith, length-map defs first_level)))
    ]

first_low : (d : ℕ) → d < 2 → first_level d ≡ 0
first_low d lt = grind (arith, nat_tests)

first_high : (d : ℕ) → 2 ≤ d → first_level d ≡ 4294967295
first_high d le = grind (arith, nat_tests)

-- a first level is 0 or that of a gate that was not met
first_is : (defs : List ℕ) (v : ℕ) → ((get_or defs v 0 < 2) × (get_or (map first_level defs) v 0 ≡ 0)) ⊎ ((2 ≤ get_or defs v 0) × (get_or (map first_level defs) v 0 ≡ 4294967295))
first_is defs v =
    elim (first_at defs v) [
      | inl p ↦ let h = get_or_past defs v 0 p.0 in inl (omega arith, p.1)
      | inr p ↦ elim (cases_lt (get_or defs v 0) 2) [ inl lt ↦ inl (lt, p.1 ∙ first_low _ lt) | inr le ↦ inr (le, p.1 ∙ first_high _ le) ]
    ]

at_most_one : (level : List ℕ) → sum_by unsettled level ≤ length level
at_most_one level = let h : sum_by unsettled level ≤ length level * 1 = sum_by-le unsettled 1 level (λ k d lt. one (ltb (get_or level k d) 4294967294)) in omega arith
  where
    one : (b : Bool) → cond b 0 1 ≤ 1
    one true = omega arith
    one false = omega arith

pub opening : (defs : List ℕ) (gates : List Gate) → Indexes defs gates → Between defs gates (map first_level defs)
opening defs gates ix = record {
  walk = record {
    finished = 0;
    levels = record {
      len = length-map defs first_level;
      small = λ v. elim (first_is defs v) [ inl p ↦ omega arith | inr p ↦ omega arith ];
      leaf = λ v low. elim (first_is defs v) [ inl p ↦ p.1 | inr p ↦ absurd (omega arith) ];
      done = λ k kl d. let own = ix.own k kl in absurd (elim (first_is defs (var_in gates k)) [ inl p ↦ omega arith | inr p ↦ omega arith ]);
      bound = λ v d. elim (first_is defs v) [ inl p ↦ omega arith | inr p ↦ absurd (omega arith) ];
      room = let h = at_most_one (map first_level defs) in omega arith;
    };
    way = record {
      entry = λ i h. absurd (omega arith);
      chain = λ i h. absurd (omega arith);
      distinct = λ i j ij h. absurd (omega arith);
      found = λ v on. absurd (elim (first_is defs v) [ inl p ↦ omega arith | inr p ↦ omega arith ]);
    };
  };
}

-- the first gate of a way
pub first_met : (defs : List ℕ) (gates : List Gate) (level stack : List ℕ) (k v : ℕ) (g : Gate) → Indexes defs gates → Between defs gates level → k < length gates → g ≡ gate_in gates k → v ≡ g.var → 4294967294 ≤ get_or level v 0
    → stack ≡ k ∷ [] → Walk defs gates (set level v 4294967294) stack × Keeps level (set level v 4294967294) × (get_or (set level v 4294967294) (var_in gates k) 0 < 4294967295)
first_met defs gates level stack k v g ix between kl is named high one =
    let walk = between.walk in
    let var : v ≡ var_in gates k = named ∙ ap (λ (h : Gate). h.var) is in
    let def : get_or defs v 0 ≡ k + 2 = ap (λ (j : ℕ). get_or defs j 0) var ∙ ix.own k kl in
    let lt : v < length level = omega (arith, (ix.within k kl).2, walk.levels.len) in
    let fresh : 4294967294 < get_or level v 0 = elim (cases_eq (get_or level v 0) 4294967294) [
      | inl on ↦ let p = walk.way.found v on in absurd (omega (arith, p.1))
      | inr ne ↦ omega arith
    ] in
    let m = met defs gates level [] walk.finished v k ix walk.levels walk.way def lt fresh (λ i e. absurd (omega arith)) in
    let here : get_or (set level v 4294967294) (var_in gates k) 0 ≡ 4294967294 = ap (λ (j : ℕ). get_or (set level v 4294967294) j 0) (sym var) ∙ get_or-set_same level v 4294967294 0 lt in
    (record { finished = walk.finished; levels = m.levels; way = subst (λ (s : List ℕ). Way gates (set level v 4294967294) s) (sym one) m.way }, m.keeps, omega arith)

-- what was met and is not on the way is done
pub met_is_done : (gates : List Gate) (level : List ℕ) (v : ℕ) → Way gates level [] → get_or level v 0 < 4294967295 → IsDone level v
met_is_done gates level v way low =
    elim (cases_eq (get_or level v 0) 4294967294) [ inl on ↦ let p = way.found v on in absurd (omega (arith, p.1)) | inr ne ↦ omega arith ]

pub all_levels : (defs : List ℕ) (gates : List Gate) (level : List ℕ) (n : ℕ) → Between defs gates level → length gates ≤ n → ((k : ℕ) → k < n → IsDone level (var_in gates k)) → IsLevels defs gates level
all_levels defs gates level n between le done = record {
  len = between.walk.levels.len;
  leaf = between.walk.levels.leaf;
  fit = λ k kl. let p = between.walk.levels.done k kl (done k (omega arith)) in p.2;
}
