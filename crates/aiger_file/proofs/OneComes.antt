-- What was given has a netlist or a fault: levels or gates that wait for each other, and an order.
use Rattle.std.proofs.Common.{◌≡◌, ◌∙◌, ℕ, zero, suc, ◌+◌, ◌-◌, ◌/◌, ◌<◌, ◌≤◌, ◌⊎◌, inl, inr, max, List, [], ◌∷◌, ◌++◌, length, take, set, map, get_or, refl, sym, subst, arith}
use Rattle.std.specs.List.{All}
use Rattle.std.specs.List.Sorted.{IsPermutation, IsNonDecreasingBy}
use Rattle.std.proofs.lemmas.Bool.{cases_eq, cases_lt}
use Rattle.std.proofs.lemmas.List.Elements.{All-cons}
use Rattle.std.proofs.lemmas.List.Sorted.{IsPermutation-refl, IsPermutation-cons, IsPermutation-trans, IsPermutation-swap, All-permutation}
use Rattle.circ_model.specs.declared.netlist.Gate.{Gate}
use Rattle.circ_model.specs.Netlist.{Netlist, AllDefined}
use Rattle.aig_graph.specs.Walk.{gate_in, var_in, Uses, IsCyclic, Indexes, IsDone, all_steps, Walk, Turned, Between, Keeps, IsLevels, first_level, key_of}
use Rattle.aig_graph.specs.Kept.{IsKept}
use Rattle.aig_graph.specs.Finish.{IsFinished, IsLeastUndefined, IsCircular, used, lowest}
use Rattle.aig_graph.proofs.Keeping.{indexed}
use Rattle.aig_graph.proofs.Walks.{cyclic, turned_met, turned_settled, is_gate, opening, first_met, met_is_done, all_levels}
use Rattle.aig_graph.proofs.LeastUndefined.{undefined_due, defined_due}
use Rattle.aig_graph.proofs.Finishing.{circular, held}

-- ---- levels

pub record Turn (defs : List ℕ) (gates : List Gate) (level : List ℕ) : Type 0 where
  pub new : List ℕ
  pub stack : List ℕ
  pub turned : Turned defs gates level new stack

open_right : (level : List ℕ) (g : Gate) → (IsDone level (g.left / 2) × IsDone level (g.right / 2)) ⊎ ((v : ℕ) × Uses g v × (4294967294 ≤ get_or level v 0))
open_right level g =
    elim (cases_lt (get_or level (g.left / 2) 0) 4294967294) [
      | inl l ↦ elim (cases_lt (get_or level (g.right / 2) 0) 4294967294) [ inl r ↦ inl (l, r) | inr r ↦ inr (g.right / 2, inr refl, r) ]
      | inr l ↦ inr (g.left / 2, inl refl, l)
    ]

uses_within : (defs : List ℕ) (gates : List Gate) (k v : ℕ) → Indexes defs gates → k < length gates → Uses (gate_in gates k) v → v < length defs
uses_within defs gates k v ix lt (inl e) = let w = ix.within k lt in omega (arith, w.0)
uses_within defs gates k v ix lt (inr e) = let w = ix.within k lt in omega (arith, w.1)

turn : (defs : List ℕ) (gates : List Gate) (level stack : List ℕ) (n : ℕ) → Indexes defs gates → Walk defs gates level stack → length stack ≡ n + 1 → Turn defs gates level ⊎ IsCyclic gates
turn defs gates level stack n ix walk top =
    let k : ℕ = get_or stack n 0 in
    let entry = walk.way.entry n (omega arith) in
    elim (open_right level (gate_in gates k)) [
      | inl d ↦
          let x : ℕ = 1 + max (get_or level ((gate_in gates k).left / 2) 0) (get_or level ((gate_in gates k).right / 2) 0) in
          inl (record { new = set level (var_in gates k) x; stack = take n stack; turned = turned_settled defs gates level stack n (var_in gates k) x k ix walk top refl refl d.0 d.1 refl })
      | inr o ↦
          let lt = uses_within defs gates k o.0 ix entry.0 o.1 in
          elim (cases_eq (get_or level o.0 0) 4294967294) [
            | inl on ↦ inr (cyclic gates level stack n o.0 walk.way top o.1 on)
            | inr ne ↦
                let two = is_gate defs gates level stack o.0 walk o.2 in
                inl (record { new = set level o.0 4294967294; stack = stack ++ (get_or defs o.0 0 - 2) ∷ []; turned = turned_met defs gates level stack o.0 (get_or defs o.0 0 - 2) n ix walk top (omega arith) (omega (arith, walk.levels.len)) (omega arith) o.1 })
          ]
    ]

-- a gate that was met, settled
pub record Climbed (defs : List ℕ) (gates : List Gate) (level : List ℕ) (v : ℕ) : Type 0 where
  pub new : List ℕ
  pub between : Between defs gates new
  pub keeps : Keeps level new
  pub done : IsDone new v

keeps_then : (a b c : List ℕ) → Keeps a b → Keeps b c → Keeps a c
keeps_then a b c p q = λ v d. let e = p v d in q v (subst (λ (n : ℕ). n < 4294967294) (sym e) d) ∙ e

climb : (fuel : ℕ) (defs : List ℕ) (gates : List Gate) (level stack : List ℕ) (v : ℕ) → Indexes defs gates → Walk defs gates level stack → all_steps level ≤ fuel → get_or level v 0 < 4294967295 → Climbed defs gates level v ⊎ IsCyclic gates
climb fuel defs gates level [] v ix walk enough met = inl (record { new = level; between = record { walk = walk }; keeps = λ w d. refl; done = met_is_done gates level v walk.way met })
climb zero defs gates level (k ∷ stack) v ix walk enough met =
    elim (turn defs gates level (k ∷ stack) (length stack) ix walk (omega arith)) [ inl t ↦ absurd (omega (arith, t.turned.fewer)) | inr c ↦ inr c ]
climb (suc fuel) defs gates level (k ∷ stack) v ix walk enough met =
    elim (turn defs gates level (k ∷ stack) (length stack) ix walk (omega arith)) [
      | inl t ↦ elim (climb fuel defs gates t.new t.stack v ix t.turned.walk (omega (arith, t.turned.fewer)) (t.turned.meets v met)) [
        | inl r ↦ inl (record { new = r.new; between = r.between; keeps = keeps_then level t.new r.new t.turned.keeps r.keeps; done = r.done })
        | inr c ↦ inr c
      ]
      | inr c ↦ inr c
    ]

pub record SettledBelow (defs : List ℕ) (gates : List Gate) (n : ℕ) : Type 0 where
  pub level : List ℕ
  pub between : Between defs gates level
  pub done : (k : ℕ) → k < n → IsDone level (var_in gates k)

below : (defs : List ℕ) (gates : List Gate) (n : ℕ) → Indexes defs gates → n ≤ length gates → SettledBelow defs gates n ⊎ IsCyclic gates
below defs gates zero ix le = inl (record { level = map first_level defs; between = opening defs gates ix; done = λ k lt. absurd (omega arith) })
below defs gates (suc n) ix le =
    elim (below defs gates n ix (omega arith)) [
      | inr c ↦ inr c
      | inl b ↦
          let v : ℕ = var_in gates n in
          elim (cases_lt (get_or b.level v 0) 4294967294) [
            | inl d ↦ inl (record { level = b.level; between = b.between; done = λ k lt. one_more (λ j. IsDone b.level (var_in gates j)) n b.done d k lt })
            | inr open' ↦
                let m = first_met defs gates b.level (n ∷ []) n v (gate_in gates n) ix b.between (omega arith) refl refl open' refl in
                elim (climb (all_steps (set b.level v 4294967294)) defs gates (set b.level v 4294967294) (n ∷ []) v ix m.0 (omega arith) m.2) [
                  | inr c ↦ inr c
                  | inl r ↦
                      let keeps = keeps_then b.level (set b.level v 4294967294) r.new m.1 r.keeps in
                      inl (record { level = r.new; between = r.between; done = λ k lt. one_more (λ j. IsDone r.new (var_in gates j)) n (λ j jl. subst (λ (x : ℕ). x < 4294967294) (sym (keeps _ (b.done j jl))) (b.done j jl)) r.done k lt })
                ]
          ]
    ]
  where
    one_more : (P : ℕ → Type 0) (n : ℕ) → ((k : ℕ) → k < n → P k) → P n → (k : ℕ) → k < suc n → P k
    one_more P n all here k lt = elim (cases_lt k n) [ inl l ↦ all k l | inr ge ↦ let is : n ≡ k = omega arith in subst P is here ]

pub levels_or_cycle : (defs : List ℕ) (gates : List Gate) → Indexes defs gates → ((level : List ℕ) × IsLevels defs gates level) ⊎ IsCyclic gates
levels_or_cycle defs gates ix =
    elim (below defs gates (length gates) ix (omega arith)) [ inl b ↦ inl (b.level, all_levels defs gates b.level (length gates) b.between (omega arith) b.done) | inr c ↦ inr c ]

-- ---- order

pub record InOrder (f : Gate → ℕ) (gs : List Gate) : Type 0 where
  pub hs : List Gate
  pub same : IsPermutation gs hs
  pub sorted : IsNonDecreasingBy f hs

exchange : (q h : Gate) (hs : List Gate) → IsPermutation (q ∷ h ∷ hs) (h ∷ q ∷ hs)
exchange q h hs = IsPermutation-swap (q ∷ h ∷ hs) (h ∷ q ∷ hs) 0 1 (omega arith) (omega arith) refl

sorted_cons : (f : Gate → ℕ) (q : Gate) (hs : List Gate) → All (λ (h : Gate). f q ≤ f h) hs → IsNonDecreasingBy f hs → IsNonDecreasingBy f (q ∷ hs)
sorted_cons f q hs low sorted zero zero d le lt = omega arith
sorted_cons f q hs low sorted zero (suc j) d le lt = low j d (omega arith)
sorted_cons f q hs low sorted (suc i) zero d le lt = absurd (omega arith)
sorted_cons f q hs low sorted (suc i) (suc j) d le lt = sorted i j d (omega arith) (omega arith)

insert_in : (f : Gate → ℕ) (q : Gate) (hs : List Gate) → IsNonDecreasingBy f hs → InOrder f (q ∷ hs)
insert_in f q [] sorted = record { hs = q ∷ []; same = IsPermutation-refl (q ∷ []); sorted = sorted_cons f q [] (λ k d lt. absurd (omega arith)) sorted }
insert_in f q (h ∷ hs) sorted =
    let rest : IsNonDecreasingBy f hs = λ i j d le lt. sorted (suc i) (suc j) d (omega arith) (omega arith) in
    let low : All (λ (x : Gate). f h ≤ f x) hs = λ k d lt. sorted 0 (suc k) d (omega arith) (omega arith) in
    elim (cases_lt (f h) (f q)) [
      | inl after ↦
          let r = insert_in f q hs rest in
          record {
            hs = h ∷ r.hs;
            same = IsPermutation-trans (q ∷ h ∷ hs) (h ∷ q ∷ hs) (h ∷ r.hs) (exchange q h hs) (IsPermutation-cons h (q ∷ hs) r.hs r.same);
            sorted = sorted_cons f h r.hs (All-permutation (λ (x : Gate). f h ≤ f x) (q ∷ hs) r.hs r.same (All-cons (λ (x : Gate). f h ≤ f x) q hs (omega arith) low)) r.sorted;
          }
      | inr before ↦ record {
        hs = q ∷ h ∷ hs;
        same = IsPermutation-refl (q ∷ h ∷ hs);
        sorted = sorted_cons f q (h ∷ hs) (All-cons (λ (x : Gate). f q ≤ f x) h hs before (λ k d lt. let l = low k d lt in omega arith)) sorted;
      }
    ]

in_order : (f : Gate → ℕ) (gs : List Gate) → InOrder f gs
in_order f [] = record { hs = []; same = IsPermutation-refl []; sorted = λ i j d le lt. absurd (omega arith) }
in_order f (q ∷ gs) =
    let r = in_order f gs in
    let i = insert_in f q r.hs r.sorted in
    record { hs = i.hs; same = IsPermutation-trans (q ∷ gs) (q ∷ r.hs) i.hs (IsPermutation-cons q gs r.hs r.same) i.same; sorted = i.sorted }

-- ---- one of the three comes

pub one_comes : (defs : List ℕ) (g : Netlist) → IsKept defs g → ((n : Netlist) × IsFinished g n) ⊎ (((v : ℕ) × IsLeastUndefined g v) ⊎ (AllDefined g × IsCircular g))
one_comes defs g kept =
    let start : ℕ = length defs in
    let r : ℕ = lowest defs start (used g) in
    elim (cases_lt r start) [
      | inl lt ↦ inr (inl (r, undefined_due defs g g start r refl kept refl lt))
      | inr le ↦
          let all = defined_due defs g start r kept refl le refl in
          elim (levels_or_cycle defs g.gates (indexed defs g kept)) [
            | inr c ↦ inr (inr (all, circular g g refl c))
            | inl l ↦
                let o = in_order (key_of l.0) g.gates in
                let h = held defs g l.0 o.hs kept all l.1 o.same o.sorted in
                inl (record g { gates = o.hs }, record { max_var = refl; inputs = refl; latches = refl; outputs = refl; gates = o.same; sound = h.sound })
          ]
    ]
