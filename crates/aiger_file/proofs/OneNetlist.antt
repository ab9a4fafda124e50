-- What was given has one netlist, and no fault beside it.
use Rattle.std.proofs.Common.{◌≡◌, ◌∙◌, ℕ, zero, suc, ◌+◌, ◌/◌, ◌<◌, ◌⊎◌, inl, inr, List, [], ◌∷◌, ◌++◌, map, length, get_or, max, refl, sym, ap, ap₂, subst, arith}
use Rattle.std.specs.List.{All, AllPairs, Contains}
use Rattle.std.proofs.lemmas.List.{get_or-map, length-map}
use Rattle.std.proofs.lemmas.List.Elements.{All-contains, Contains-append_cases, Contains-append_left, Contains-append_right}
use Rattle.std.proofs.lemmas.List.Sorted.{All-permutation, Contains-permutation, IsPermutation-map, IsPermutation-sym, IsPermutation-trans}
use Rattle.circ_model.specs.declared.netlist.Latch.{Latch}
use Rattle.circ_model.specs.declared.netlist.Gate.{Gate}
use Rattle.circ_model.specs.Netlist.{Netlist, IsDefined, AllDefined, IsLevelling, StandsBefore, variables, leaf_variables, gate_variables}
use Rattle.aig_graph.specs.Finish.{used, right_literals, IsLeastUndefined, IsCircular, IsFinished}
use Rattle.aig_graph.proofs.OneLevel.{one_level}

-- ---- lists in one strict order with the same members are one

ordered_rest : (R : Gate → Gate → Type 0) (x : Gate) (xs : List Gate) → AllPairs R (x ∷ xs) → AllPairs R xs
ordered_rest R x xs o i j d less lt = o (suc i) (suc j) d (omega arith) (omega arith)

after_head : (f : ℕ → ℕ) (x : Gate) (xs : List Gate) (z : Gate) → AllPairs (StandsBefore f) (x ∷ xs) → Contains xs z → StandsBefore f x z
after_head f x xs z o c = subst (StandsBefore f x) c.2 (o 0 (suc c.0) z (omega arith) (omega (arith, c.1)))

not_both : (f : ℕ → ℕ) (x y : Gate) → StandsBefore f x y → StandsBefore f y x → ⊥
not_both f x y (inl a) (inl b) = omega arith
not_both f x y (inl a) (inr b) = omega arith
not_both f x y (inr a) (inl b) = omega arith
not_both f x y (inr a) (inr b) = omega arith

head_or : (x : Gate) (xs : List Gate) (z : Gate) → Contains (x ∷ xs) z → (x ≡ z) ⊎ Contains xs z
head_or x xs z (zero, lt, e) = inl e
head_or x xs z (suc k, lt, e) = inr (k, omega arith, e)

first_in : (x : Gate) (xs : List Gate) → Contains (x ∷ xs) x
first_in x xs = (0, omega arith, refl)

rest_in : (x : Gate) (xs : List Gate) (z : Gate) → Contains xs z → Contains (x ∷ xs) z
rest_in x xs z c = (suc c.0, omega (arith, c.1), c.2)

tail_in : (f : ℕ → ℕ) (x y : Gate) (xs ys : List Gate) → x ≡ y → AllPairs (StandsBefore f) (x ∷ xs) → ((z : Gate) → Contains (x ∷ xs) z → Contains (y ∷ ys) z) → (z : Gate) → Contains xs z → Contains ys z
tail_in f x y xs ys same o all z c =
    elim (head_or y ys z (all z (rest_in x xs z c))) [
      | inl e ↦ let b = after_head f x xs z o c in let s : StandsBefore f x x = subst (StandsBefore f x) (sym e ∙ sym same) b in absurd (not_both f x x s s)
      | inr rest ↦ rest
    ]

one_order : (f : ℕ → ℕ) (xs ys : List Gate) → AllPairs (StandsBefore f) xs → AllPairs (StandsBefore f) ys → ((z : Gate) → Contains xs z → Contains ys z) → ((z : Gate) → Contains ys z → Contains xs z) → xs ≡ ys
one_order f [] [] a b to back = refl
one_order f [] (y ∷ ys) a b to back = let c = back y (first_in y ys) in absurd (omega (arith, c.1))
one_order f (x ∷ xs) [] a b to back = let c = to x (first_in x xs) in absurd (omega (arith, c.1))
one_order f (x ∷ xs) (y ∷ ys) a b to back =
    let same : x ≡ y = elim (head_or y ys x (to x (first_in x xs))) [
      | inl e ↦ sym e
      | inr later ↦ elim (head_or x xs y (back y (first_in y ys))) [ inl e ↦ e | inr after ↦ absurd (not_both f x y (after_head f x xs y a after) (after_head f y ys x b later)) ]
    ] in
    let rest = one_order f xs ys (ordered_rest (StandsBefore f) x xs a) (ordered_rest (StandsBefore f) y ys b) (tail_in f x y xs ys same a to) (tail_in f y x ys xs (sym same) b back) in
    ap₂ (λ (p : Gate) (ps : List Gate). p ∷ ps) same rest

-- ---- one netlist

abbrev leaf_list : List ℕ → List Latch → List ℕ
leaf_list is ls = 0 ∷ is ++ map (λ (l : Latch). l.var) ls

same_leaves : (g n : Netlist) → IsFinished g n → leaf_variables n ≡ leaf_variables g
same_leaves g n a = ap₂ leaf_list a.inputs a.latches

-- a levelling is one whatever the order of the gates
levels_given : (g n : Netlist) (f : ℕ → ℕ) → IsFinished g n → IsLevelling n f → IsLevelling g f
levels_given g n f a l = record {
  leaves = subst (All (λ v. f v ≡ 0)) (same_leaves g n a) l.leaves;
  gates = All-permutation (λ (q : Gate). f q.var ≡ 1 + max (f (q.left / 2)) (f (q.right / 2))) n.gates g.gates (IsPermutation-sym g.gates n.gates a.gates) l.gates;
}

levels_finished : (g n : Netlist) (f : ℕ → ℕ) → IsFinished g n → IsLevelling g f → IsLevelling n f
levels_finished g n f a l = record {
  leaves = subst (All (λ v. f v ≡ 0)) (sym (same_leaves g n a)) l.leaves;
  gates = All-permutation (λ (q : Gate). f q.var ≡ 1 + max (f (q.left / 2)) (f (q.right / 2))) g.gates n.gates a.gates l.gates;
}

moved : (f h : ℕ → ℕ) (x y : Gate) → f x.var ≡ h x.var → f y.var ≡ h y.var → StandsBefore h x y → StandsBefore f x y
moved f h x y a b (inl lt) = inl (omega arith)
moved f h x y a b (inr p) = inr (omega (arith, p.0), p.1)

gate_named : (n : Netlist) (k : ℕ) (d : Gate) → k < length n.gates → Contains (variables n) (get_or n.gates k d).var
gate_named n k d lt = Contains-append_right (leaf_variables n) (gate_variables n) _ (k, (let h = length-map n.gates (λ (q : Gate). q.var) in omega arith), get_or-map (λ (q : Gate). q.var) n.gates k d _ lt)

abbrev made : ℕ → List ℕ → List Latch → List ℕ → List Gate → Netlist
made a b c d e = record { max_var = a; inputs = b; latches = c; outputs = d; gates = e }

same_parts : (a a' : ℕ) (b b' : List ℕ) (c c' : List Latch) (d d' : List ℕ) (e e' : List Gate) → a ≡ a' → b ≡ b' → c ≡ c' → d ≡ d' → e ≡ e' → made a b c d e ≡ made a' b' c' d' e'
same_parts a a' b b' c c' d d' e e' p q r s t = ap (λ x. made x b c d e) p ∙ ap (λ x. made a' x c d e) q ∙ ap (λ x. made a' b' x d e) r ∙ ap (λ x. made a' b' c' x e) s ∙ ap (λ x. made a' b' c' d' x) t

pub one_netlist : (g m n : Netlist) → IsFinished g m → IsFinished g n → m ≡ n
one_netlist g m n a b =
    let f = a.sound.ordered.0 in
    let h = b.sound.ordered.0 in
    let h_m : IsLevelling n f = levels_finished g n f b (levels_given g m f a a.sound.ordered.1) in
    let same : All (λ (q : Gate). f q.var ≡ h q.var) n.gates = λ k d lt. one_level n f h (get_or n.gates k d).var b.sound.all_defined h_m b.sound.ordered.1 (gate_named n k d lt) in
    let order : AllPairs (StandsBefore f) n.gates = λ i j d less lt. moved f h (get_or n.gates i d) (get_or n.gates j d) (same i d (omega arith)) (same j d lt) (b.sound.ordered.2 i j d less lt) in
    let there = IsPermutation-trans m.gates g.gates n.gates (IsPermutation-sym g.gates m.gates a.gates) b.gates in
    let back = IsPermutation-trans n.gates g.gates m.gates (IsPermutation-sym g.gates n.gates b.gates) a.gates in
    let gates = one_order f m.gates n.gates a.sound.ordered.2 order (λ z c. Contains-permutation m.gates n.gates z there c) (λ z c. Contains-permutation n.gates m.gates z back c) in
    same_parts m.max_var n.max_var m.inputs n.inputs m.latches n.latches m.outputs n.outputs m.gates n.gates (a.max_var ∙ sym b.max_var) (a.inputs ∙ sym b.inputs) (a.latches ∙ sym b.latches) (a.outputs ∙ sym b.outputs) gates

-- ---- a netlist, or a fault

right_defined : (g : Netlist) (qs : List Gate) (lit : ℕ) → All (λ (q : Gate). IsDefined g q.left × IsDefined g q.right) qs → Contains (right_literals qs) lit → IsDefined g lit
right_defined g [] lit all c = absurd (omega (arith, c.1))
right_defined g (q ∷ qs) lit all (zero, lt, e) = subst (IsDefined g) e (all 0 q (omega arith)).0
right_defined g (q ∷ qs) lit all (suc zero, lt, e) = subst (IsDefined g) e (all 0 q (omega arith)).1
right_defined g (q ∷ qs) lit all (suc (suc k), lt, e) = right_defined g qs lit (λ i d il. all (suc i) d (omega arith)) (k, omega arith, e)

next_defined : (g : Netlist) (ls : List Latch) (lit : ℕ) → All (λ (l : Latch). IsDefined g l.next) ls → Contains (map (λ (l : Latch). l.next) ls) lit → IsDefined g lit
next_defined g [] lit all c = absurd (omega (arith, c.1))
next_defined g (l ∷ ls) lit all (zero, lt, e) = subst (IsDefined g) e (all 0 l (omega arith))
next_defined g (l ∷ ls) lit all (suc k, lt, e) = next_defined g ls lit (λ i d il. all (suc i) d (omega arith)) (k, omega arith, e)

used_defined : (g : Netlist) (lit : ℕ) → AllDefined g → Contains (used g) lit → IsDefined g lit
used_defined g lit all c =
    elim (Contains-append_cases (map (λ (l : Latch). l.next) g.latches ++ g.outputs) (right_literals g.gates) lit c) [
      | inl front ↦ elim (Contains-append_cases (map (λ (l : Latch). l.next) g.latches) g.outputs lit front) [
        | inl n ↦ next_defined g g.latches lit all.latches n
        | inr o ↦ All-contains (IsDefined g) g.outputs lit all.outputs o
      ]
      | inr r ↦ right_defined g g.gates lit all.gates r
    ]

pub none_undefined : (g : Netlist) (v : ℕ) → AllDefined g → IsLeastUndefined g v → ⊥
none_undefined g v all u = u.is.2 (used_defined g u.is.0 all u.is.1)

same_variables : (g n : Netlist) (v : ℕ) → IsFinished g n → Contains (variables n) v → Contains (variables g) v
same_variables g n v a c =
    elim (Contains-append_cases (leaf_variables n) (gate_variables n) v c) [
      | inl leaf ↦ Contains-append_left (leaf_variables g) (gate_variables g) v (subst (λ (l : List ℕ). Contains l v) (same_leaves g n a) leaf)
      | inr gate ↦ Contains-append_right (leaf_variables g) (gate_variables g) v
          (Contains-permutation (gate_variables n) (gate_variables g) v (IsPermutation-map (λ (q : Gate). q.var) n.gates g.gates (IsPermutation-sym g.gates n.gates a.gates)) gate)
    ]

-- what has a netlist has all definitions
pub finished_defined : (g n : Netlist) → IsFinished g n → AllDefined g
finished_defined g n a =
    let d : AllDefined n = a.sound.all_defined in
    let back : (lit : ℕ) → IsDefined n lit → IsDefined g lit = λ lit. same_variables g n (lit / 2) a in
    record {
      latches = subst (All (λ (l : Latch). IsDefined g l.next)) a.latches (λ k e lt. back _ (d.latches k e lt));
      outputs = subst (All (IsDefined g)) a.outputs (λ k e lt. back _ (d.outputs k e lt));
      gates = All-permutation (λ (q : Gate). IsDefined g q.left × IsDefined g q.right) n.gates g.gates (IsPermutation-sym g.gates n.gates a.gates) (λ k e lt. let p = d.gates k e lt in (back _ p.0, back _ p.1));
    }

pub finished_levelled : (g n : Netlist) → IsFinished g n → IsCircular g → ⊥
finished_levelled g n a c = c a.sound.ordered.0 (levels_given g n a.sound.ordered.0 a a.sound.ordered.1)
