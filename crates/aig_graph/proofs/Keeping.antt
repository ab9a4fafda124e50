-- What a builder keeps where one more variable is defined.
use Rattle.std.proofs.Common.{◌≡◌, ℕ, ◌+◌, ◌*◌, ◌<◌, ◌≤◌, ◌≢◌, ◌⊎◌, inl, inr, ap₂, Bool, true, false, cond, if◌then◌else◌, ◌||◌, eqb, List, [], ◌∷◌, ◌++◌, length, set, get_or, refl, sym, ap, subst, ◌∙◌, arith, length-append, length-set, get_or-set_same, get_or-set_other}
use Rattle.std.specs.List.{list_any, All, HoldsAt, count_by, sum_by}
use Rattle.std.proofs.lemmas.Bool.{cases_eq, cases_lt, eqb-true, eq-eqb, ne_eqb}
use Rattle.std.proofs.lemmas.List.Sums.{sum_by-set, sum_by-append, sum_by-cons, count_by-le-length}
use Rattle.std.proofs.lemmas.List.Elements.{All-push}
use Rattle.std.proofs.Math.ListN.{get_or-append}
use Rattle.std.proofs.Math.Seq.{get_or-append_seam}
use Rattle.circ_model.specs.declared.netlist.Latch.{Latch}
use Rattle.circ_model.specs.declared.netlist.Gate.{Gate}
use Rattle.circ_model.specs.Netlist.{Netlist}
use Rattle.aig_graph.specs.Given.{is_leaf, is_defined}
use Rattle.aig_graph.specs.Walk.{no_gate, gate_in, var_in, Indexes}
use Rattle.aig_graph.specs.Kept.{is_set, times_defined, IsKept}

any_push : {X : Type 0} (p : X → Bool) (xs : List X) (x : X) → list_any p (xs ++ x ∷ []) ≡ (list_any p xs || p x)
any_push p [] x = or_false (p x)
  where
    or_false : (b : Bool) → (b || false) ≡ b
    or_false true = refl
    or_false false = refl
any_push p (y ∷ xs) x = one (p y) (any_push p xs x)
  where
    one : (b : Bool) → list_any p (xs ++ x ∷ []) ≡ (list_any p xs || p x) → (b || list_any p (xs ++ x ∷ [])) ≡ ((b || list_any p xs) || p x)
    one true h = refl
    one false h = h

count_set : (defs : List ℕ) (v y : ℕ) → v < length defs → get_or defs v 0 ≡ 0 → 0 < y → count_by is_set (set defs v y) ≡ count_by is_set defs + 1
count_set defs v y lt free pos =
    let f : ℕ → ℕ = λ x. cond (is_set x) 1 0 in
    let h : count_by is_set (set defs v y) + f (get_or defs v 0) ≡ count_by is_set defs + f y = sum_by-set f defs v y 0 lt in
    let a : f (get_or defs v 0) ≡ 0 = ap f free in
    let ne : eqb y 0 ≡ false = ne_eqb y 0 (λ e. omega arith) in
    let b : f y ≡ 1 = rw ne refl in
    omega arith

mark_set : (defs : List ℕ) (v y w : ℕ) (before : Bool) → v < length defs → 0 < y → before ≡ is_set (get_or defs w 0) → (before || eqb v w) ≡ is_set (get_or (set defs v y) w 0)
mark_set defs v y w before lt pos e =
    elim (cases_eq v w) [
      | inl same ↦
          let a : eqb v w ≡ true = eq-eqb v w same in
          let r : get_or (set defs v y) w 0 ≡ y = ap (λ (k : ℕ). get_or (set defs v y) k 0) (sym same) ∙ get_or-set_same defs v y 0 lt in
          let b : eqb y 0 ≡ false = ne_eqb y 0 (λ h. omega arith) in
          rw (a, r, b) (or_true before)
      | inr other ↦
          let a : eqb v w ≡ false = ne_eqb v w other in
          let r : get_or (set defs v y) w 0 ≡ get_or defs w 0 = get_or-set_other defs v w y 0 (λ h. other (sym h)) in
          rw (a, r) (or_false before ∙ e)
    ]
  where
    or_true : (b : Bool) → (b || true) ≡ true
    or_true true = refl
    or_true false = refl

    or_false : (b : Bool) → (b || false) ≡ b
    or_false true = refl
    or_false false = refl

-- what is given after a variable was defined as y
pub record Grows (g h : Netlist) (v y : ℕ) : Type 0 where
  pub max_var : h.max_var ≡ g.max_var
  pub defined : (w : ℕ) → is_defined h w ≡ (is_defined g w || eqb v w)
  pub leaf : (w : ℕ) → is_leaf h w ≡ true → (is_leaf g w ≡ true) ⊎ ((v ≡ w) × (y ≡ 1))
  pub gate : (w k : ℕ) → (k < length g.gates) × HoldsAt (λ (q : Gate). q.var ≡ w) g.gates k → (k < length h.gates) × HoldsAt (λ (q : Gate). q.var ≡ w) h.gates k
  pub new_gate : (k : ℕ) → y ≡ k + 2 → (k < length h.gates) × HoldsAt (λ (q : Gate). q.var ≡ v) h.gates k
  pub place : (k : ℕ) → k < length h.gates → ((k < length g.gates) × (gate_in h.gates k ≡ gate_in g.gates k)) ⊎ ((y ≡ k + 2) × (var_in h.gates k ≡ v) × ((gate_in h.gates k).left ≤ 2 * g.max_var + 1) × ((gate_in h.gates k).right ≤ 2 * g.max_var + 1))
  pub nexts : All (λ (l : Latch). l.next ≤ 2 * g.max_var + 1) h.latches
  pub outs : All (λ lit. lit ≤ 2 * g.max_var + 1) h.outputs
  pub few : length h.outputs ≤ 1000000
  pub times : (w : ℕ) → times_defined h w ≡ times_defined g w + (if eqb v w then 1 else 0)
  pub count : length h.inputs + length h.latches + length h.gates ≡ length g.inputs + length g.latches + length g.gates + 1

count_push : {X : Type 0} (p : X → Bool) (xs : List X) (x : X) → count_by p (xs ++ x ∷ []) ≡ count_by p xs + (if p x then 1 else 0)
count_push p xs x = let h = sum_by-append (λ y. cond (p y) 1 0) xs (x ∷ []) in let c = sum_by-cons (λ y. cond (p y) 1 0) x [] in omega arith

both_false : (a b : Bool) → (a || b) ≡ false → (a ≡ false) × (b ≡ false)
both_false true b e = absurd cc
both_false false b e = (refl, e)

none_counted : {X : Type 0} (p : X → Bool) (xs : List X) → list_any p xs ≡ false → count_by p xs ≡ 0
none_counted p [] e = refl
none_counted p (x ∷ xs) e =
    let h = both_false (p x) (list_any p xs) e in
    let r : sum_by (λ y. cond (p y) 1 0) xs ≡ 0 = none_counted p xs h.1 in
    let a : cond (p x) 1 0 ≡ 0 = ap (λ (b : Bool). cond b 1 0) h.0 in
    sum_by-cons (λ y. cond (p y) 1 0) x xs ∙ ap₂ (λ (m n : ℕ). m + n) a r

pub none_defined : (g : Netlist) (w : ℕ) → is_defined g w ≡ false → times_defined g w ≡ 0
none_defined g w e =
    let h = both_false (is_leaf g w) (list_any (λ (q : Gate). eqb q.var w) g.gates) e in
    let l = both_false (list_any (λ i. eqb i w) g.inputs) (list_any (λ (l : Latch). eqb l.var w) g.latches) h.0 in
    let a = none_counted (λ i. eqb i w) g.inputs l.0 in
    let b = none_counted (λ (l : Latch). eqb l.var w) g.latches l.1 in
    let c = none_counted (λ (q : Gate). eqb q.var w) g.gates h.1 in
    omega arith

pub kept_more : (defs : List ℕ) (g h : Netlist) (v y : ℕ) → IsKept defs g → Grows g h v y → 0 < v → v ≤ g.max_var → get_or defs v 0 ≡ 0 → 0 < y → IsKept (set defs v y) h
kept_more defs g h v y kept grows some le free pos =
    let lt : v < length defs = omega (arith, kept.len) in
    let same : get_or (set defs v y) v 0 ≡ y = get_or-set_same defs v y 0 lt in
    let other : (w : ℕ) → v ≢ w → get_or (set defs v y) w 0 ≡ get_or defs w 0 = λ w ne. get_or-set_other defs v w y 0 (λ e. ne (sym e)) in
    record {
      size = omega (arith, kept.size, grows.max_var);
      len = omega (arith, length-set defs v y, kept.len, grows.max_var);
      mark = λ w. grows.defined w ∙ mark_set defs v y w (is_defined g w) lt pos (kept.mark w);
      zero = other 0 (λ e. omega arith) ∙ kept.zero;
      leaf = λ w e. elim (grows.leaf w e) [
        | inl was ↦ let one = kept.leaf w was in other w (λ is. let q : get_or defs v 0 ≡ get_or defs w 0 = ap (λ (x : ℕ). get_or defs x 0) is in absurd (omega arith)) ∙ one
        | inr now ↦ ap (λ (x : ℕ). get_or (set defs v y) x 0) (sym now.0) ∙ same ∙ now.1
      ];
      gate = λ w k e. elim (cases_eq v w) [
        | inl is ↦ subst (λ (x : ℕ). (k < length h.gates) × HoldsAt (λ (q : Gate). q.var ≡ x) h.gates k) is (grows.new_gate k (sym same ∙ ap (λ (x : ℕ). get_or (set defs v y) x 0) is ∙ e))
        | inr ne ↦ grows.gate w k (kept.gate w k (sym (other w ne) ∙ e))
      ];
      own = λ k kl. elim (grows.place k kl) [
        | inl p ↦
            let o = kept.own k p.0 in
            let e : var_in h.gates k ≡ var_in g.gates k = ap (λ (q : Gate). q.var) p.1 in
            ap (λ (x : ℕ). get_or (set defs v y) x 0) e ∙ other (var_in g.gates k) (λ is. let q : get_or defs v 0 ≡ get_or defs (var_in g.gates k) 0 = ap (λ (x : ℕ). get_or defs x 0) is in absurd (omega arith)) ∙ o
        | inr p ↦ ap (λ (x : ℕ). get_or (set defs v y) x 0) p.1 ∙ same ∙ p.0
      ];
      within = λ k kl. elim (grows.place k kl) [
        | inl p ↦ subst (λ (n : ℕ). (var_in h.gates k ≤ n) × ((gate_in h.gates k).left ≤ 2 * n + 1) × ((gate_in h.gates k).right ≤ 2 * n + 1)) (sym grows.max_var)
            (subst (λ (q : Gate). (q.var ≤ g.max_var) × (q.left ≤ 2 * g.max_var + 1) × (q.right ≤ 2 * g.max_var + 1)) (sym p.1) (kept.within k p.0))
        | inr p ↦ (omega (arith, p.1, grows.max_var), omega (arith, p.2, grows.max_var), omega (arith, p.3, grows.max_var))
      ];
      nexts = subst (λ (n : ℕ). All (λ (l : Latch). l.next ≤ 2 * n + 1) h.latches) (sym grows.max_var) grows.nexts;
      few = grows.few;
      outs = subst (λ (n : ℕ). All (λ lit. lit ≤ 2 * n + 1) h.outputs) (sym grows.max_var) grows.outs;
      once = λ w. elim (cases_eq v w) [
        | inl is ↦
            let t = grows.times w in
            let e : eqb v w ≡ true = eq-eqb v w is in
            let f : is_defined g w ≡ false = kept.mark w ∙ ap is_set (ap (λ (x : ℕ). get_or defs x 0) (sym is) ∙ free) in
            let z = none_defined g w f in
            let u : times_defined h w ≡ times_defined g w + 1 = t ∙ rw e refl in
            omega arith
        | inr ne ↦
            let t = grows.times w in
            let e : eqb v w ≡ false = ne_eqb v w ne in
            let u : times_defined h w ≡ times_defined g w + 0 = t ∙ rw e refl in
            omega (arith, kept.once w)
      ];
      count = omega (arith, grows.count, kept.count, count_set defs v y lt free pos);
    }

or_last_1 : (a b c e : Bool) → (((a || e) || b) || c) ≡ (((a || b) || c) || e)
or_last_1 true b c e = refl
or_last_1 false true c true = refl
or_last_1 false true c false = refl
or_last_1 false false true true = refl
or_last_1 false false true false = refl
or_last_1 false false false true = refl
or_last_1 false false false false = refl

or_parts : (a b e : Bool) → ((a || e) || b) ≡ true → ((a || b) ≡ true) ⊎ (e ≡ true)
or_parts true b e h = inl refl
or_parts false b true h = inr refl
or_parts false b false h = inl h

or_parts_2 : (a b e : Bool) → (a || (b || e)) ≡ true → ((a || b) ≡ true) ⊎ (e ≡ true)
or_parts_2 true b e h = inl refl
or_parts_2 false true e h = inl refl
or_parts_2 false false e h = inr h

abbrev one : ℕ
one = 1

from_or : {P : Type 0} (v w : ℕ) → P ⊎ (eqb v w ≡ true) → P ⊎ ((v ≡ w) × (one ≡ one))
from_or v w (inl p) = inl p
from_or v w (inr e) = inr (eqb-true v w e, refl)

pub kept_input : (defs : List ℕ) (g : Netlist) (v : ℕ) → IsKept defs g → 0 < v → v ≤ g.max_var → get_or defs v 0 ≡ 0 → IsKept (set defs v 1) (record g { inputs = g.inputs ++ v ∷ [] })
kept_input defs g v kept some le free =
    kept_more defs g (record g { inputs = g.inputs ++ v ∷ [] }) v 1 kept
    (record {
      max_var = refl;
      defined = λ w. rw (any_push (λ i. eqb i w) g.inputs v) (or_last_1 (list_any (λ i. eqb i w) g.inputs) (list_any (λ (l : Latch). eqb l.var w) g.latches) (list_any (λ (q : Gate). eqb q.var w) g.gates) (eqb v w));
      leaf = λ w e.
          let h : ((list_any (λ i. eqb i w) g.inputs || eqb v w) || list_any (λ (l : Latch). eqb l.var w) g.latches) ≡ true = subst (λ (b : Bool). (b || list_any (λ (l : Latch). eqb l.var w) g.latches) ≡ true) (any_push (λ i. eqb i w) g.inputs v) e in
          from_or v w (or_parts (list_any (λ i. eqb i w) g.inputs) (list_any (λ (l : Latch). eqb l.var w) g.latches) (eqb v w) h);
      gate = λ w k h. h;
      place = λ k kl. inl (kl, refl);
      new_gate = λ k e. absurd (omega arith);
      nexts = kept.nexts;
      outs = kept.outs;
      few = kept.few;
      times = λ w. let p = count_push (λ i. eqb i w) g.inputs v in omega arith;
      count = omega (arith, length-append g.inputs (v ∷ []));
    }) some le free (omega arith)

or_last_2 : (a b c e : Bool) → ((a || (b || e)) || c) ≡ (((a || b) || c) || e)
or_last_2 true b c e = refl
or_last_2 false true c e = refl
or_last_2 false false c true = or_true c
  where
    or_true : (x : Bool) → true ≡ (x || true)
    or_true true = refl
    or_true false = refl
or_last_2 false false true false = refl
or_last_2 false false false false = refl

pub kept_latch : (defs : List ℕ) (g : Netlist) (l : Latch) → IsKept defs g → 0 < l.var → l.var ≤ g.max_var → l.next ≤ 2 * g.max_var + 1 → get_or defs l.var 0 ≡ 0 → IsKept (set defs l.var 1) (record g { latches = g.latches ++ l ∷ [] })
kept_latch defs g l kept some le nl free =
    kept_more defs g (record g { latches = g.latches ++ l ∷ [] }) l.var 1 kept
    (record {
      max_var = refl;
      defined = λ w. rw (any_push (λ (q : Latch). eqb q.var w) g.latches l) (or_last_2 (list_any (λ i. eqb i w) g.inputs) (list_any (λ (q : Latch). eqb q.var w) g.latches) (list_any (λ (q : Gate). eqb q.var w) g.gates) (eqb l.var w));
      leaf = λ w e.
          let h : (list_any (λ i. eqb i w) g.inputs || (list_any (λ (q : Latch). eqb q.var w) g.latches || eqb l.var w)) ≡ true = subst (λ (b : Bool). (list_any (λ i. eqb i w) g.inputs || b) ≡ true) (any_push (λ (q : Latch). eqb q.var w) g.latches l) e in
          from_or l.var w (or_parts_2 (list_any (λ i. eqb i w) g.inputs) (list_any (λ (q : Latch). eqb q.var w) g.latches) (eqb l.var w) h);
      gate = λ w k h. h;
      place = λ k kl. inl (kl, refl);
      new_gate = λ k e. absurd (omega arith);
      nexts = All-push (λ (q : Latch). q.next ≤ 2 * g.max_var + 1) g.latches l kept.nexts nl;
      outs = kept.outs;
      few = kept.few;
      times = λ w. let p = count_push (λ (q : Latch). eqb q.var w) g.latches l in omega arith;
      count = omega (arith, length-append g.latches (l ∷ []));
    }) some le free (omega arith)

or_last_3 : (a c e : Bool) → (a || (c || e)) ≡ ((a || c) || e)
or_last_3 true c e = refl
or_last_3 false c e = refl

pub kept_gate : (defs : List ℕ) (g : Netlist) (q : Gate) (n : ℕ) → n ≡ length g.gates + 2 → IsKept defs g → 0 < q.var → q.var ≤ g.max_var → q.left ≤ 2 * g.max_var + 1 → q.right ≤ 2 * g.max_var + 1 → get_or defs q.var 0 ≡ 0 → IsKept (set defs q.var n) (record g { gates = g.gates ++ q ∷ [] })
kept_gate defs g q n num kept some le ll rl free =
    kept_more defs g (record g { gates = g.gates ++ q ∷ [] }) q.var n kept
    (record {
      max_var = refl;
      defined = λ w. rw (any_push (λ (x : Gate). eqb x.var w) g.gates q) (or_last_3 (is_leaf g w) (list_any (λ (x : Gate). eqb x.var w) g.gates) (eqb q.var w));
      leaf = λ w e. inl e;
      gate = λ w k h. (omega (arith, h.0, length-append g.gates (q ∷ [])), λ d. subst (λ (x : Gate). x.var ≡ w) (sym (get_or-append g.gates (q ∷ []) d k h.0)) (h.1 d));
      new_gate = λ k e. let is : k ≡ length g.gates = omega arith in
          (omega (arith, length-append g.gates (q ∷ [])), λ d. ap (λ (x : Gate). x.var) (ap (λ (i : ℕ). get_or (g.gates ++ q ∷ []) i d) is ∙ get_or-append_seam g.gates q [] d));
      place = λ k kl. elim (cases_lt k (length g.gates)) [
        | inl lt ↦ inl (lt, get_or-append g.gates (q ∷ []) no_gate k lt)
        | inr ge ↦
            let is : k ≡ length g.gates = omega (arith, length-append g.gates (q ∷ [])) in
            let at : gate_in (g.gates ++ q ∷ []) k ≡ q = ap (λ (i : ℕ). get_or (g.gates ++ q ∷ []) i no_gate) is ∙ get_or-append_seam g.gates q [] no_gate in
            inr (omega arith, ap (λ (x : Gate). x.var) at, omega (arith, ap (λ (x : Gate). x.left) at), omega (arith, ap (λ (x : Gate). x.right) at))
      ];
      nexts = kept.nexts;
      outs = kept.outs;
      few = kept.few;
      times = λ w. let p = count_push (λ (x : Gate). eqb x.var w) g.gates q in omega arith;
      count = omega (arith, length-append g.gates (q ∷ []));
    }) some le free (omega arith)

pub few_gates : (defs : List ℕ) (g : Netlist) → IsKept defs g → length g.gates ≤ 1000001
few_gates defs g kept = omega (arith, kept.count, kept.len, kept.size, count_by-le-length is_set defs)

-- what a builder keeps is an index of its gates
pub indexed : (defs : List ℕ) (g : Netlist) → IsKept defs g → Indexes defs g.gates
indexed defs g kept = record {
  few = omega (arith, kept.len, kept.size);
  gate = λ v k e. let p = kept.gate v k e in (p.0, p.1 no_gate);
  own = kept.own;
  within = λ k kl. let p = kept.within k kl in (omega (arith, p.1, kept.len), omega (arith, p.2, kept.len), omega (arith, p.0, kept.len));
}

pub kept_output : (defs : List ℕ) (g : Netlist) (lit : ℕ) → IsKept defs g → length g.outputs < 1000000 → lit ≤ 2 * g.max_var + 1 → IsKept defs (record g { outputs = g.outputs ++ lit ∷ [] })
kept_output defs g lit kept room le = record {
  few = omega (arith, length-append g.outputs (lit ∷ []));
  size = kept.size;
  len = kept.len;
  mark = kept.mark;
  zero = kept.zero;
  leaf = kept.leaf;
  gate = kept.gate;
  own = kept.own;
  within = kept.within;
  nexts = kept.nexts;
  once = kept.once;
  outs = All-push (λ x. x ≤ 2 * g.max_var + 1) g.outputs lit kept.outs le;
  count = kept.count;
}
