-- What the nodes of a graph say, read, written and added to.
use Rattle.std.proofs.Common.{true, ◌≡◌, ◌≢◌, ◌∙◌, ◌<◌, ◌≤◌, ◌/◌, ◌^◌, ◌+◌, ◌++◌, ◌∷◌, [], ◌⊎◌, inl, inr, ℕ, Bool, false, List, length, set, get_or, ap, ap₂, refl, sym, subst, subst₂, arith, ⊎_elim}
use Rattle.std.proofs.lemmas.Bool.{cases_eq}
use Rattle.std.proofs.lemmas.List.{get_or_default, get_or-set_other, get_or_append_left, get_or_push, length-append, length-set}
use Rattle.std.proofs.lemmas.Grind.{get_or-set_at}
use Rattle.circ_model.specs.Meaning.{is_odd, literal, literal_value, signed}
use Rattle.circ_model.proofs.Literals.{half_literal, signed_literal}
use Rattle.and_graph.specs.declared.node.Node.{Node}
use Rattle.and_graph.specs.Graphs.{Agrees, AreEqual, AreSound, GrowsTo, IsGate, IsGraph, IsLeaf, Obeys, node_at, product_of}

abbrev none : Node
none = record { left = 0; right = 0; canonical = 0 }

pub canonical_lower : (nodes : List Node) (n : ℕ) (node : Node) → AreSound nodes → n < length nodes → node ≡ get_or nodes n node → node.canonical / 2 ≤ n
canonical_lower nodes n node is within e =
    subst (λ (x : Node). x.canonical / 2 ≤ n) (get_or_default nodes n (record { left = 0; right = 0; canonical = 0 }) node within ∙ sym e) (is.lower n within)

pub canonical_value : (nodes : List Node) (n : ℕ) (node : Node) (v : ℕ → Bool) → Agrees nodes v → n < length nodes → node ≡ get_or nodes n node → literal_value v node.canonical ≡ v n
canonical_value nodes n node v is within e =
    sym (is.at n within ∙ ap (λ (x : Node). literal_value v x.canonical) (get_or_default nodes n (record { left = 0; right = 0; canonical = 0 }) node within ∙ sym e))

-- what holds of each node still does after one that holds is added, or written
each_added : (P : ℕ → Node → Type 0) (xs : List Node) (x d : Node) → ((n : ℕ) → n < length xs → P n (get_or xs n d)) → P (length xs) x → (n : ℕ) → n < length (xs ++ x ∷ []) → P n (get_or (xs ++ x ∷ []) n d)
each_added P xs x d each here n lt =
    let size = length-append xs (x ∷ []) in
    ⊎_elim
    (λ (e : n ≡ length xs). subst (P n) (sym (get_or_push xs x d n (sym e))) (subst (λ (m : ℕ). P m x) (sym e) here))
    (λ (ne : n ≢ length xs). let less : n < length xs = omega arith in subst (P n) (sym (get_or_append_left xs (x ∷ []) d n less)) (each n less))
    (cases_eq n (length xs))

each_written : (P : ℕ → Node → Type 0) (xs : List Node) (p : ℕ) (x d : Node) → p < length xs → ((q : ℕ) → q < length xs → P q (get_or xs q d)) → P p x → (q : ℕ) → q < length (set xs p x) → P q (get_or (set xs p x) q d)
each_written P xs p x d within each here q lt =
    let less : q < length xs = omega (arith, length-set xs p x) in
    ⊎_elim
    (λ (e : q ≡ p). subst (P q) (sym (get_or-set_at xs p q x d e within)) (subst (λ (n : ℕ). P n x) (sym e) here))
    (λ (ne : q ≢ p). subst (P q) (sym (get_or-set_other xs p q x d ne)) (each q less))
    (cases_eq q p)

pub own_value : (v : ℕ → Bool) (n lit : ℕ) → lit ≡ literal n false → v n ≡ literal_value v lit
own_value v n lit e = sym (signed_literal v n false) ∙ ap (literal_value v) (sym e)

own_place : (n lit : ℕ) → lit ≡ literal n false → lit / 2 ≤ n
own_place n lit e = omega (arith, half_literal n false, ap (λ (m : ℕ). m / 2) e)

pub grown : (nodes : List Node) (node : Node) → GrowsTo nodes (nodes ++ node ∷ [])
grown nodes node = record { size = omega (arith, length-append nodes (node ∷ [])); same = λ n lt. get_or_append_left nodes (node ∷ []) (record { left = 0; right = 0; canonical = 0 }) n lt }

-- each valuation is one of what there was
pub obeys_before : (nodes more : List Node) (v : ℕ → Bool) → GrowsTo nodes more → Obeys more v → Obeys nodes v
obeys_before nodes more v on is = let s = on.size in record { low = is.low; at = λ n lt. is.at n (omega arith) ∙ ap (λ (x : Node). product_of v x.left x.right) (on.same n lt) }

pub added : (nodes : List Node) (node : Node) → IsGraph nodes → length nodes + 1 < 2 ^ 31 → IsLeaf (length nodes) node ⊎ IsGate (length nodes) node → node.canonical ≡ literal (length nodes) false → IsGraph (nodes ++ node ∷ [])
added nodes node is few rests own = record {
  some = omega (arith, is.some, length-append nodes (node ∷ []));
  few = omega (arith, length-append nodes (node ∷ []));
  sound = record {
    rests = each_added (λ n x. IsLeaf n x ⊎ IsGate n x) nodes node (record { left = 0; right = 0; canonical = 0 }) is.sound.rests rests;
    lower = each_added (λ n x. x.canonical / 2 ≤ n) nodes node (record { left = 0; right = 0; canonical = 0 }) is.sound.lower (own_place (length nodes) node.canonical own);
  };
  agree = λ v obeys. record {
    low = obeys.low;
    at = each_added (λ n x. v n ≡ literal_value v x.canonical) nodes node (record { left = 0; right = 0; canonical = 0 }) (is.agree v (obeys_before nodes (nodes ++ node ∷ []) v (grown nodes node) obeys)).at (own_value v (length nodes) node.canonical own);
  };
}

-- the value of the node that was added
pub added_value : (nodes : List Node) (node : Node) (v : ℕ → Bool) (lit : ℕ) → Obeys (nodes ++ node ∷ []) v → lit ≡ literal (length nodes) false → literal_value v lit ≡ product_of v node.left node.right
added_value nodes node v lit is own =
    sym (own_value v (length nodes) lit own) ∙ is.at (length nodes) (omega (arith, length-append nodes (node ∷ [])))
    ∙ ap (λ (x : Node). product_of v x.left x.right) (get_or_push nodes node (record { left = 0; right = 0; canonical = 0 }) (length nodes) refl)

-- a valuation agrees with the canonical literals, as the code reads them
pub agrees_by : (nodes was slice : List Node) (v : ℕ → Bool) → IsGraph nodes → nodes ≡ was → slice ≡ nodes → Obeys was v → Agrees slice v
agrees_by nodes was slice v is view read obeys = subst (λ (xs : List Node). Agrees xs v) (sym read) (is.agree v (subst (λ (xs : List Node). Obeys xs v) (sym view) obeys))

-- a node that is known by its operands
pub known_value : (was slice : List Node) (v : ℕ → Bool) (n a b own lit : ℕ) → slice ≡ was → Obeys was v → n < length slice → (node_at slice n).left ≡ a → (node_at slice n).right ≡ b → own ≡ literal n false → literal_value v lit ≡ literal_value v own → literal_value v lit ≡ product_of v a b
known_value was slice v n a b own lit read is within left right of same =
    let obeys : Obeys slice v = subst (λ (xs : List Node). Obeys xs v) (sym read) is in
    same ∙ sym (own_value v n own of) ∙ obeys.at n within ∙ ap₂ (λ (x y : ℕ). product_of v x y) left right

pub leaf_added : (nodes : List Node) (own : ℕ) → IsGraph nodes → length nodes + 1 < 2 ^ 31 → own ≡ literal (length nodes) false → IsGraph (nodes ++ record { left = own; right = own; canonical = own } ∷ [])
leaf_added nodes own is few e = added nodes (record { left = own; right = own; canonical = own }) is few (inl (e, e)) e

pub gate_added : (nodes : List Node) (a b own : ℕ) → IsGraph nodes → length nodes + 1 < 2 ^ 31 → a / 2 < length nodes → b / 2 < length nodes → own ≡ literal (length nodes) false → IsGraph (nodes ++ record { left = a; right = b; canonical = own } ∷ [])
gate_added nodes a b own is few left right e = added nodes (record { left = a; right = b; canonical = own }) is few (inr (left, right)) e

pub read_is : (nodes : List Node) (n : ℕ) (node : Node) → n < length nodes → node ≡ get_or nodes n node → node ≡ node_at nodes n
read_is nodes n node within e = e ∙ sym (get_or_default nodes n none node within)

pub no_growth : (nodes : List Node) → GrowsTo nodes nodes
no_growth nodes = record { size = omega arith; same = λ n lt. refl }

-- the operands stay where a canonical literal is written
pub same_operands : (nodes : List Node) (n : ℕ) (node : Node) → n < length nodes → node.left ≡ (node_at nodes n).left → node.right ≡ (node_at nodes n).right
    → (p : ℕ) → ((node_at (set nodes n node) p).left ≡ (node_at nodes p).left) × ((node_at (set nodes n node) p).right ≡ (node_at nodes p).right)
same_operands nodes n node within left right p =
    ⊎_elim
    (λ (e : p ≡ n). let at = get_or-set_at nodes n p node none e within in (
      ap (λ (x : Node). x.left) at ∙ left ∙ ap (λ (q : ℕ). (node_at nodes q).left) (sym e),
      ap (λ (x : Node). x.right) at ∙ right ∙ ap (λ (q : ℕ). (node_at nodes q).right) (sym e),
    ))
    (λ (ne : p ≢ n). let at = get_or-set_other nodes n p node none ne in (ap (λ (x : Node). x.left) at, ap (λ (x : Node). x.right) at))
    (cases_eq p n)

pub obeys_merged : (nodes : List Node) (n : ℕ) (node : Node) (v : ℕ → Bool) → n < length nodes → node.left ≡ (node_at nodes n).left → node.right ≡ (node_at nodes n).right → Obeys (set nodes n node) v → Obeys nodes v
obeys_merged nodes n node v within left right is = record {
  low = is.low;
  at = λ p lt.
      let same = same_operands nodes n node within left right p in
      is.at p (omega (arith, length-set nodes n node)) ∙ ap₂ (λ (x y : ℕ). product_of v x y) same.0 same.1;
}

pub merged_obeys : (nodes : List Node) (n : ℕ) (node : Node) (v : ℕ → Bool) → n < length nodes → node.left ≡ (node_at nodes n).left → node.right ≡ (node_at nodes n).right → Obeys nodes v → Obeys (set nodes n node) v
merged_obeys nodes n node v within left right is = record {
  low = is.low;
  at = λ p lt.
      let same = same_operands nodes n node within left right p in
      is.at p (omega (arith, length-set nodes n node)) ∙ ap₂ (λ (x y : ℕ). product_of v x y) (sym same.0) (sym same.1);
}

-- the constant alone
pub begins : IsGraph (record { left = 0; right = 0; canonical = 0 } ∷ [])
begins = record {
  some = omega arith;
  few = omega arith;
  sound = record {
    rests = λ n lt. let e : n ≡ 0 = omega arith in subst (λ (m : ℕ). IsLeaf m (node_at (none ∷ []) m) ⊎ IsGate m (node_at (none ∷ []) m)) (sym e) (inl (refl, refl));
    lower = λ n lt. let e : n ≡ 0 = omega arith in subst (λ (m : ℕ). (node_at (none ∷ []) m).canonical / 2 ≤ m) (sym e) (omega arith);
  };
  agree = λ v obeys. record { low = obeys.low; at = λ n lt. let e : n ≡ 0 = omega arith in subst (λ (m : ℕ). v m ≡ literal_value v (node_at (none ∷ []) m).canonical) (sym e) refl };
}

-- a canonical literal, written
pub merged : (nodes : List Node) (n to lit : ℕ) (node : Node) → IsGraph nodes → n < length nodes → to / 2 ≤ n → lit / 2 ≤ to / 2 → AreEqual nodes (literal n false) to
    → ((v : ℕ → Bool) → Agrees nodes v → literal_value v lit ≡ literal_value v to) → node.left ≡ (node_at nodes n).left → node.right ≡ (node_at nodes n).right → node.canonical ≡ lit → IsGraph (set nodes n node)
merged nodes n to lit node is within lower below equal canonical left right own = record {
  some = omega (arith, is.some, length-set nodes n node);
  few = omega (arith, is.few, length-set nodes n node);
  sound = record {
    rests = each_written (λ q x. IsLeaf q x ⊎ IsGate q x) nodes n node none within is.sound.rests (subst₂ (λ (l r : ℕ). ((l ≡ literal n false) × (r ≡ literal n false)) ⊎ ((l / 2 < n) × (r / 2 < n))) (sym left) (sym right) (is.sound.rests n within));
    lower = each_written (λ q x. x.canonical / 2 ≤ q) nodes n node none within is.sound.lower (subst (λ (c : ℕ). c / 2 ≤ n) (sym own) (omega arith));
  };
  agree = λ v obeys.
      let before = obeys_merged nodes n node v within left right obeys in
      record {
        low = obeys.low;
        at = each_written (λ q x. v q ≡ literal_value v x.canonical) nodes n node none within (is.agree v before).at
            (own_value v n (literal n false) refl ∙ equal v before ∙ sym (canonical v (is.agree v before)) ∙ ap (literal_value v) (sym own));
      };
}

signed-same : (s b : Bool) → signed s (signed s b) ≡ b
signed-same true true = refl
signed-same true false = refl
signed-same false b = refl

-- two canonical literals of what is equal: the node of the one has the value of the other, turned
pub turned_equal : (nodes was slice others : List Node) (a b x y n to : ℕ) (sign : Bool) → IsGraph nodes → nodes ≡ was → slice ≡ nodes → others ≡ nodes → AreEqual was a b → n ≡ y / 2 → sign ≡ is_odd y
    → ((v : ℕ → Bool) → Agrees slice v → literal_value v x ≡ literal_value v a) → ((v : ℕ → Bool) → Agrees others v → literal_value v y ≡ literal_value v b)
    → ((v : ℕ → Bool) → literal_value v to ≡ signed sign (literal_value v x)) → AreEqual was (literal n false) to
turned_equal nodes was slice others a b x y n to sign is view read reads equal node odd at_x at_y turned v obeys =
    sym (own_value v n (literal n false) refl) ∙ ap v node ∙ sym (signed-same (is_odd y) (v (y / 2)))
    ∙ ap (signed (is_odd y)) (at_y v (agrees_by nodes was others v is view reads obeys) ∙ sym (equal v obeys) ∙ sym (at_x v (agrees_by nodes was slice v is view read obeys)))
    ∙ ap (λ (s : Bool). signed s (literal_value v x)) (sym odd) ∙ sym (turned v)

pub equal_back : (nodes : List Node) (a b : ℕ) → AreEqual nodes a b → AreEqual nodes b a
equal_back nodes a b equal v obeys = sym (equal v obeys)
