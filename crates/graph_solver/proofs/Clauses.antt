-- Clauses over nodes that hold where the facts do.
use Rattle.std.proofs.Common.{◌≡◌, ◌∙◌, ◌<◌, ◌≤◌, ◌/◌, ◌++◌, ◌∷◌, [], ◌⊎◌, inl, inr, ◌&&◌, not, ℕ, Bool, true, false, List, length, get_or, refl, ap, sym, subst, subst₂, arith, ⊎_elim}
use Rattle.std.specs.List.{All}
use Rattle.std.proofs.lemmas.List.{get_or_append_left, length-append}
use Rattle.std.proofs.lemmas.List.Elements.{All-cons, All-nil, All-push}
use Rattle.circ_model.specs.Meaning.{literal, literal_value, negated}
use Rattle.circ_model.proofs.Literals.{half_literal, negated_value, signed_literal}
use Rattle.and_graph.specs.declared.node.Node.{Node}
use Rattle.and_graph.specs.Graphs.{AllEqual, Obeys, product_of}
use Rattle.graph_solver.specs.Known.{IsKept, IsTold, Known}

-- a clause of one, two and three literals
pub one_told : (nodes : List Node) (facts : List (ℕ × ℕ)) (p : ℕ) → p / 2 < length nodes → ((v : ℕ → Bool) → Obeys nodes v → literal_value v p ≡ true) → IsTold nodes facts (p ∷ [])
one_told nodes facts p lt is = record {
  within = All-cons (λ (l : ℕ). l / 2 < length nodes) p [] lt (All-nil (λ (l : ℕ). l / 2 < length nodes));
  holds = λ v obeys equal. (0, p, omega arith, refl, is v obeys);
}

pub two_told : (nodes : List Node) (facts : List (ℕ × ℕ)) (p q : ℕ) → p / 2 < length nodes → q / 2 < length nodes
    → ((v : ℕ → Bool) → Obeys nodes v → AllEqual v facts → (literal_value v p ≡ true) ⊎ (literal_value v q ≡ true)) → IsTold nodes facts (p ∷ q ∷ [])
two_told nodes facts p q first second is =
    let P : ℕ → Type 0 = λ (l : ℕ). l / 2 < length nodes in
    record {
      within = All-cons P p (q ∷ []) first (All-cons P q [] second (All-nil P));
      holds = λ v obeys equal. ⊎_elim (λ (e : literal_value v p ≡ true). (0, p, omega arith, refl, e)) (λ (e : literal_value v q ≡ true). (1, q, omega arith, refl, e)) (is v obeys equal);
    }

three_told : (nodes : List Node) (facts : List (ℕ × ℕ)) (p q r : ℕ) → p / 2 < length nodes → q / 2 < length nodes → r / 2 < length nodes
    → ((v : ℕ → Bool) → Obeys nodes v → (literal_value v p ≡ true) ⊎ ((literal_value v q ≡ true) ⊎ (literal_value v r ≡ true))) → IsTold nodes facts (p ∷ q ∷ r ∷ [])
three_told nodes facts p q r first second third is =
    let P : ℕ → Type 0 = λ (l : ℕ). l / 2 < length nodes in
    record {
      within = All-cons P p (q ∷ r ∷ []) first (All-cons P q (r ∷ []) second (All-cons P r [] third (All-nil P)));
      holds = λ v obeys equal.
          ⊎_elim (λ (e : literal_value v p ≡ true). (0, p, omega arith, refl, e))
          (λ (more : (literal_value v q ≡ true) ⊎ (literal_value v r ≡ true)). ⊎_elim (λ (e : literal_value v q ≡ true). (1, q, omega arith, refl, e)) (λ (e : literal_value v r ≡ true). (2, r, omega arith, refl, e)) more)
          (is v obeys);
    }

-- what the values of a gate have to do with one another
below_left : (n a b : Bool) → n ≡ (a && b) → (not n ≡ true) ⊎ (a ≡ true)
below_left n true b e = inr refl
below_left n false b e = inl (ap not e)

below_right : (n a b : Bool) → n ≡ (a && b) → (not n ≡ true) ⊎ (b ≡ true)
below_right n a true e = inr refl
below_right n true false e = inl (ap not e)
below_right n false false e = inl (ap not e)

above : (n a b : Bool) → n ≡ (a && b) → (n ≡ true) ⊎ ((not a ≡ true) ⊎ (not b ≡ true))
above n true true e = inl e
above n true false e = inr (inr refl)
above n false b e = inr (inl refl)

implies : (x y : Bool) → x ≡ y → (not x ≡ true) ⊎ (y ≡ true)
implies true y e = inr (sym e)
implies false y e = inl refl

implied : (x y : Bool) → x ≡ y → (x ≡ true) ⊎ (not y ≡ true)
implied true y e = inl refl
implied false y e = inr (ap not (sym e))

own_value : (v : ℕ → Bool) (node own : ℕ) → own ≡ literal node false → literal_value v own ≡ v node
own_value v node own e = ap (literal_value v) e ∙ signed_literal v node false

pub gate_left : (nodes : List Node) (node own a b : ℕ) → own ≡ literal node false → ((v : ℕ → Bool) → Obeys nodes v → v node ≡ product_of v a b) → (v : ℕ → Bool) → Obeys nodes v → (literal_value v (negated own) ≡ true) ⊎ (literal_value v a ≡ true)
gate_left nodes node own a b e is v obeys =
    subst (λ (x : Bool). (x ≡ true) ⊎ (literal_value v a ≡ true)) (sym (negated_value v own)) (below_left (literal_value v own) (literal_value v a) (literal_value v b) (own_value v node own e ∙ is v obeys))

pub gate_right : (nodes : List Node) (node own a b : ℕ) → own ≡ literal node false → ((v : ℕ → Bool) → Obeys nodes v → v node ≡ product_of v a b) → (v : ℕ → Bool) → Obeys nodes v → (literal_value v (negated own) ≡ true) ⊎ (literal_value v b ≡ true)
gate_right nodes node own a b e is v obeys =
    subst (λ (x : Bool). (x ≡ true) ⊎ (literal_value v b ≡ true)) (sym (negated_value v own)) (below_right (literal_value v own) (literal_value v a) (literal_value v b) (own_value v node own e ∙ is v obeys))

gate_told : (nodes : List Node) (facts : List (ℕ × ℕ)) (node own a b : ℕ) → own ≡ literal node false → own / 2 < length nodes → negated a / 2 < length nodes → negated b / 2 < length nodes → ((v : ℕ → Bool) → Obeys nodes v → v node ≡ product_of v a b) → IsTold nodes facts (own ∷ negated a ∷ negated b ∷ [])
gate_told nodes facts node own a b e first second third is =
    three_told nodes facts own (negated a) (negated b) first second third
    (λ v obeys. subst₂ (λ (x y : Bool). (literal_value v own ≡ true) ⊎ ((x ≡ true) ⊎ (y ≡ true))) (sym (negated_value v a)) (sym (negated_value v b))
    (above (literal_value v own) (literal_value v a) (literal_value v b) (own_value v node own e ∙ is v obeys)))

pub half_negated : (l : ℕ) → negated l / 2 ≡ l / 2
half_negated l = half_literal (l / 2) _

-- the same as the code has it
pub gate_clause : (nodes : List Node) (facts : List (ℕ × ℕ)) (node own a b na nb x y z : ℕ) → own ≡ literal node false → na ≡ negated a → nb ≡ negated b → x ≡ own → y ≡ na → z ≡ nb → node < length nodes → a / 2 < length nodes → b / 2 < length nodes
    → ((v : ℕ → Bool) → Obeys nodes v → v node ≡ product_of v a b) → IsTold nodes facts (x ∷ y ∷ z ∷ [])
gate_clause nodes facts node own a b na nb x y z eo ea eb ex ey ez within left right is =
    let under : (l m : ℕ) → l / 2 ≡ m / 2 → m / 2 < length nodes → l / 2 < length nodes = λ l m e lt. subst (λ (h : ℕ). h < length nodes) (sym e) lt in
    let told = gate_told nodes facts node (literal node false) a b refl (subst (λ (h : ℕ). h < length nodes) (sym (half_literal node false)) within) (under (negated a) a (half_negated a) left) (under (negated b) b (half_negated b) right) is in
    subst (λ (l : ℕ). IsTold nodes facts (x ∷ y ∷ l ∷ [])) (sym (ez ∙ eb))
    (subst (λ (l : ℕ). IsTold nodes facts (x ∷ l ∷ negated b ∷ [])) (sym (ey ∙ ea))
    (subst (λ (l : ℕ). IsTold nodes facts (l ∷ negated a ∷ negated b ∷ [])) (sym (ex ∙ eo)) told))

-- two literals that are equal, as two clauses
pub equal_first : (v : ℕ → Bool) (x y nx : ℕ) → nx ≡ negated x → literal_value v x ≡ literal_value v y → (literal_value v nx ≡ true) ⊎ (literal_value v y ≡ true)
equal_first v x y nx e same = subst (λ (b : Bool). (b ≡ true) ⊎ (literal_value v y ≡ true)) (sym (ap (literal_value v) e ∙ negated_value v x)) (implies (literal_value v x) (literal_value v y) same)

pub equal_second : (v : ℕ → Bool) (x y ny : ℕ) → ny ≡ negated y → literal_value v x ≡ literal_value v y → (literal_value v x ≡ true) ⊎ (literal_value v ny ≡ true)
equal_second v x y ny e same = subst (λ (b : Bool). (literal_value v x ≡ true) ⊎ (b ≡ true)) (sym (ap (literal_value v) e ∙ negated_value v y)) (implied (literal_value v x) (literal_value v y) same)

-- the constant is false
pub low_told : (nodes : List Node) (facts : List (ℕ × ℕ)) → 0 < length nodes → IsTold nodes facts (1 ∷ [])
low_told nodes facts some = one_told nodes facts 1 (omega arith) (λ v obeys. ap not obeys.low)

-- a fact more says no less
fewer_equal : (v : ℕ → Bool) (facts : List (ℕ × ℕ)) (p : ℕ × ℕ) → AllEqual v (facts ++ p ∷ []) → AllEqual v facts
fewer_equal v facts p all k d lt =
    let longer : k < length (facts ++ p ∷ []) = omega (arith, length-append facts (p ∷ [])) in
    subst (λ (x : ℕ × ℕ). literal_value v x.0 ≡ literal_value v x.1) (get_or_append_left facts (p ∷ []) d k lt) (all k d longer)

more_facts : (nodes : List Node) (facts : List (ℕ × ℕ)) (p : ℕ × ℕ) (clauses : List (List ℕ)) → All (IsTold nodes facts) clauses → All (IsTold nodes (facts ++ p ∷ [])) clauses
more_facts nodes facts p clauses all k d lt = let is = all k d lt in record { within = is.within; holds = λ v obeys equal. is.holds v obeys (fewer_equal v facts p equal) }

-- the newest fact
pub newest : (v : ℕ → Bool) (facts : List (ℕ × ℕ)) (p : ℕ × ℕ) → AllEqual v (facts ++ p ∷ []) → literal_value v p.0 ≡ literal_value v p.1
newest v facts p all =
    let longer : length facts < length (facts ++ p ∷ []) = omega (arith, length-append facts (p ∷ [])) in
    subst (λ (x : ℕ × ℕ). literal_value v x.0 ≡ literal_value v x.1) (get_or_push_last facts p) (all (length facts) p longer)
  where
    get_or_push_last : (xs : List (ℕ × ℕ)) (x : ℕ × ℕ) → get_or (xs ++ x ∷ []) (length xs) x ≡ x
    get_or_push_last [] x = refl
    get_or_push_last (y ∷ xs) x = get_or_push_last xs x

-- of a graph with fewer valuations and no fewer nodes it holds too
stays : (nodes after : List Node) (facts : List (ℕ × ℕ)) (clause : List ℕ) → length nodes ≤ length after → ((v : ℕ → Bool) → Obeys after v → Obeys nodes v) → IsTold nodes facts clause → IsTold after facts clause
stays nodes after facts clause more fewer is = record { within = λ i e within. let was = is.within i e within in omega arith; holds = λ v obeys equal. is.holds v (fewer v obeys) equal }

pub kept_stays : (nodes after : List Node) (known : Known) → length nodes ≤ length after → ((v : ℕ → Bool) → Obeys after v → Obeys nodes v) → IsKept nodes known → IsKept after known
kept_stays nodes after known more fewer kept = record { all = λ k d lt. stays nodes after known.facts (get_or known.clauses k d) more fewer (kept.all k d lt) }

-- a clause more
pub kept_more : (nodes : List Node) (facts : List (ℕ × ℕ)) (clauses : List (List ℕ)) (clause : List ℕ) → IsKept nodes (record { facts = facts; clauses = clauses }) → IsTold nodes facts clause → IsKept nodes (record { facts = facts; clauses = clauses ++ clause ∷ [] })
kept_more nodes facts clauses clause kept is = record { all = All-push (IsTold nodes facts) clauses clause kept.all is }

-- a fact more
pub kept_under : (nodes : List Node) (facts : List (ℕ × ℕ)) (p : ℕ × ℕ) (clauses : List (List ℕ)) → IsKept nodes (record { facts = facts; clauses = clauses }) → IsKept nodes (record { facts = facts ++ p ∷ []; clauses = clauses })
kept_under nodes facts p clauses kept = record { all = more_facts nodes facts p clauses kept.all }
