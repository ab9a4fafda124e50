-- Lemmas: what is learned of a derivation, and what a lemma says of a cone.
use Rattle.std.proofs.Common.{◌≡◌, ◌≢◌, ◌∙◌, ◌≤◌, ◌<◌, ◌-◌, ◌+◌, ℕ, ℤ, pos, Bool, true, false, List, [], ◌∷◌, ◌++◌, length, get_or, map, take, refl, sym, ap, subst, arith, ⊎_elim}
use Rattle.std.proofs.lemmas.Bool.{and_from, cases_eq}
use Rattle.std.proofs.lemmas.List.{get_or_default, get_or-take, get_or_append_left, get_or_push, length-append, length-take-le}
use Rattle.std.proofs.lemmas.List.Folds.{list_all-append}
use Rattle.circ_model.specs.Meaning.{literal_value}
use Rattle.cnf_store.specs.Clauses.{AreLiterals, Formula, IsLiteral, clause_true, literal_true, satisfies}
use Rattle.sat_log.specs.Derivations.{Line, line_at, clause_at, clauses_of, AllFollow}
use Rattle.sat_log.proofs.Soundness.{clause_in, some_true, true_some}
use Rattle.and_graph.specs.declared.node.Node.{Node}
use Rattle.and_graph.specs.Graphs.{GrowsTo, Obeys}
use Rattle.and_graph.specs.Cones.{IsCone, Shows}
use Rattle.and_graph.specs.Lemmas.{AreLemmas, ArePureHints, ClauseHolds, GivenHold, IsPureHint, PureHold, SomeHolds, Extends}
use Rattle.and_graph.proofs.ConeMembers.{cone_more, goes_on_same, values_show}
use Rattle.and_graph.proofs.Nodes.{obeys_before}
use Rattle.and_graph.proofs.Pure.{follow_at, line_clause, line_true}

-- a clause over members, written over nodes
pub lemma_added : (nodes : List Node) (members row : List ℕ) (clause : List ℤ) (clauses : List (List ℕ)) → length row ≡ length clause
    → ((v : ℕ → Bool) (a : List Bool) (j : ℕ) (d : ℤ) → Shows members v a → j < length clause → literal_value v (get_or row j 0) ≡ literal_true a (get_or clause j d))
    → ClauseHolds nodes members clause → AreLemmas nodes clauses → AreLemmas nodes (clauses ++ row ∷ [])
lemma_added nodes members row clause clauses size each holds are = record {
  hold = λ i v lt obeys.
      let len = length-append clauses (row ∷ []) in
      ⊎_elim
      (λ (e : i ≡ length clauses). subst (SomeHolds v) (sym (get_or_push clauses row [] i (sym e))) (new v obeys))
      (λ (ne : i ≢ length clauses). let less : i < length clauses = omega arith in subst (SomeHolds v) (sym (get_or_append_left clauses (row ∷ []) [] i less)) (are.hold i v less obeys))
      (cases_eq i (length clauses));
}
  where
    new : (v : ℕ → Bool) → Obeys nodes v → SomeHolds v row
    new v obeys =
        let a : List Bool = map v members in
        let (l, (k, lt, e), t) = some_true a clause (holds v a obeys (values_show members v)) in
        record { at = k; within = omega arith; holds = each v a k l (values_show members v) lt ∙ ap (literal_true a) e ∙ t }

-- one literal more
pub row_pushed : (members row new : List ℕ) (clause : List ℤ) (x i : ℕ) → new ≡ row ++ x ∷ [] → length row ≡ i → i < length clause
    → ((v : ℕ → Bool) (a : List Bool) (j : ℕ) (d : ℤ) → Shows members v a → j < i → literal_value v (get_or row j 0) ≡ literal_true a (get_or clause j d))
    → ((v : ℕ → Bool) (a : List Bool) (d : ℤ) → Shows members v a → literal_value v x ≡ literal_true a (get_or clause i d))
    → (v : ℕ → Bool) (a : List Bool) (j : ℕ) (d : ℤ) → Shows members v a → j < i + 1 → literal_value v (get_or new j 0) ≡ literal_true a (get_or clause j d)
row_pushed members row new clause x i is size within each one v a j d shown lt =
    ap (λ (xs : List ℕ). literal_value v (get_or xs j 0)) is
    ∙ ⊎_elim
    (λ (e : j ≡ i). ap (literal_value v) (get_or_push row x 0 j (size ∙ sym e)) ∙ one v a d shown ∙ ap (λ (k : ℕ). literal_true a (get_or clause k d)) (sym e))
    (λ (ne : j ≢ i). ap (literal_value v) (get_or_append_left row (x ∷ []) 0 j (omega arith)) ∙ each v a j d shown (omega arith))
    (cases_eq j i)

-- and one literal more of a lemma, written over members
pub clause_pushed : (nodes : List Node) (members lemma : List ℕ) (clause new : List ℤ) (x : ℤ) (i : ℕ) → new ≡ clause ++ x ∷ [] → length clause ≡ i
    → ((v : ℕ → Bool) (a : List Bool) (j : ℕ) (d : ℤ) → Obeys nodes v → Shows members v a → j < i → literal_true a (get_or clause j d) ≡ literal_value v (get_or lemma j 0))
    → ((v : ℕ → Bool) (a : List Bool) → Obeys nodes v → Shows members v a → literal_true a x ≡ literal_value v (get_or lemma i 0))
    → (v : ℕ → Bool) (a : List Bool) (j : ℕ) (d : ℤ) → Obeys nodes v → Shows members v a → j < i + 1 → literal_true a (get_or new j d) ≡ literal_value v (get_or lemma j 0)
clause_pushed nodes members lemma clause new x i is size each one v a j d obeys shown lt =
    ap (λ (xs : List ℤ). literal_true a (get_or xs j d)) is
    ∙ ⊎_elim
    (λ (e : j ≡ i). ap (literal_true a) (get_or_push clause x d j (size ∙ sym e)) ∙ one v a obeys shown ∙ ap (λ (k : ℕ). literal_value v (get_or lemma k 0)) (sym e))
    (λ (ne : j ≢ i). ap (literal_true a) (get_or_append_left clause (x ∷ []) d j (omega arith)) ∙ each v a j d obeys shown (omega arith))
    (cases_eq j i)

pub literals_pushed : (vars : ℕ) (clause new : List ℤ) (x : ℤ) → new ≡ clause ++ x ∷ [] → AreLiterals vars clause → IsLiteral vars x → AreLiterals vars new
literals_pushed vars clause new x is are one k d lt =
    let len = length-append clause (x ∷ []) in
    let size = ap (λ (xs : List ℤ). length xs) is in
    ⊎_elim
    (λ (e : k ≡ length clause). subst (IsLiteral vars) (sym (ap (λ (xs : List ℤ). get_or xs k d) is ∙ get_or_push clause x d k (sym e))) one)
    (λ (ne : k ≢ length clause). let less : k < length clause = omega arith in subst (IsLiteral vars) (sym (ap (λ (xs : List ℤ). get_or xs k d) is ∙ get_or_append_left clause (x ∷ []) d k less)) (are k d less))
    (cases_eq k (length clause))

-- lemmas hold of each later graph
pub lemmas_later : (nodes after : List Node) (clauses : List (List ℕ)) → ((v : ℕ → Bool) → Obeys after v → Obeys nodes v) → AreLemmas nodes clauses → AreLemmas after clauses
lemmas_later nodes after clauses back are = record { hold = λ i v lt obeys. are.hold i v lt (back v obeys) }

pub lemmas_on : (nodes after : List Node) (clauses : List (List ℕ)) → GrowsTo nodes after → AreLemmas nodes clauses → AreLemmas after clauses
lemmas_on nodes after clauses on are = lemmas_later nodes after clauses (λ v obeys. obeys_before nodes after v on obeys) are

pub no_lemmas : (nodes : List Node) (clauses : List (List ℕ)) → clauses ≡ [] → AreLemmas nodes clauses
no_lemmas nodes clauses none = record { hold = λ i v lt obeys. let e = ap (λ (cs : List (List ℕ)). length cs) none in absurd (omega arith) }

-- a line that rests on the first clauses alone
pub line_holds : (nodes : List Node) (members : List ℕ) (vars : ℕ) (cs : List (List ℤ)) (lines : List Line) (pure : List Bool) (given total i : ℕ) → length cs ≡ total → given ≤ total → GivenHold nodes members cs given → PureHold nodes members lines pure
    → length pure ≡ i → i < length lines → AllFollow vars cs lines → ArePureHints pure given total (line_at lines i).hints → ClauseHolds nodes members (line_at lines i).literals
line_holds nodes members vars cs lines pure given total i len few hold known size lt all pures v a obeys shown =
    let f = follow_at vars cs lines i all lt in
    line_true vars a (cs ++ clauses_of (take i lines)) (line_at lines i) f (λ p d less. hint_true (get_or (line_at lines i).hints p d) ((f.earlier p d less).0) (pures p d less))
  where
    hint_true : (h : ℕ) → 0 < h → IsPureHint pure given total h → clause_true a (clause_at (cs ++ clauses_of (take i lines)) h) ≡ true
    hint_true h first is = ⊎_elim
        (λ (le : h ≤ given). ap (clause_true a) (get_or_append_left cs (clauses_of (take i lines)) [] (h - 1) (omega arith)) ∙ hold (h - 1) (omega arith) v a obeys shown)
        (λ (p : (total < h) × (h - total - 1 < length pure) × (get_or pure (h - total - 1) false ≡ true)).
        let m : ℕ = h - total - 1 in
        let past = p.0 in
        let less = p.1 in
        let taken : length (take i lines) ≡ i = length-take-le i lines (omega arith) in
        ap (clause_true a) (line_clause cs (take i lines) total m h len (omega arith) (omega arith) ∙ ap (λ (l : Line). l.literals) (get_or-take i lines m (record { literals = []; hints = [] }) (omega arith)))
        ∙ known m less p.2 v a obeys shown)
        is

pub pure_pushed : (nodes : List Node) (members : List ℕ) (lines : List Line) (pure : List Bool) (b : Bool) → PureHold nodes members lines pure → (b ≡ true → ClauseHolds nodes members (line_at lines (length pure)).literals) → PureHold nodes members lines (pure ++ b ∷ [])
pure_pushed nodes members lines pure b known new i lt is =
    let len = length-append pure (b ∷ []) in
    ⊎_elim
    (λ (e : i ≡ length pure). subst (λ (k : ℕ). ClauseHolds nodes members (line_at lines k).literals) (sym e) (new (sym (get_or_push pure b false i (sym e)) ∙ is)))
    (λ (ne : i ≢ length pure). let less : i < length pure = omega arith in known i less (sym (get_or_append_left pure (b ∷ []) false i less) ∙ is))
    (cases_eq i (length pure))

pub extends_push : (before after : List (List ℤ)) (clause : List ℤ) → after ≡ before ++ clause ∷ [] → Extends before after
extends_push before after clause is =
    let len = length-append before (clause ∷ []) in
    let size = ap (λ (cs : List (List ℤ)). length cs) is in
    record { size = omega arith; same = λ h lt. ap (λ (cs : List (List ℤ)). get_or cs h []) is ∙ get_or_append_left before (clause ∷ []) [] h lt }

pub extends_twice : (a b c : List (List ℤ)) → Extends a b → Extends b c → Extends a c
extends_twice a b c first last = let s = first.size in let t = last.size in record { size = omega arith; same = λ h lt. last.same h (omega arith) ∙ first.same h lt }

-- a cone's clauses hold under each valuation
pub given_hold : (nodes : List Node) (members : List ℕ) (formula : Formula) (clauses : List (List ℤ)) → IsCone nodes members formula → ((h : ℕ) → h < length formula.clauses → get_or clauses h [] ≡ get_or formula.clauses h []) → GivenHold nodes members clauses (length formula.clauses)
given_hold nodes members formula clauses is same h lt v a obeys shown = ap (clause_true a) (same h lt) ∙ clause_in a formula.clauses h (is.hold v a obeys shown) lt

-- a lemma, written over members, is a clause of the cone
pub cone_lemma : (nodes : List Node) (members lemma : List ℕ) (old new : Formula) (clause : List ℤ) → IsCone nodes members old → new.vars ≡ old.vars → new.clauses ≡ old.clauses ++ clause ∷ [] → length clause ≡ length lemma
    → ((v : ℕ → Bool) (a : List Bool) (j : ℕ) (d : ℤ) → Obeys nodes v → Shows members v a → j < length clause → literal_true a (get_or clause j d) ≡ literal_value v (get_or lemma j 0))
    → ((v : ℕ → Bool) → Obeys nodes v → SomeHolds v lemma) → IsCone nodes members new
cone_lemma nodes members lemma old new clause is vars more size each some = cone_more nodes members members old new is (goes_on_same members) is.within (vars ∙ is.vars)
    (λ v a obeys shown was.
    let s = some v obeys in
    let w = s.within in
    let lt : s.at < length clause = omega arith in
    let l : ℤ = get_or clause s.at (pos 0) in
    let holds : clause_true a clause ≡ true = true_some a clause l (s.at, lt, get_or_default clause s.at l (pos 0) lt) (each v a s.at (pos 0) obeys shown lt ∙ s.holds) in
    ap (satisfies a) more ∙ list_all-append (clause_true a) old.clauses (clause ∷ []) ∙ and_from (satisfies a old.clauses) (satisfies a (clause ∷ [])) was (and_from (clause_true a clause) true holds refl))
