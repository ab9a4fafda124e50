-- The questions of a correspondence's needed pairs have logs, and no path is seen that has such a pair apart.
use Rattle.std.proofs.Common.{◌≡◌, ◌∙◌, ◌<◌, ◌-◌, ℕ, Bool, true, false, not, List, sym, subst, ap, arith, true≢false, refl}
use Rattle.std.specs.Prelude.{Option, Some, IfSome}
use Rattle.circ_model.specs.Meaning.{Pair, places_of, row_at, value_in}
use Rattle.circ_model.specs.Correspondence.{HoldsIn}
use Rattle.class_partition.specs.Classes.{Classes, HoldIn, IsStable, needed}
use Rattle.frame_questions.specs.declared.found.Seen.{Seen}
use Rattle.frame_questions.specs.declared.found.Separation.{Separation}
use Rattle.frame_questions.specs.declared.found.Separation.TheVariants as found
use Rattle.frame_questions.specs.Found.{IsFound, IsSeen}
use Rattle.frame_unroll.specs.Unrolled.{Unrolling, from_reset, after_classes, formula_of, asks, asking}
use Rattle.sat_log.specs.Derivations.{Line, IsAccepted}
use Rattle.corr_certificate.specs.Parts.{base_formula, step_formula}
use Rattle.frame_unroll.proofs.Members.{members_to}

no_not : (b : Bool) → b ≡ not b → ⊥
no_not true e = true≢false e
no_not false e = true≢false (sym e)

apart : (pair : Pair) (s : Seen) (row : List Bool) (p : ℕ × ℕ) → s.bits ≡ row → HoldsIn row p → value_in s.bits p.0 ≡ not (value_in s.bits p.1) → ⊥
apart pair s row p e holds differs =
    let d : value_in row p.0 ≡ not (value_in row p.1) = subst (λ (r : List Bool). value_in r p.0 ≡ not (value_in r p.1)) e differs in
    no_not (value_in row p.1) (sym holds ∙ d)

pub base_unseen : (pair : Pair) (k : ℕ) (classes : Classes) (p : ℕ) (s : Seen) → 0 < k → IsStable pair k classes → p < places_of pair
    → IsSeen (from_reset pair k) (asks (needed classes p).0 (needed classes p).1 0 (k - 1)) s → ⊥
base_unseen pair k classes p s some stable lt seen =
    let to : s.frame < k = (let t = seen.to in omega arith) in
    apart pair s (row_at pair s.path s.frame) (needed classes p) seen.row (stable.base s.path (seen.sought.reset refl) seen.sought.rows s.frame to p lt) seen.apart

pub step_unseen : (pair : Pair) (k : ℕ) (classes : Classes) (p : ℕ) (s : Seen) → IsStable pair k classes → p < places_of pair
    → IsSeen (after_classes pair k classes) (asks (needed classes p).0 (needed classes p).1 k k) s → ⊥
step_unseen pair k classes p s stable lt seen =
    let at : s.frame ≡ k = (let from = seen.from in let to = seen.to in omega arith) in
    let row : s.bits ≡ row_at pair s.path k = seen.row ∙ ap (row_at pair s.path) at in
    let hold : (t : ℕ) → t < k → HoldIn (places_of pair) classes (row_at pair s.path t)
    = λ t less. members_to (places_of pair) classes (row_at pair s.path t) (seen.sought.classes t (omega arith)) in
    apart pair s (row_at pair s.path k) (needed classes p) row (stable.step s.path seen.sought.is_path seen.sought.rows hold p lt) seen.apart

-- what was found, of the frames and the literals that were asked for
found_as : (u v : Unrolling) (r s : ℕ × ℕ) (first last : ℕ) (f g : Separation) → u ≡ v → r ≡ s → f ≡ g → IsFound u (asks r.0 r.1 first last) f → IsFound v (asks s.0 s.1 first last) g
found_as u v r s first last f g eu er ef h =
    subst (IsFound v (asks s.0 s.1 first last)) ef (subst (λ (x : ℕ × ℕ). IsFound v (asks x.0 x.1 first last) f) er (subst (λ (x : Unrolling). IsFound x (asks r.0 r.1 first last) f) eu h))

pub base_accepted : (pair : Pair) (k : ℕ) (classes : Classes) (p : ℕ) (u : Unrolling) (r : ℕ × ℕ) (f : Separation) (log : List Line) → u ≡ from_reset pair k → r ≡ needed classes p → f ≡ found.None log
    → IsFound u (asks r.0 r.1 0 (k - 1)) f → IsAccepted (base_formula pair k classes p) log
base_accepted pair k classes p u r f log eu er ef h = (found_as u (from_reset pair k) r (needed classes p) 0 (k - 1) f (found.None log) eu er ef h).1

pub step_accepted : (pair : Pair) (k : ℕ) (classes : Classes) (p : ℕ) (u : Unrolling) (r : ℕ × ℕ) (f : Separation) (log : List Line) → u ≡ after_classes pair k classes → r ≡ needed classes p → f ≡ found.None log
    → IsFound u (asks r.0 r.1 k k) f → IsAccepted (step_formula pair k classes p) log
step_accepted pair k classes p u r f log eu er ef h = (found_as u (after_classes pair k classes) r (needed classes p) k k f (found.None log) eu er ef h).1

pub no_base_path : (pair : Pair) (k : ℕ) (classes : Classes) (p : ℕ) (u : Unrolling) (r : ℕ × ℕ) (f : Separation) (s : Seen) → 0 < k → IsStable pair k classes → p < places_of pair → u ≡ from_reset pair k → r ≡ needed classes p → f ≡ found.Path s
    → IsFound u (asks r.0 r.1 0 (k - 1)) f → ⊥
no_base_path pair k classes p u r f s some stable lt eu er ef h = base_unseen pair k classes p s some stable lt (found_as u (from_reset pair k) r (needed classes p) 0 (k - 1) f (found.Path s) eu er ef h)

pub no_step_path : (pair : Pair) (k : ℕ) (classes : Classes) (p : ℕ) (u : Unrolling) (r : ℕ × ℕ) (f : Separation) (s : Seen) → IsStable pair k classes → p < places_of pair → u ≡ after_classes pair k classes → r ≡ needed classes p → f ≡ found.Path s
    → IsFound u (asks r.0 r.1 k k) f → ⊥
no_step_path pair k classes p u r f s stable lt eu er ef h = step_unseen pair k classes p s stable lt (found_as u (after_classes pair k classes) r (needed classes p) k k f (found.Path s) eu er ef h)

-- a log that is accepted over the frames and the literals that were asked for
pub step_derived : (pair : Pair) (k t : ℕ) (classes : Classes) (p : ℕ) (u : Unrolling) (r : ℕ × ℕ) (o : Option (List Line)) (log : List Line) → t ≡ k → u ≡ after_classes pair k classes → r ≡ needed classes p → o ≡ Some log
    → IfSome o (IsAccepted (formula_of (asking u (asks r.0 r.1 t t)))) → IsAccepted (step_formula pair k classes p) log
step_derived pair k t classes p u r o log et eu er eo h =
    subst (λ (n : ℕ). IsAccepted (formula_of (asking (after_classes pair k classes) (asks (needed classes p).0 (needed classes p).1 n n))) log) et
    (subst (λ (x : ℕ × ℕ). IsAccepted (formula_of (asking (after_classes pair k classes) (asks x.0 x.1 t t))) log) er
    (subst (λ (v : Unrolling). IsAccepted (formula_of (asking v (asks r.0 r.1 t t))) log) eu
    (subst (λ (q : Option (List Line)). IfSome q (IsAccepted (formula_of (asking u (asks r.0 r.1 t t))))) eo h)))

-- the same from reset, where that is one frame
pub base_derived : (pair : Pair) (k : ℕ) (classes : Classes) (p : ℕ) (u : Unrolling) (r : ℕ × ℕ) (o : Option (List Line)) (log : List Line) → k ≡ 1 → u ≡ from_reset pair 1 → r ≡ needed classes p → o ≡ Some log
    → IfSome o (IsAccepted (formula_of (asking u (asks r.0 r.1 0 0)))) → IsAccepted (base_formula pair k classes p) log
base_derived pair k classes p u r o log one eu er eo h =
    subst (λ (n : ℕ). IsAccepted (base_formula pair n classes p) log) (sym one)
    (subst (λ (x : ℕ × ℕ). IsAccepted (formula_of (asking (from_reset pair 1) (asks x.0 x.1 0 0))) log) er
    (subst (λ (v : Unrolling). IsAccepted (formula_of (asking v (asks r.0 r.1 0 0))) log) eu
    (subst (λ (q : Option (List Line)). IfSome q (IsAccepted (formula_of (asking u (asks r.0 r.1 0 0))))) eo h)))
