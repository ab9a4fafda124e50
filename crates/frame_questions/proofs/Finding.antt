-- What a solver's answer says of the paths that are sought.
use Rattle.std.proofs.Common.{◌≡◌, ◌∙◌, ◌<◌, ◌≤◌, ◌+◌, ◌*◌, ◌++◌, ℕ, ℤ, List, length, sym, ap, ap₂, subst, arith, ext_get_or, Bool, false, not}
use Rattle.std.specs.Prelude.{Some, None}
use Rattle.circ_model.proofs.Rows.{length_row}
use Rattle.circ_model.specs.Meaning.{bit, value_in, row_at, places_of, Path}
use Rattle.cnf_store.specs.Clauses.{Formula}
use Rattle.product_machine.specs.Cells.{Shows}
use Rattle.frame_unroll.specs.declared.question.Question.{Question}
use Rattle.frame_questions.specs.declared.found.Seen.{Seen}
use Rattle.frame_unroll.specs.Frames.{values}
use Rattle.frame_questions.specs.Found.{IsSeen, EqualIn, DiffersIn}
use Rattle.frame_unroll.specs.Unrolled.{asking}
use Rattle.frame_unroll.specs.Unrolled.{Unrolling, IsSought, AreFramesOf, asked_clauses, variables_of, formula_of}
use Rattle.sat_core.specs.Answers.{joined}
use Rattle.frame_unroll.proofs.Reading.{literal_shown}
use Rattle.frame_unroll.proofs.Standing.{bare_clauses}

-- the frames' formula and the question's clauses beside it are that of the frames with the question
pub both_parts : (u : Unrolling) (q : Question) (shared own : Formula) → u.asked ≡ None → shared ≡ formula_of u → own.vars ≡ variables_of (asking u q) → own.clauses ≡ asked_clauses (places_of u.pair) (u.frames * places_of u.pair) (Some q)
    → joined shared own ≡ formula_of (asking u q)
both_parts u q shared own none frames vars clauses =
    ap₂ (λ (v : ℕ) (cs : List (List ℤ)). record { vars = v; clauses = cs }) vars
    (ap₂ (λ (xs ys : List (List ℤ)). xs ++ ys) (ap (λ (f : Formula). f.clauses) frames ∙ bare_clauses u none) clauses)

-- the literals differ in some frame of the row
pub one_differs : (u : Unrolling) (q : Question) (n : ℕ) (row : List Bool) (path : Path) → n ≡ places_of u.pair → AreFramesOf u.frames u.pair (Some q) → IsSought (asking u q) path → Shows u.pair u.frames (values row (places_of u.pair)) path
    → (i : ℕ) × (i < q.count) × DiffersIn n row (q.first + i) q.a q.b
one_differs u q n row path e fine sought shown =
    let h = sought.asked in
    let lt : q.first + h.0 < u.frames = omega (arith, h.1, fine.2) in (
      h.0,
      h.1,
      subst (λ (m : ℕ). DiffersIn m row (q.first + h.0) q.a q.b) (sym e)
          (literal_shown u.pair u.frames row path (q.first + h.0) q.a shown lt fine.0 ∙ h.2 ∙ ap not (sym (literal_shown u.pair u.frames row path (q.first + h.0) q.b shown lt fine.1))),
    )

-- the first of them, with its row
pub is_seen : (u : Unrolling) (q : Question) (n : ℕ) (row : List Bool) (s : Seen) → n ≡ places_of u.pair → AreFramesOf u.frames u.pair (Some q) → IsSought (asking u q) s.path → Shows u.pair u.frames (values row (places_of u.pair)) s.path
    → q.first ≤ s.frame → s.frame < q.first + q.count → DiffersIn n row s.frame q.a q.b → ((t : ℕ) → q.first ≤ t → t < s.frame → EqualIn n row t q.a q.b)
    → length s.bits ≡ places_of u.pair → ((p : ℕ) → p < places_of u.pair → bit s.bits p ≡ bit row (s.frame * places_of u.pair + p)) → IsSeen u q s
is_seen u q n row s e fine sought shown from to apart before size same =
    let lt : s.frame < u.frames = omega (arith, fine.2) in
    let are : s.bits ≡ row_at u.pair s.path s.frame = ext_get_or false s.bits (row_at u.pair s.path s.frame) (size ∙ sym (length_row u.pair s.path s.frame))
    (λ p less. same p (omega (arith, size)) ∙ shown.bits s.frame p lt (omega (arith, size))) in
    let differs : DiffersIn (places_of u.pair) row s.frame q.a q.b = subst (λ (m : ℕ). DiffersIn m row s.frame q.a q.b) e apart in
    let there : value_in (row_at u.pair s.path s.frame) q.a ≡ not (value_in (row_at u.pair s.path s.frame) q.b) =
    sym (literal_shown u.pair u.frames row s.path s.frame q.a shown lt fine.0) ∙ differs ∙ ap not (literal_shown u.pair u.frames row s.path s.frame q.b shown lt fine.1) in
    record {
      sought = sought;
      from = from;
      to = to;
      row = are;
      apart = subst (λ (r : List Bool). value_in r q.a ≡ not (value_in r q.b)) (sym are) there;
      before = λ t early less.
          let inside : t < u.frames = omega arith in
          let equal : EqualIn (places_of u.pair) row t q.a q.b = subst (λ (m : ℕ). EqualIn m row t q.a q.b) e (before t early less) in
          sym (literal_shown u.pair u.frames row s.path t q.a shown inside fine.0) ∙ equal ∙ literal_shown u.pair u.frames row s.path t q.b shown inside fine.1;
    }
