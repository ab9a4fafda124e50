-- What the calls leave: the formula is that of the unrolling, and what was read from a row is a path that is sought.
use Rattle.frame_unroll.specs.Frames.{values}
use Rattle.frame_unroll.proofs.Reading.{sought}
use Rattle.circ_model.specs.Meaning.{places_of, left_from, right_from, Pair, IsSoundPair, Path, bit}
use Rattle.std.proofs.Common.{◌≡◌, ◌∙◌, ◌<◌, ◌≤◌, ◌+◌, ◌*◌, ℕ, List, [], ◌++◌, length, take, get_or, refl, ap, ap₂, sym, subst, arith, ℤ, Bool, true, false, append-nil, true≢false}
use Rattle.std.specs.Prelude.{Option, Some, None}
use Rattle.std.proofs.Math.Nat.{mul-le-mul_right}
use Rattle.std.proofs.Math.Seq.{take-append_seam}
use Rattle.std.specs.List.{All}
use Rattle.cnf_store.specs.Clauses.{satisfies, Formula, IsFormula, AreClauses}
use Rattle.frame_unroll.specs.declared.question.Question.{Question}
use Rattle.product_machine.specs.Cells.{Shows, ReadsFrom}
use Rattle.frame_unroll.specs.Unrolled.{Unrolling, IsSought, IsUnrolling, AreFramesOf, NoneSought, asking, clauses_of, plain_clauses, variables_of, asked_clauses, asked_variables}
use Rattle.frame_unroll.proofs.Assigning.{assignment_of, assignment_shows, length_assignment, assigned}
use Rattle.circ_model.proofs.Rows.{length_own}
use Rattle.frame_unroll.specs.Ready.{IsOutline, IsReady}

-- without a question there are the variables and clauses of the frames alone
pub bare_variables : (u : Unrolling) → u.asked ≡ None → variables_of u ≡ u.frames * places_of u.pair
bare_variables u none = ap (λ (o : Option Question). u.frames * places_of u.pair + asked_variables o) none ∙ (let e : u.frames * places_of u.pair + 0 ≡ u.frames * places_of u.pair = omega arith in e)

pub bare_clauses : (u : Unrolling) → u.asked ≡ None → clauses_of u ≡ plain_clauses u
bare_clauses u none = ap (λ (o : Option Question). plain_clauses u ++ asked_clauses (places_of u.pair) (u.frames * places_of u.pair) o) none ∙ append-nil (plain_clauses u)

-- the formula is ready before a question
pub ready_plain : (u : Unrolling) (formula : Formula) (plain : ℕ) → IsOutline u → IsFormula formula → formula ≡ record { vars = u.frames * places_of u.pair; clauses = plain_clauses u } → plain ≡ length formula.clauses → u.asked ≡ None → IsReady u formula plain
ready_plain u formula plain outline form e n none = record {
  outline = outline;
  are = e ∙ ap₂ (λ (v : ℕ) (cs : List (List ℤ)). record { vars = v; clauses = cs }) (sym (bare_variables u none)) (sym (bare_clauses u none));
  without = n ∙ ap (λ (f : Formula). length f.clauses) e;
  within = subst (λ (f : Formula). AreClauses f.vars f.clauses) e form.within;
}

-- a question's clauses come at the end
pub ready_asked : (u : Unrolling) (q : Question) (formula added : Formula) (plain : ℕ) → IsReady u formula plain → u.asked ≡ None → AreFramesOf u.frames u.pair (Some q) → added.vars ≡ formula.vars + q.count
    → added.clauses ≡ formula.clauses ++ asked_clauses (places_of u.pair) (u.frames * places_of u.pair) (Some q) → IsReady (asking u q) added plain
ready_asked u q formula added plain ready none fine vars clauses = record {
  outline = record { pair = ready.outline.pair; fine = record { frames = ready.outline.fine.frames; needed = ready.outline.fine.needed; asked = fine }; few = ready.outline.few };
  are = ap₂ (λ (v : ℕ) (cs : List (List ℤ)). record { vars = v; clauses = cs })
      (vars ∙ ap (λ (v : ℕ). v + q.count) (ap (λ (f : Formula). f.vars) ready.are ∙ bare_variables u none))
      (clauses ∙ ap (λ (cs : List (List ℤ)). cs ++ asked_clauses (places_of u.pair) (u.frames * places_of u.pair) (Some q)) (ap (λ (f : Formula). f.clauses) ready.are ∙ bare_clauses u none));
  without = ready.without;
  within = ready.within;
}

-- and go again
pub ready_dropped : (u : Unrolling) (formula less : Formula) (plain : ℕ) → IsReady u formula plain → less.vars ≡ u.frames * places_of u.pair → less.clauses ≡ take plain formula.clauses → IsReady (record u { asked = None }) less plain
ready_dropped u formula less plain ready vars clauses =
    let bare : Unrolling = record u { asked = None } in
    record {
      outline = record { pair = ready.outline.pair; fine = record { frames = ready.outline.fine.frames; needed = ready.outline.fine.needed; asked = tt }; few = ready.outline.few };
      are = ap₂ (λ (v : ℕ) (cs : List (List ℤ)). record { vars = v; clauses = cs }) (vars ∙ sym (bare_variables bare refl))
          (clauses ∙ ap₂ (λ (m : ℕ) (f : Formula). take m f.clauses) ready.without ready.are
          ∙ take-append_seam (plain_clauses u) (asked_clauses (places_of u.pair) (u.frames * places_of u.pair) u.asked) ∙ sym (bare_clauses bare refl));
      without = ready.without;
      within = ready.within;
    }

-- each path that is sought has a row
pub has_row : (u : Unrolling) (formula : Formula) (plain : ℕ) (path : Path) → IsReady u formula plain → IsSought u path → (row : List Bool) × (length row ≡ variables_of u) × (satisfies row (clauses_of u) ≡ true) × Shows u.pair u.frames (values row (places_of u.pair)) path
has_row u formula plain path ready sought = (assignment_of u path, length_assignment u path, assigned u path ready.outline.pair ready.outline.fine sought, assignment_shows u path)

-- what was read is the path that stands in the assignment
pub reads : (pair : Pair) (count : ℕ) (a first : List Bool) (rows : List (List Bool)) (i l g r n : ℕ) → IsSoundPair pair → i ≡ length pair.left.inputs → l ≡ length pair.left.latches → g ≡ length pair.left.gates → r ≡ length pair.right.latches → n ≡ places_of pair
    → length first ≡ l + r → ((k : ℕ) → k < l → bit first k ≡ bit a (1 + i + k)) → ((k : ℕ) → k < r → bit first (l + k) ≡ bit a (1 + i + (l + g) + k))
    → length rows ≡ count → All (λ row. length row ≡ i) rows → ((t j : ℕ) → t < count → j < i → bit (get_or rows t []) j ≡ bit a (t * n + (1 + j)))
    → ReadsFrom pair count (values a (places_of pair)) (record { start = first; inputs = rows })
reads pair count a first rows i l g r n is ei el eg er en len left right many sizes bits = record {
  is_path = record { start = omega arith; inputs = λ k d lt. sizes k d lt ∙ ei };
  rows = many;
  left = λ k lt. left k (omega arith) ∙ ap (bit a) (let e : 1 + i + k ≡ 0 * places_of pair + (left_from pair + k) = omega arith in e);
  right = λ k lt. ap (bit first) (let e : length pair.left.latches + k ≡ l + k = omega arith in e) ∙ right k (omega arith)
      ∙ ap (bit a) (let s = is.inputs in let e : 1 + i + (l + g) + k ≡ 0 * places_of pair + (right_from pair + k) = omega (arith, length_own pair.left) in e);
  inputs = λ t j lt less. bits t j lt (omega arith) ∙ ap (λ (m : ℕ). bit a (t * m + (1 + j))) en;
}

-- and it is sought
pub is_sought : (u : Unrolling) (a : List Bool) (path : Path) → IsOutline u → satisfies a (clauses_of u) ≡ true → ReadsFrom u.pair u.frames (values a (places_of u.pair)) path → IsSought u path × Shows u.pair u.frames (values a (places_of u.pair)) path
is_sought u a path outline sat h = sought u path a outline.pair outline.fine h sat

-- no row satisfies, each path that is sought has a row: none is sought
pub none_sought : (u : Unrolling) (q : Question) → IsSoundPair u.pair → IsUnrolling (asking u q) → ((row : List Bool) → satisfies row (clauses_of (asking u q)) ≡ false) → NoneSought u q
none_sought u q is fine none path sought = true≢false (sym (assigned (asking u q) path is fine sought) ∙ none (assignment_of (asking u q) path))

-- what was read from a row that satisfies the frames and a question is sought
pub sought_in : (u : Unrolling) (q : Question) (row : List Bool) (path : Path) → IsOutline u → AreFramesOf u.frames u.pair (Some q) → satisfies row (clauses_of (asking u q)) ≡ true
    → ReadsFrom u.pair u.frames (values row (places_of u.pair)) path → IsSought (asking u q) path × Shows u.pair u.frames (values row (places_of u.pair)) path
sought_in u q row path outline fine sat reads = sought (asking u q) path row outline.pair (record { frames = outline.fine.frames; needed = outline.fine.needed; asked = fine }) reads sat

-- the bits of a frame are in the row
pub frame_fits : (t frames n places len : ℕ) → n ≡ places → t < frames → frames * places ≤ len → t * n + n ≤ len
frame_fits t frames n places len e lt size =
    let h : (t + 1) * places ≤ frames * places = mul-le-mul_right places (omega arith) in
    subst (λ (m : ℕ). t * m + m ≤ len) (sym e) (let le : t * places + places ≤ len = omega arith in le)
