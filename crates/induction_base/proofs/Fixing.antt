-- One bit after another is fixed.
use Rattle.std.proofs.Common.{◌≡◌, ◌∙◌, ◌<◌, ◌+◌, ◌*◌, ◌/◌, ◌++◌, ℕ, List, [], ◌∷◌, length, inl, inr, Option, Some, None, refl, sym, ap, ap₂, subst, arith, Bool, true, false, not, true≢false, ext_get_or, take}
use Rattle.std.proofs.lemmas.List.{take-append-le, take_all}
use Rattle.std.specs.List.{All}
use Rattle.std.proofs.lemmas.Bool.{cases_lt}
use Rattle.std.proofs.lemmas.List.Elements.{All-pop, All-push, All-nil}
use Rattle.circ_model.specs.Meaning.{Pair, Path, IsSoundPair, IsPath, bit, is_odd, latches_of, negated, outputs_of, row_at, value_in}
use Rattle.circ_model.specs.Correspondence.{HoldsIn, IsLiteral}
use Rattle.circ_model.specs.Verdict.{IsFirstDifference, IsLeastDifference}
use Rattle.circ_model.proofs.First.{least_is_first}
use Rattle.circ_model.proofs.Literals.{half_literal, negated_value}
use Rattle.circ_model.proofs.Outputs.{agree_where_held}
use Rattle.product_machine.specs.States.{output_pair}
use Rattle.frame_questions.specs.Assuming.{IsTrueAt, IsFoundUnder}
use Rattle.frame_unroll.specs.Unrolled.{Unrolling, Differs, IsSought, from_reset, asking, asks}
use Rattle.induction_base.specs.Fixing.{IsFixed, IsLower, IsZeroAt}
use Rattle.induction_base.specs.declared.difference.Diff.{Diff}
use Rattle.induction_base.specs.LeastRun.{DiffersAtEnd, IsLeastRun, IsLeastRunOf}
use Rattle.induction_base.specs.Spelling.{SameBelow, spelled}
use Rattle.induction_base.proofs.Asking.{same_or_apart}
use Rattle.induction_base.proofs.Least.{output_differs}
use Rattle.induction_base.proofs.Spelling.{length_spelled, ordered, same_back, same_less, same_more, same_through, spelled_once}

-- an assumption that is true exactly where a bit is that of the run
abbrev SaysBit : Pair → ℕ → ℕ → Path → ℕ × ℕ → Type 0
SaysBit pair t i run s = (path : Path) → IsPath pair path → length path.inputs ≡ t + 1 → (IsTrueAt pair path s → bit (spelled path) i ≡ bit (spelled run) i) × (bit (spelled path) i ≡ bit (spelled run) i → IsTrueAt pair path s)

low_to : (x y : Bool) → x ≡ not y → x ≡ true → y ≡ false
low_to true true e h = cc
low_to true false e h = refl
low_to false y e h = cc

low_from : (x y : Bool) → x ≡ not y → y ≡ false → x ≡ true
low_from true y e h = refl
low_from false true e h = cc
low_from false false e h = cc

high_to : (x y : Bool) → x ≡ not y → not x ≡ true → y ≡ true
high_to true true e h = refl
high_to true false e h = cc
high_to false true e h = refl
high_to false false e h = cc

high_from : (x y : Bool) → x ≡ not y → y ≡ true → not x ≡ true
high_from true true e h = cc
high_from true false e h = cc
high_from false y e h = refl

says_low : (pair : Pair) (t i : ℕ) (run : Path) (s : ℕ × ℕ) → IsZeroAt pair (t + 1) i s → bit (spelled run) i ≡ false → SaysBit pair t i run s
says_low pair t i run s zero is path on rows = (
  λ yes. low_to (value_in (row_at pair path s.0) s.1) (bit (spelled path) i) (zero.low path on rows) yes ∙ sym is,
  λ same. low_from (value_in (row_at pair path s.0) s.1) (bit (spelled path) i) (zero.low path on rows) (same ∙ is),
)

says_high : (pair : Pair) (t i : ℕ) (run : Path) (s : ℕ × ℕ) → IsZeroAt pair (t + 1) i s → bit (spelled run) i ≡ true → SaysBit pair t i run (s.0, negated s.1)
says_high pair t i run s zero is path on rows =
    let e = negated_value (bit (row_at pair path s.0)) s.1 in (
      λ yes. high_to (value_in (row_at pair path s.0) s.1) (bit (spelled path) i) (zero.low path on rows) (sym e ∙ yes) ∙ sym is,
      λ same. e ∙ high_from (value_in (row_at pair path s.0) s.1) (bit (spelled path) i) (zero.low path on rows) (same ∙ is),
    )

-- of all but the last, and of the last
split_push : {X : Type 0} (P : X → Type 0) (xs : List X) (x : X) → All P (xs ++ x ∷ []) → All P xs × P x
split_push P xs x all = All-pop P (xs ++ x ∷ []) xs (Some x) refl all

-- one more bit, as the run has it; where it is 1 no run that differs has the bits before and 0 there
abbrev NoneLower : Pair → ℕ → ℕ → ℕ → Path → Type 0
NoneLower pair t j i run = (other : Path) → DiffersAtEnd pair t j other → SameBelow i (spelled other) (spelled run) → bit (spelled other) i ≡ false → bit (spelled run) i ≡ true → ⊥

one_more : (pair : Pair) (t j i : ℕ) (fixed : List (ℕ × ℕ)) (run : Path) (s : ℕ × ℕ) → IsFixed pair t j i fixed run → s.0 < t + 1 → IsLiteral pair s.1 → SaysBit pair t i run s → NoneLower pair t j i run
    → IsFixed pair t j (i + 1) (fixed ++ s ∷ []) run
one_more pair t j i fixed run s is frame literal says none = record {
  shows = is.shows;
  literals = All-push (λ (p : ℕ × ℕ). (p.0 < t + 1) × IsLiteral pair p.1) fixed s is.literals (frame, literal);
  same = λ path on rows all.
      let parts = split_push (IsTrueAt pair path) fixed s all in
      same_more i (spelled path) (spelled run) (is.same path on rows parts.0) ((says path on rows).0 parts.1);
  holds = λ path on rows same.
      All-push (IsTrueAt pair path) fixed s (is.holds path on rows (same_less i (spelled path) (spelled run) same)) ((says path on rows).1 (same i (omega arith)));
  least = λ other differs k lt same low high. elim (cases_lt k i) [
    | inl less ↦ is.least other differs k less same low high
    | inr more ↦
        let e : k ≡ i = omega arith in
        none other differs (subst (λ (n : ℕ). SameBelow n (spelled other) (spelled run)) e same) (subst (λ (n : ℕ). bit (spelled other) n ≡ false) e low) (subst (λ (n : ℕ). bit (spelled run) n ≡ true) e high)
  ];
}

-- the run has 0 there
pub fixed_low : (pair : Pair) (t j i : ℕ) (fixed after : List (ℕ × ℕ)) (run : Path) (s : ℕ × ℕ) → IsFixed pair t j i fixed run → IsZeroAt pair (t + 1) i s → after ≡ fixed ++ s ∷ [] → bit (spelled run) i ≡ false → IsFixed pair t j (i + 1) after run
fixed_low pair t j i fixed after run s is zero e low =
    subst (λ (xs : List (ℕ × ℕ)). IsFixed pair t j (i + 1) xs run) (sym e)
    (one_more pair t j i fixed run s is zero.frame zero.literal (says_low pair t i run s zero low) (λ other differs same no yes. true≢false (sym yes ∙ low)))

-- what is fixed stands for another run with the same bits
moved : (pair : Pair) (t j i : ℕ) (fixed : List (ℕ × ℕ)) (run path : Path) → IsFixed pair t j i fixed run → DiffersAtEnd pair t j path → SameBelow i (spelled path) (spelled run) → IsFixed pair t j i fixed path
moved pair t j i fixed run path is shows same = record {
  shows = shows;
  literals = is.literals;
  same = λ p on rows all. same_through i (spelled p) (spelled run) (spelled path) (is.same p on rows all) (same_back i (spelled path) (spelled run) same);
  holds = λ p on rows other. is.holds p on rows (same_through i (spelled p) (spelled path) (spelled run) other same);
  least = λ other differs k lt before low high.
      is.least other differs k lt (λ m less. before m less ∙ same m (omega arith)) low (sym (same k lt) ∙ high);
}

-- a run is found that has 0 there
pub fixed_found : (pair : Pair) (t j i : ℕ) (fixed after : List (ℕ × ℕ)) (run path : Path) (s : ℕ × ℕ) → IsFixed pair t j i fixed run → IsZeroAt pair (t + 1) i s → after ≡ fixed ++ s ∷ [] → IsLower pair t j after (Some path) → IsFixed pair t j (i + 1) after path
fixed_found pair t j i fixed after run path s is zero e found =
    let on = found.0.is_run.is_path in
    let rows = found.0.rows in
    let parts = split_push (IsTrueAt pair path) fixed s (subst (All (IsTrueAt pair path)) e found.1) in
    let low = low_to (value_in (row_at pair path s.0) s.1) (bit (spelled path) i) (zero.low path on rows) parts.1 in
    fixed_low pair t j i fixed after path s (moved pair t j i fixed run path is found.0 (is.same path on rows parts.0)) zero e low

-- none has
pub fixed_high : (pair : Pair) (t j i : ℕ) (fixed asked after : List (ℕ × ℕ)) (run : Path) (s : ℕ × ℕ) → IsFixed pair t j i fixed run → IsZeroAt pair (t + 1) i s → asked ≡ fixed ++ s ∷ [] → IsLower pair t j asked None → bit (spelled run) i ≡ true → after ≡ fixed ++ (s.0, negated s.1) ∷ []
    → IsFixed pair t j (i + 1) after run
fixed_high pair t j i fixed asked after run s is zero e none high after_is =
    let h = half_literal (s.1 / 2) (not (is_odd s.1)) in
    let lit : IsLiteral pair (negated s.1) = (let l = zero.literal in omega arith) in
    subst (λ (xs : List (ℕ × ℕ)). IsFixed pair t j (i + 1) xs run) (sym after_is)
    (one_more pair t j i fixed run (s.0, negated s.1) is zero.frame lit (says_high pair t i run s zero high) (λ other differs same low yes.
    let on = differs.is_run.is_path in
    let rows = differs.rows in
    none other differs (subst (All (IsTrueAt pair other)) (sym e)
    (All-push (IsTrueAt pair other) fixed s (is.holds other on rows same) (low_from (value_in (row_at pair other s.0) s.1) (bit (spelled other) i) (zero.low other on rows) low)))))

-- at first nothing is fixed
pub fixed_none : (pair : Pair) (t j : ℕ) (run : Path) → DiffersAtEnd pair t j run → IsFixed pair t j 0 [] run
fixed_none pair t j run shows = record {
  shows = shows;
  literals = All-nil (λ (p : ℕ × ℕ). (p.0 < t + 1) × IsLiteral pair p.1);
  same = λ path on rows all k lt. absurd (omega arith);
  holds = λ path on rows same. All-nil (IsTrueAt pair path);
  least = λ other differs k lt. absurd (omega arith);
}

-- at the end all bits are
pub fixed_all : (pair : Pair) (t j n : ℕ) (fixed : List (ℕ × ℕ)) (run : Path) → n ≡ latches_of pair + (t + 1) * length pair.left.inputs → IsFixed pair t j n fixed run → IsLeastRun pair t j run
fixed_all pair t j n fixed run all is = record {
  shows = is.shows;
  least = λ other differs before.
      let size = length_spelled pair run is.shows.is_run.is_path in
      let same : length (spelled run) ≡ n = size ∙ ap (λ (r : ℕ). latches_of pair + r * length pair.left.inputs) is.shows.rows ∙ sym all in
      is.least other differs before.0 (let lt = before.1 in omega arith) before.2 before.3 before.4;
}

-- the question that asks for such a run
sought_of : (pair : Pair) (t j : ℕ) (path : Path) → IsSoundPair pair → DiffersAtEnd pair t j path → IsSought (asking (from_reset pair (t + 1)) (asks (output_pair pair j).0 (output_pair pair j).1 t t)) path
sought_of pair t j path sound is =
    let rows = is.rows in
    let apart : Differs pair path t (output_pair pair j).0 (output_pair pair j).1 = elim (same_or_apart (value_in (row_at pair path t) (output_pair pair j).0) (value_in (row_at pair path t) (output_pair pair j).1)) [
      | inl same ↦ absurd (is.differs (agree_where_held pair path t j sound is.is_run.is_path (omega arith) is.output same))
      | inr apart ↦ apart
    ] in
    let here : t ≡ t + 0 = omega arith in
    record {
      is_path = is.is_run.is_path;
      rows = rows;
      reset = λ yes. is.is_run;
      classes = λ s lt. All-nil (HoldsIn (row_at pair path s));
      asked = (0, omega arith, subst (λ (n : ℕ). Differs pair path n (output_pair pair j).0 (output_pair pair j).1) here apart);
    }

of_sought : (pair : Pair) (t j : ℕ) (path : Path) → IsSoundPair pair → j < outputs_of pair → IsSought (asking (from_reset pair (t + 1)) (asks (output_pair pair j).0 (output_pair pair j).1 t t)) path → DiffersAtEnd pair t j path
of_sought pair t j path sound lt is =
    let rows = is.rows in
    let at = is.asked in
    let here : t + at.0 ≡ t = (let few = at.1 in omega arith) in
    record {
      output = lt;
      is_run = is.reset refl;
      rows = rows;
      differs = output_differs pair path t j sound (is.reset refl) (omega arith) lt (subst (λ (n : ℕ). Differs pair path n (output_pair pair j).0 (output_pair pair j).1) here at.2);
    }

pub is_lower : (pair : Pair) (u : Unrolling) (t j : ℕ) (p : ℕ × ℕ) (assumed : List (ℕ × ℕ)) (r : Option Path) → IsSoundPair pair → j < outputs_of pair → u ≡ from_reset pair (t + 1) → p ≡ output_pair pair j → IsFoundUnder u (asks p.0 p.1 t t) assumed r → IsLower pair t j assumed r
is_lower pair u t j p assumed r sound lt eu ep found = at r (subst (λ (v : Unrolling). IsFoundUnder v (asks (output_pair pair j).0 (output_pair pair j).1 t t) assumed r) eu (subst (λ (q : ℕ × ℕ). IsFoundUnder u (asks q.0 q.1 t t) assumed r) ep found))
  where
    at : (o : Option Path) → IsFoundUnder (from_reset pair (t + 1)) (asks (output_pair pair j).0 (output_pair pair j).1 t t) assumed o → IsLower pair t j assumed o
    at None none = λ path differs all. none path (sought_of pair t j path sound differs) all
    at (Some path) is = (of_sought pair t j path sound lt is.0, is.1)

-- where frame and output are the least difference they are the run's first
pub first_of_least : (pair : Pair) (t j : ℕ) (run : Path) → DiffersAtEnd pair t j run → IsLeastDifference pair t j → IsFirstDifference pair run t j
first_of_least pair t j run shows least = least_is_first pair t j (record least { shown = (run, shows.is_run, shows.rows, shows.differs) })

-- two least runs are one
pub one_least : (pair : Pair) (t j : ℕ) (a b : Path) → IsLeastRun pair t j a → IsLeastRun pair t j b → a ≡ b
one_least pair t j a b one two =
    let pa = one.shows.is_run.is_path in
    let pb = two.shows.is_run.is_path in
    let rows : length a.inputs ≡ length b.inputs = one.shows.rows ∙ sym two.shows.rows in
    let same : length (spelled a) ≡ length (spelled b) = length_spelled pair a pa ∙ ap (λ (n : ℕ). latches_of pair + n * length pair.left.inputs) rows ∙ sym (length_spelled pair b pb) in
    elim (ordered (length (spelled a)) (spelled a) (spelled b) (omega arith) (omega arith)) [
      | inl equal ↦ spelled_once pair a b pa pb rows (ext_get_or false (spelled a) (spelled b) same equal)
      | inr (inl before) ↦ absurd (two.least a one.shows before)
      | inr (inr after) ↦ absurd (one.least b two.shows after)
    ]

-- what is assumed with one more bit
pub literals_with : (pair : Pair) (t j i : ℕ) (fixed after : List (ℕ × ℕ)) (run : Path) (s : ℕ × ℕ) → IsFixed pair t j i fixed run → IsZeroAt pair (t + 1) i s → after ≡ fixed ++ s ∷ [] → All (λ (p : ℕ × ℕ). (p.0 < t + 1) × IsLiteral pair p.1) after
literals_with pair t j i fixed after run s is zero e =
    subst (All (λ (p : ℕ × ℕ). (p.0 < t + 1) × IsLiteral pair p.1)) (sym e) (All-push (λ (p : ℕ × ℕ). (p.0 < t + 1) × IsLiteral pair p.1) fixed s is.literals (zero.frame, zero.literal))

-- the last bit's literal is replaced
pub raised : (fixed asked held after : List (ℕ × ℕ)) (s h : ℕ × ℕ) (n : ℕ) → n ≡ length fixed → asked ≡ fixed ++ s ∷ [] → held ≡ take n asked → after ≡ held ++ h ∷ [] → after ≡ fixed ++ h ∷ []
raised fixed asked held after s h n size pushed cut again =
    let same : held ≡ fixed =
    cut ∙ ap₂ take size pushed ∙ take-append-le (length fixed) fixed (s ∷ []) (omega arith) ∙ take_all (length fixed) fixed (omega arith) in
    again ∙ ap (λ (xs : List (ℕ × ℕ)). xs ++ h ∷ []) same

-- with its frame and output
pub least_of : (pair : Pair) (given : Diff) (run : Path) → IsLeastRun pair given.frame given.output run → IsLeastRunOf pair given (record { frame = given.frame; output = given.output; run = run })
least_of pair given run least = record { frame = refl; output = refl; least = least; first = first_of_least pair given.frame given.output run least.shows }
