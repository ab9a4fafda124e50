-- The parts of members, added one after another.
use Rattle.std.specs.Prelude.{OnOk, Result, Ok, Err}
use Rattle.std.proofs.Common.{◌≡◌, ◌∙◌, ◌<◌, ◌≤◌, ◌-◌, ◌+◌, ℕ, suc, Bool, List, [], ◌∷◌, ◌++◌, codes, sym, subst, ap, arith, refl, append_assoc}
use Rattle.std.specs.List.{range_with_len}
use Rattle.std.proofs.lemmas.Bool.{eq-eqb, ne_eqb}
use Rattle.circ_model.specs.Meaning.{Pair, places_of}
use Rattle.class_partition.specs.Classes.{Classes, least_of}
use Rattle.cnf_store.specs.Clauses.{Formula}
use Rattle.sat_log.specs.Derivations.{Line}
use Rattle.corr_certificate.specs.Parts.{Either, base_formula, step_formula}
use Rattle.cert_writer.specs.Writing.{IsTrimmedLog, part_text, AddsPart, AddsMember, AddsMembers, AreMembers, Derives, IsMember}

-- line 1, in three pieces
pub head_is : (t u v w a b d : List ℕ) → u ≡ t ++ a → v ≡ u ++ b → w ≡ v ++ d → w ≡ t ++ (a ++ (b ++ d))
head_is t u v w a b d e f g = g ∙ ap (λ (l : List ℕ). l ++ d) (f ∙ ap (λ (l : List ℕ). l ++ b) e) ∙ append_assoc (t ++ a) b d ∙ append_assoc t a (b ++ d)

-- a log that is accepted and trimmed, whose part is added
derived : (pair : Pair) (keyword : List ℕ) (p : ℕ) (formula : Formula) (log : List Line) (before after : List ℕ) → IsTrimmedLog formula log → AddsPart pair keyword p log before after → Derives formula log
derived pair keyword p formula log before after is adds = record { accepted = is.accepted; trimmed = is.trimmed; lines = adds.lines; hints = adds.hints }

-- a member's two parts, one after the other
pub both_parts : {A E : Type 0} (pair : Pair) (k : ℕ) (classes : Classes) (p : ℕ) (before middle after : List ℕ) (base step : List Line) (r : Result A E)
    → IsTrimmedLog (base_formula pair k classes p) base → AddsPart pair (codes "base ") p base before middle
    → IsTrimmedLog (step_formula pair k classes p) step → OnOk r (AddsPart pair (codes "step ") p step middle after) → OnOk r (AddsMember pair k classes p before after)
both_parts pair k classes p before middle after base step (Ok x) bl b sl s = record {
  base = base;
  step = step;
  base_derives = derived pair (codes "base ") p (base_formula pair k classes p) base before middle bl b;
  step_derives = derived pair (codes "step ") p (step_formula pair k classes p) step middle after sl s;
  is = s.is ∙ ap (λ (l : List ℕ). l ++ part_text pair (codes "step ") p step) b.is ∙ append_assoc before (part_text pair (codes "base ") p base) (part_text pair (codes "step ") p step);
}
both_parts pair k classes p before middle after base step (Err x) bl b sl s = s

-- the parts of all places before this one stand after a text
pub record SoFar (pair : Pair) (k : ℕ) (classes : Classes) (place : ℕ) (before text : List ℕ) : Type 0 where
  pub parts : List ℕ
  pub is : text ≡ before ++ parts
  pub goes : (rest : List ℕ) → AreMembers pair k classes (range_with_len place (places_of pair - place)) rest → AreMembers pair k classes (range_with_len 0 (places_of pair)) (parts ++ rest)

append_none : (l : List ℕ) → l ≡ l ++ []
append_none [] = refl
append_none (x ∷ l) = ap (λ (m : List ℕ). x ∷ m) (append_none l)

pub none_yet : (pair : Pair) (k : ℕ) (classes : Classes) (before : List ℕ) → SoFar pair k classes 0 before before
none_yet pair k classes before = record {
  parts = [];
  is = append_none before;
  goes = λ rest h. let e : places_of pair - 0 ≡ places_of pair = omega arith in subst (λ (n : ℕ). AreMembers pair k classes (range_with_len 0 n) rest) e h;
}

-- one more place
next_range : (pair : Pair) (k : ℕ) (classes : Classes) (place : ℕ) (rest : List ℕ) → place < places_of pair
    → AreMembers pair k classes (place ∷ range_with_len (place + 1) (places_of pair - (place + 1))) rest → AreMembers pair k classes (range_with_len place (places_of pair - place)) rest
next_range pair k classes place rest lt h =
    let e : suc (places_of pair - (place + 1)) ≡ places_of pair - place = omega arith in
    subst (λ (n : ℕ). AreMembers pair k classes (range_with_len place n) rest) e h

-- that is the least of its class
pub least_passed : (pair : Pair) (k : ℕ) (classes : Classes) (place : ℕ) (before text : List ℕ) → place < places_of pair → least_of classes place ≡ place → SoFar pair k classes place before text → SoFar pair k classes (place + 1) before text
least_passed pair k classes place before text lt least so = record {
  parts = so.parts;
  is = so.is;
  goes = λ rest h. so.goes rest (next_range pair k classes place rest lt
      (subst (λ (b : Bool). Either b (AreMembers pair k classes (range_with_len (place + 1) (places_of pair - (place + 1))) rest)
      ((more : List ℕ) × IsMember pair k classes place rest more × AreMembers pair k classes (range_with_len (place + 1) (places_of pair - (place + 1))) more)) (sym (eq-eqb (least_of classes place) place least)) h));
}

-- and one that isn't
pub member_added : (pair : Pair) (k : ℕ) (classes : Classes) (place : ℕ) (before text after : List ℕ) → place < places_of pair → (least_of classes place ≡ place → ⊥) → SoFar pair k classes place before text
    → AddsMember pair k classes place text after → SoFar pair k classes (place + 1) before after
member_added pair k classes place before text after lt apart so adds =
    let base : List ℕ = part_text pair (codes "base ") place adds.base in
    let step : List ℕ = part_text pair (codes "step ") place adds.step in
    record {
      parts = so.parts ++ (base ++ step);
      is = adds.is ∙ ap (λ (l : List ℕ). l ++ (base ++ step)) so.is ∙ append_assoc before so.parts (base ++ step);
      goes = λ rest h.
          let one : IsMember pair k classes place ((base ++ step) ++ rest) rest = record { base = adds.base; step = adds.step; base_derives = adds.base_derives; step_derives = adds.step_derives; is = append_assoc base step rest } in
          subst (AreMembers pair k classes (range_with_len 0 (places_of pair))) (sym (append_assoc so.parts (base ++ step) rest))
          (so.goes ((base ++ step) ++ rest) (next_range pair k classes place ((base ++ step) ++ rest) lt
          (subst (λ (b : Bool). Either b (AreMembers pair k classes (range_with_len (place + 1) (places_of pair - (place + 1))) ((base ++ step) ++ rest))
          ((more : List ℕ) × IsMember pair k classes place ((base ++ step) ++ rest) more × AreMembers pair k classes (range_with_len (place + 1) (places_of pair - (place + 1))) more)) (sym (ne_eqb (least_of classes place) place apart)) (rest, one, h))));
    }

-- and the end
pub all_added : (pair : Pair) (k : ℕ) (classes : Classes) (place : ℕ) (before text after : List ℕ) → places_of pair ≤ place → SoFar pair k classes place before text → after ≡ text ++ codes "end\n" → AddsMembers pair k classes before after
all_added pair k classes place before text after le so e = record {
  parts = so.parts ++ codes "end\n";
  are = so.goes (codes "end\n") (let z : 0 ≡ places_of pair - place = omega arith in subst (λ (n : ℕ). AreMembers pair k classes (range_with_len place n) (codes "end\n")) z refl);
  is = e ∙ ap (λ (l : List ℕ). l ++ codes "end\n") so.is ∙ append_assoc before so.parts (codes "end\n");
}
