-- Facts about rows that are held.
use Rattle.std.proofs.Common.{◌≡◌, ◌∙◌, ◌<◌, ℕ, Bool, List, length, slice_index_or, Option, Some, IfSome, subst, sym, ap}
use Rattle.circ_model.specs.Meaning.{Pair, places_of}
use Rattle.circ_model.specs.Correspondence.{MaySplit, Separates}
use Rattle.class_partition.specs.Classes.{Classes, KeepsGreatest, needed}
use Rattle.sim_words.specs.Lanes.{lane}
use Rattle.step_lanes.specs.Rows.{IsFirstApart, MaskedRows}
use Rattle.split_rows.specs.Rows.{AreOf, IsRowApart, SeparatesSome}

-- by equals
pub keeps_by : (p q : Pair) (j k : ℕ) (c d : Classes) → p ≡ q → j ≡ k → c ≡ d → KeepsGreatest q k d → KeepsGreatest p j c
keeps_by p q j k c d ep ek ec keeps =
    subst (λ (x : Pair). KeepsGreatest x j c) (sym ep) (subst (λ (n : ℕ). KeepsGreatest q n c) (sym ek) (subst (λ (z : Classes). KeepsGreatest q k z) (sym ec) keeps))

-- the row of a lane in which a block has a needed pair apart
pub row_apart : (pair : Pair) (k : ℕ) (classes : Classes) (among m : ℕ) (block : MaskedRows) (found : Option ℕ) (b : ℕ) (row : List Bool) → block.pair ≡ pair → block.k ≡ k → found ≡ Some b
    → IsFirstApart block among classes m found → row ≡ lane b block.words → length row ≡ places_of block.pair → MaySplit block.pair block.k row → IsRowApart pair k classes m row
row_apart pair k classes among m block found b row ep ek ef first er size may =
    let is = subst (IsFirstApart block among classes m) ef first in
    record {
      size = subst (λ (p : Pair). length row ≡ places_of p) ep size;
      may = subst (λ (p : Pair). MaySplit p k row) ep (subst (λ (n : ℕ). MaySplit block.pair n row) ek may);
      apart = subst (λ (r : List Bool). Separates r (needed classes m)) (sym er) is.3;
    }

-- a block among those that are held is of their pair and k
pub of_block : (pair : Pair) (k : ℕ) (xs ys : List MaskedRows) (i : ℕ) (b : MaskedRows) → AreOf pair k ys → xs ≡ ys → i < length xs → b ≡ slice_index_or xs i b → (b.pair ≡ pair) × (b.k ≡ k)
of_block pair k xs ys i b all e lt is =
    let at = subst (AreOf pair k) (sym e) all i b lt in
    (ap (λ (x : MaskedRows). x.pair) is ∙ at.0, ap (λ (x : MaskedRows). x.k) is ∙ at.1)

-- what a block of that pair and k answers
pub row_of : (pair : Pair) (k : ℕ) (classes : Classes) (m : ℕ) (block : MaskedRows) (found : Option (ℕ × List Bool)) (lane : ℕ) (row : List Bool) → (block.pair ≡ pair) × (block.k ≡ k) → found ≡ Some (lane, row)
    → IfSome found (λ f. IsRowApart block.pair block.k classes m f.1) → IsRowApart pair k classes m row
row_of pair k classes m block found lane row is ef has =
    subst (λ (p : Pair). IsRowApart p k classes m row) is.0
    (subst (λ (n : ℕ). IsRowApart block.pair n classes m row) is.1 (subst (λ (o : Option (ℕ × List Bool)). IfSome o (λ f. IsRowApart block.pair block.k classes m f.1)) ef has))

-- the row of a pair that was sought is the row of some pair
pub of_some : (pair : Pair) (k : ℕ) (classes : Classes) (m : ℕ) (found : Option (List Bool)) (row : List Bool) → m < places_of pair → found ≡ Some row → IfSome found (IsRowApart pair k classes m) → SeparatesSome pair k classes row
of_some pair k classes m found row lt ef has = record { member = m; within = lt; apart = subst (λ (o : Option (List Bool)). IfSome o (IsRowApart pair k classes m)) ef has }
