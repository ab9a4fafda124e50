-- The latches of a pair in the order of its state, and its outputs, as literals of the pair.
use Rattle.std.specs.Prelude.{◌≡◌, ◌+◌, ◌<◌, ◌≤◌, ℕ, IsTrue, List, ◌++◌, map, length, slice_index, slice_index_or}
use Rattle.std.specs.List.{range_with_len}
use Rattle.circ_model.specs.declared.netlist.Latch.{Latch}
use Rattle.circ_model.specs.declared.netlist.Reset.TheVariants.{Free}
use Rattle.circ_model.specs.Meaning.{bit, Pair, Path, outputs_of, latches_of, left_literal, right_literal, resets, free_latches, MayStartAt}

-- the next literal of each latch
abbrev pub nexts : Pair → List ℕ
nexts pair = map (λ (l : Latch). left_literal pair l.next) pair.left.latches ++ map (λ (l : Latch). right_literal pair l.next) pair.right.latches

-- output j of both sides
abbrev pub output_pair : Pair → ℕ → ℕ × ℕ
output_pair pair j = (left_literal pair (slice_index pair.left.outputs j), right_literal pair (slice_index pair.right.outputs j))

abbrev pub output_pairs : Pair → List (ℕ × ℕ)
output_pairs pair = map (output_pair pair) (range_with_len 0 (outputs_of pair))

-- latch i of the state is the j-th free latch of the right netlist in a tied pair, and q the j-th of the left: they start equal
pub record ArePartners (pair : Pair) (i q : ℕ) : Type 0 where
  pub tied : IsTrue pair.tied
  pub j : ℕ
  pub left_listed : j < length (free_latches pair.left)
  pub right_listed : j < length (free_latches pair.right)
  pub left : q ≡ slice_index_or (free_latches pair.left) j 0
  pub right : i ≡ length pair.left.latches + slice_index_or (free_latches pair.right) j 0

-- latch i of the state is a free latch of the right netlist in a tied pair
pub record IsTiedLatch (pair : Pair) (i : ℕ) : Type 0 where
  pub tied : IsTrue pair.tied
  pub right : length pair.left.latches ≤ i
  pub within : i < latches_of pair
  pub free : slice_index_or (resets pair) i Free ≡ Free

-- latch i starts as its partner, where it has one
abbrev pub StartsLike : Pair → Path → ℕ → Type 0
StartsLike pair path i = (q : ℕ) → ArePartners pair i q → bit path.start i ≡ bit path.start q

-- what latch i may start with
abbrev pub MayStart : Pair → Path → ℕ → Type 0
MayStart pair path i = MayStartAt (slice_index_or (resets pair) i Free) (bit path.start i) × StartsLike pair path i
