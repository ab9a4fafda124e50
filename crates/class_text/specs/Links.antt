-- Classes as linked lists: for each place the next member of its class.
use Rattle.std.specs.Prelude.{◌≡◌, ◌≢◌, ℕ, ◌+◌, ◌<◌, ◌≤◌, List, length, slice_index}
use Rattle.class_partition.specs.Classes.{Classes, least_of}

-- the first place at or past `from` whose least place is this one, or the number of places
pub record IsNext (places : ℕ) (classes : Classes) (least from next : ℕ) : Type 0 where
  pub at : from ≤ next
  pub within : next ≤ places
  pub member : next < places → least_of classes next ≡ least
  pub between : (q : ℕ) → from ≤ q → q < next → least_of classes q ≢ least

-- the links of all places at or past `from`, and where each class goes on from there
pub record AreLinked (places : ℕ) (classes : Classes) (from : ℕ) (next head : List ℕ) : Type 0 where
  pub next_len : length next ≡ places
  pub head_len : length head ≡ places
  pub nexts : (p : ℕ) → from ≤ p → p < places → IsNext places classes (least_of classes p) (p + 1) (slice_index next p)
  pub heads : (r : ℕ) → r < places → IsNext places classes r from (slice_index head r)

pub record AreNexts (places : ℕ) (classes : Classes) (next : List ℕ) : Type 0 where
  pub next_len : length next ≡ places
  pub nexts : (p : ℕ) → p < places → IsNext places classes (least_of classes p) (p + 1) (slice_index next p)
