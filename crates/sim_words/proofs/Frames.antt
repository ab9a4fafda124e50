-- The loops of the kernel, lane by lane.
use Rattle.std.proofs.Common.{◌≡◌, ◌∙◌, ◌<◌, ◌≤◌, ◌+◌, ◌&&◌, ℕ, List, Bool, length, map, get_or, set, ap, sym, subst}
use Rattle.std.proofs.lemmas.List.{get_or_default, length-map, length-set}
use Rattle.product_machine.specs.declared.cell.Cell.{Cell}
use Rattle.product_machine.specs.declared.cell.Cell.TheVariants.{Low, Product}
use Rattle.circ_model.specs.Meaning.{bit, literal_value, Pair, IsSoundPair, latches_of, places_of, row, value_in}
use Rattle.product_machine.specs.Cells.{cells, EachAt}
use Rattle.product_machine.specs.Eval.{IsFrame, Ready}
use Rattle.product_machine.specs.States.{nexts}
use Rattle.product_machine.proofs.OneRow.{IsWritten, IsFreeCell, begun, written_set, written_free, written_all, low_bit, product_bit}
use Rattle.product_machine.proofs.States.{all_written}
use Rattle.sim_words.specs.Lanes.{lane, lane_bit}
use Rattle.sim_words.proofs.Lanes.{lane_at, lane_set, lane_zero}

pub length_lane : (b : ℕ) (ws : List ℕ) → length (lane b ws) ≡ length ws
length_lane b ws = length-map ws (lane_bit b)

-- a cell that was read
pub cell_is : (d : Cell) (items cs : List Cell) (p : ℕ) (cell : Cell) → items ≡ cs → p < length cs → get_or items p d ≡ cell → get_or cs p Low ≡ cell
cell_is d items cs p cell e lt is = get_or_default cs p Low d lt ∙ ap (λ (l : List Cell). get_or l p d) (sym e) ∙ is

-- for each lane whose leaves are in place, the first p places are written
pub record IsFilled (pair : Pair) (begin : List ℕ) (p : ℕ) (words : List ℕ) : Type 0 where
  pub size : length words ≡ places_of pair
  pub lanes : (b : ℕ) → b < 64 → (state inputs : List Bool) → IsFrame pair state inputs → EachAt (Ready (lane b begin) (row pair state inputs)) 0 (cells pair) → IsWritten pair state inputs p (lane b words)

pub fill_begun : (pair : Pair) (words : List ℕ) → length words ≡ places_of pair → IsFilled pair words 0 words
fill_begun pair words size = record { size = size; lanes = λ b lt state inputs on ready. begun pair state inputs (lane b words) (length_lane b words ∙ size) ready }

pub fill_low : (pair : Pair) (begin words : List ℕ) (p : ℕ) → IsSoundPair pair → p < places_of pair → get_or (cells pair) p Low ≡ Low → IsFilled pair begin p words → IsFilled pair begin (p + 1) (set words p 0)
fill_low pair begin words p is lt e h = record {
  size = length-set words p 0 ∙ h.size;
  lanes = λ b less state inputs on ready. subst (IsWritten pair state inputs (p + 1)) (sym (lane_set b words p 0))
      (written_set pair state inputs (lane b words) p (lane_bit b 0) lt (h.lanes b less state inputs on ready) (lane_zero b ∙ low_bit pair state inputs p is on lt e));
}

pub fill_gate : (pair : Pair) (begin words : List ℕ) (p x y w : ℕ) → IsSoundPair pair → p < places_of pair → get_or (cells pair) p Low ≡ Product x y
    → ((b : ℕ) → b < 64 → lane_bit b w ≡ (literal_value (bit (lane b words)) x && literal_value (bit (lane b words)) y)) → IsFilled pair begin p words → IsFilled pair begin (p + 1) (set words p w)
fill_gate pair begin words p x y w is lt e word h = record {
  size = length-set words p w ∙ h.size;
  lanes = λ b less state inputs on ready. let done = h.lanes b less state inputs on ready in subst (IsWritten pair state inputs (p + 1)) (sym (lane_set b words p w))
      (written_set pair state inputs (lane b words) p (lane_bit b w) lt done (word b less ∙ product_bit pair state inputs (lane b words) p x y is on lt e done.done));
}

pub fill_free : (pair : Pair) (begin words : List ℕ) (p : ℕ) → p < places_of pair → IsFreeCell (get_or (cells pair) p Low) → IsFilled pair begin p words → IsFilled pair begin (p + 1) words
fill_free pair begin words p lt free h = record {
  size = h.size;
  lanes = λ b less state inputs on ready. written_free pair state inputs (lane b words) p lt (h.lanes b less state inputs on ready) free;
}

pub fill_all : (pair : Pair) (begin words : List ℕ) (p b : ℕ) (state inputs : List Bool) → places_of pair ≤ p → IsFilled pair begin p words → b < 64 → IsFrame pair state inputs
    → EachAt (Ready (lane b begin) (row pair state inputs)) 0 (cells pair) → lane b words ≡ row pair state inputs
fill_all pair begin words p b state inputs le h less on ready = written_all pair state inputs (lane b words) p le (h.lanes b less state inputs on ready)

-- the words of the first i latches are those of their next literals
abbrev pub AreNext : Pair → List ℕ → ℕ → List ℕ → Type 0
AreNext pair words i state = (b : ℕ) → b < 64 → (k : ℕ) → k < i → lane_bit b (get_or state k 0) ≡ value_in (lane b words) (get_or (nexts pair) k 0)

pub next_all : (pair : Pair) (words state : List ℕ) (i b : ℕ) → latches_of pair ≤ i → length state ≡ latches_of pair → AreNext pair words i state → b < 64 → lane b state ≡ map (value_in (lane b words)) (nexts pair)
next_all pair words state i b end size done less = all_written pair (lane b words) (lane b state) i end (length_lane b state ∙ size) (λ k lt. lane_at b state k ∙ done b less k lt)

-- words at places are bits of lanes there
pub lane_same : (b : ℕ) (ws vs : List ℕ) (i k : ℕ) → get_or ws i 0 ≡ get_or vs k 0 → bit (lane b ws) i ≡ bit (lane b vs) k
lane_same b ws vs i k e = lane_at b ws i ∙ ap (lane_bit b) e ∙ sym (lane_at b vs k)
