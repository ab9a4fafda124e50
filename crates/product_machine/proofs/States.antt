-- The lists of next literals and of outputs: how long they are, what stands in them, and what the next state is by them.
use Rattle.std.proofs.Common.{◌≡◌, ◌≢◌, ◌∙◌, ◌<◌, ◌≤◌, ◌+◌, ◌/◌, ⊎_elim, ℕ, List, set, [], ◌∷◌, ◌++◌, length, map, get_or, refl, ap, ap₂, sym, subst, arith, Bool, false, length-append}
use Rattle.std.specs.List.{All}
use Rattle.std.proofs.lemmas.Bool.{cases_eq}
use Rattle.std.proofs.lemmas.List.{length-map, get_or-map, get_or_default, get_or-set_same, get_or-set_other, ext_get_or}
use Rattle.std.proofs.lemmas.List.Elements.{All-append}
use Rattle.std.proofs.lemmas.List.FromFn.{length-map-range_with_len, get_or-map-range_with_len}
use Rattle.circ_model.specs.declared.netlist.Latch.{Latch}
use Rattle.circ_model.specs.Meaning.{bit, literal_value, value, value_in, Pair, IsSoundPair, Path, places_of, latches_of, outputs_of, left_literal, right_literal, left_leaves, right_leaves, next_state, row}
use Rattle.circ_model.proofs.Rows.{length_places, left_literal_is, right_literal_is, left_value, right_value}
use Rattle.product_machine.specs.Eval.{IsFrame}
use Rattle.product_machine.specs.States.{nexts, output_pair, output_pairs}
use Rattle.product_machine.proofs.OneRow.{one_frame, one_path}
use Rattle.product_machine.specs.Cells.{no_latch}
use Rattle.product_machine.proofs.Size.{few_places}
use Rattle.product_machine.proofs.Tabling.{map_same}

pub length_nexts : (pair : Pair) → length (nexts pair) ≡ latches_of pair
length_nexts pair =
    omega (
      arith,
      length-append (map (λ (l : Latch). left_literal pair l.next) pair.left.latches) (map (λ (l : Latch). right_literal pair l.next) pair.right.latches),
      length-map pair.left.latches (λ (l : Latch). left_literal pair l.next),
      length-map pair.right.latches (λ (l : Latch). right_literal pair l.next),
    )

pub length_outputs : (pair : Pair) → length (output_pairs pair) ≡ outputs_of pair
length_outputs pair = length-map-range_with_len (output_pair pair) 0 (outputs_of pair)

pub output_at : (pair : Pair) (j : ℕ) (d : ℕ × ℕ) → j < outputs_of pair → get_or (output_pairs pair) j d ≡ output_pair pair j
output_at pair j d lt = get_or-map-range_with_len (output_pair pair) 0 (outputs_of pair) j j d lt (omega arith)

-- a pair is small
pub few_inputs : (pair : Pair) → IsSoundPair pair → length pair.left.inputs ≤ 2000001
few_inputs pair is = omega (arith, few_places pair is, length_places pair)

pub few_latches : (pair : Pair) → IsSoundPair pair → latches_of pair ≤ 2000001
few_latches pair is = omega (arith, few_places pair is, length_places pair)

all_map : (P : ℕ → Type 0) (f : Latch → ℕ) (ls : List Latch) → ((k : ℕ) → k < length ls → P (f (get_or ls k no_latch))) → All P (map f ls)
all_map P f ls h k d lt = let short : k < length ls = omega (arith, length-map ls f) in subst P (sym (get_or-map f ls k no_latch d short)) (h k short)

-- each next literal is one of the pair
pub nexts_within : (pair : Pair) → IsSoundPair pair → All (λ (n : ℕ). n / 2 < places_of pair) (nexts pair)
nexts_within pair is = All-append (λ (n : ℕ). n / 2 < places_of pair) (map (λ (l : Latch). left_literal pair l.next) pair.left.latches) (map (λ (l : Latch). right_literal pair l.next) pair.right.latches)
    (all_map (λ (n : ℕ). n / 2 < places_of pair) (λ (l : Latch). left_literal pair l.next) pair.left.latches (λ k lt. left_literal_is pair (get_or pair.left.latches k no_latch).next is (is.left.all_defined.latches k no_latch lt)))
    (all_map (λ (n : ℕ). n / 2 < places_of pair) (λ (l : Latch). right_literal pair l.next) pair.right.latches (λ k lt. right_literal_is pair (get_or pair.right.latches k no_latch).next is (is.right.all_defined.latches k no_latch lt)))

pub next_within_places : (pair : Pair) (items : List ℕ) (k d : ℕ) → IsSoundPair pair → items ≡ nexts pair → k < latches_of pair → get_or items k d / 2 < places_of pair
next_within_places pair items k d is e lt = subst (λ (l : List ℕ). get_or l k d / 2 < places_of pair) (sym e) (nexts_within pair is k d (omega (arith, length_nexts pair)))

-- a literal that was read
pub next_read : (pair : Pair) (items : List ℕ) (k lit : ℕ) → items ≡ nexts pair → k < latches_of pair → lit ≡ get_or items k lit → lit ≡ get_or (nexts pair) k 0
next_read pair items k lit e lt is = is ∙ ap (λ (l : List ℕ). get_or l k lit) e ∙ get_or_default (nexts pair) k lit 0 (omega (arith, length_nexts pair))

-- one more bit of the state
pub written_more : (pair : Pair) (values state : List Bool) (i : ℕ) (b : Bool) → i < length state → b ≡ value_in values (get_or (nexts pair) i 0) → ((k : ℕ) → k < i → bit state k ≡ value_in values (get_or (nexts pair) k 0))
    → (k : ℕ) → k < i + 1 → bit (set state i b) k ≡ value_in values (get_or (nexts pair) k 0)
written_more pair values state i b lt e done k less = ⊎_elim
    (λ (s : k ≡ i). rw s (get_or-set_same state i b false lt ∙ e))
    (λ (n : k ≢ i). get_or-set_other state i k b false n ∙ done k (omega arith))
    (cases_eq k i)

-- the bits of the state so far
pub all_written : (pair : Pair) (values state : List Bool) (i : ℕ) → latches_of pair ≤ i → length state ≡ latches_of pair → ((k : ℕ) → k < i → bit state k ≡ value_in values (get_or (nexts pair) k 0)) → state ≡ map (value_in values) (nexts pair)
all_written pair values state i end size done =
    let len = length_nexts pair in
    ext_get_or false state (map (value_in values) (nexts pair)) (size ∙ sym len ∙ sym (length-map (nexts pair) (value_in values)))
    (λ k lt. done k (omega arith) ∙ sym (get_or-map (value_in values) (nexts pair) k 0 false (omega arith)))

map_twice : (f : ℕ → Bool) (h : Latch → ℕ) (ls : List Latch) → map f (map h ls) ≡ map (λ l. f (h l)) ls
map_twice f h [] = refl
map_twice f h (l ∷ ls) = ap (λ bs. f (h l) ∷ bs) (map_twice f h ls)

map_append : (f : ℕ → Bool) (xs ys : List ℕ) → map f (xs ++ ys) ≡ map f xs ++ map f ys
map_append f [] ys = refl
map_append f (x ∷ xs) ys = ap (λ bs. f x ∷ bs) (map_append f xs ys)

-- the next literals' values are the next state
pub next_state_is : (pair : Pair) (state inputs : List Bool) → IsSoundPair pair → IsFrame pair state inputs → map (value_in (row pair state inputs)) (nexts pair) ≡ next_state pair state inputs
unfolding Rattle.circ_model.specs.Meaning.state_at
next_state_is pair state inputs is on =
    let path : Path = one_frame state inputs in
    let f : ℕ → Bool = value_in (row pair state inputs) in
    map_append f (map (λ (l : Latch). left_literal pair l.next) pair.left.latches) (map (λ (l : Latch). right_literal pair l.next) pair.right.latches)
    ∙ ap₂ (λ (xs ys : List Bool). xs ++ ys)
    (map_twice f (λ (l : Latch). left_literal pair l.next) pair.left.latches
    ∙ map_same (λ (l : Latch). f (left_literal pair l.next)) (λ (l : Latch). literal_value (value pair.left (left_leaves pair state inputs)) l.next) pair.left.latches no_latch
    (λ k lt. left_value pair path 0 (get_or pair.left.latches k no_latch).next is (is.left.all_defined.latches k no_latch lt)))
    (map_twice f (λ (l : Latch). right_literal pair l.next) pair.right.latches
    ∙ map_same (λ (l : Latch). f (right_literal pair l.next)) (λ (l : Latch). literal_value (value pair.right (right_leaves pair state inputs)) l.next) pair.right.latches no_latch
    (λ k lt. right_value pair path 0 (get_or pair.right.latches k no_latch).next is (one_path pair state inputs on) (omega arith) (is.right.all_defined.latches k no_latch lt)))
