-- Signals by their places.
use Rattle.std.proofs.Common.{◌≡◌, ◌∙◌, ◌≢◌, ◌<◌, ◌≤◌, ◌+◌, ◌-◌, ⊎_elim, ℕ, suc, List, ◌∷◌, ◌++◌, length, map, get_or, refl, ap, sym, arith, length-append, Contains}
use Rattle.std.specs.List.{range_with_len}
use Rattle.std.proofs.lemmas.Bool.{cases_lt, cases_eq}
use Rattle.std.proofs.lemmas.List.{length-map, get_or-map, get_or_append_left, get_or-append_right, get_or_default}
use Rattle.std.proofs.lemmas.List.FromFn.{length-map-range_with_len, get_or-map-range_with_len}
use Rattle.circ_model.specs.declared.netlist.Signal.{Signal}
use Rattle.circ_model.specs.declared.netlist.Signal.TheVariants.{Const, Input, Left, Right}
use Rattle.circ_model.specs.Netlist.{variables, own}
use Rattle.circ_model.specs.Meaning.{Pair, IsSoundPair, places_of, left_from}
use Rattle.circ_model.proofs.Rows.{own_variable, length_row_left, variables_split}
use Rattle.product_machine.specs.Cells.{signals}
use Rattle.product_machine.specs.Signals.{signal_at}
use Rattle.product_machine.proofs.Size.{length_signals}

-- the constant and the inputs, then both sides
shared : Pair → List Signal
shared pair = Const ∷ map Input (range_with_len 0 (length pair.left.inputs))

length_shared : (pair : Pair) → length (shared pair) ≡ left_from pair
unfolding shared
length_shared pair = let e = length-map-range_with_len Input 0 (length pair.left.inputs) in omega arith

parts : (pair : Pair) → signals pair ≡ shared pair ++ (map Left (own pair.left) ++ map Right (own pair.right))
unfolding shared signals
parts pair = refl

pub signal_const : (pair : Pair) → signal_at pair 0 ≡ Const
unfolding signals
signal_const pair = refl

pub signal_input : (pair : Pair) (p i : ℕ) → p ≡ 1 + i → i < length pair.left.inputs → signal_at pair p ≡ Input i
unfolding shared
signal_input pair p i e lt =
    let one : p ≡ suc i = omega arith in
    ap (λ (l : List Signal). get_or l p Const) (parts pair)
    ∙ get_or_append_left (shared pair) (map Left (own pair.left) ++ map Right (own pair.right)) Const p (let l = length_shared pair in omega arith)
    ∙ ap (λ (q : ℕ). get_or (shared pair) q Const) one
    ∙ get_or-map-range_with_len Input 0 (length pair.left.inputs) i i Const lt (omega arith)

pub signal_left : (pair : Pair) (p : ℕ) → left_from pair ≤ p → p < length (variables pair.left) → signal_at pair p ≡ Left (get_or (variables pair.left) p 0)
signal_left pair p le lt =
    let k : ℕ = p - left_from pair in
    let within : k < length (own pair.left) = omega (arith, length_row_left pair) in
    ap (λ (l : List Signal). get_or l p Const) (parts pair)
    ∙ get_or-append_right (shared pair) (map Left (own pair.left) ++ map Right (own pair.right)) (left_from pair) p Const (length_shared pair) le
    ∙ get_or_append_left (map Left (own pair.left)) (map Right (own pair.right)) Const k (omega (arith, length-map (own pair.left) Left))
    ∙ get_or-map Left (own pair.left) k 0 Const within
    ∙ ap Left (sym (own_variable pair.left p le))

pub signal_right : (pair : Pair) (p q : ℕ) → IsSoundPair pair → p ≡ q + length (own pair.left) → 1 + length pair.right.inputs ≤ q → q < length (variables pair.right) → signal_at pair p ≡ Right (get_or (variables pair.right) q 0)
signal_right pair p q sound e le lt =
    let i = sound.inputs in
    let k : ℕ = q - (1 + length pair.right.inputs) in
    let split = ap length (variables_split pair.right) in
    let parts_of = length-append (0 ∷ pair.right.inputs) (own pair.right) in
    let within : k < length (own pair.right) = omega arith in
    let rest : p - left_from pair - length (own pair.left) ≡ k = omega arith in
    ap (λ (l : List Signal). get_or l p Const) (parts pair)
    ∙ get_or-append_right (shared pair) (map Left (own pair.left) ++ map Right (own pair.right)) (left_from pair) p Const (length_shared pair) (omega arith)
    ∙ get_or-append_right (map Left (own pair.left)) (map Right (own pair.right)) (length (own pair.left)) (p - left_from pair) Const (length-map (own pair.left) Left) (omega arith)
    ∙ ap (λ (n : ℕ). get_or (map Right (own pair.right)) n Const) rest
    ∙ get_or-map Right (own pair.right) k 0 Const within
    ∙ ap Right (sym (own_variable pair.right q le))

-- which sort of signal it is, and its number
abbrev sort : Signal → ℕ
sort Const = 0
sort (Input i) = 1
sort (Left v) = 2
sort (Right v) = 3

abbrev number : Signal → ℕ
number Const = 0
number (Input i) = i
number (Left v) = v
number (Right v) = v

-- what the signal at a place is
data StandsAt (pair : Pair) (p : ℕ) (s : Signal) : Type 0 where
  AtConst : s ≡ Const → StandsAt pair p s
  AtInput : (i : ℕ) → i < length pair.left.inputs → s ≡ Input i → StandsAt pair p s
  AtLeft : (k : ℕ) → k < length (own pair.left) → s ≡ Left (get_or (own pair.left) k 0) → StandsAt pair p s
  AtRight : (k : ℕ) → k < length (own pair.right) → s ≡ Right (get_or (own pair.right) k 0) → StandsAt pair p s

stands : (pair : Pair) (p : ℕ) → p < places_of pair → StandsAt pair p (signal_at pair p)
stands pair p lt =
    let total = length_row_left pair in
    ⊎_elim
    (λ (h : p < left_from pair). ⊎_elim
    (λ (z : p ≡ 0). AtConst (ap (signal_at pair) z ∙ signal_const pair))
    (λ (n : p ≢ 0). AtInput (p - 1) (omega arith) (signal_input pair p (p - 1) (omega arith) (omega arith)))
    (cases_eq p 0))
    (λ (h : left_from pair ≤ p). ⊎_elim
    (λ (l : p < length (variables pair.left)). AtLeft (p - left_from pair) (omega arith) (signal_left pair p h l ∙ ap Left (own_variable pair.left p h)))
    (λ (l : length (variables pair.left) ≤ p).
    let k : ℕ = p - length (variables pair.left) in
    let within : k < length (own pair.right) = omega arith in
    AtRight k within
    (ap (λ (x : List Signal). get_or x p Const) (parts pair)
    ∙ get_or-append_right (shared pair) (map Left (own pair.left) ++ map Right (own pair.right)) (left_from pair) p Const (length_shared pair) h
    ∙ get_or-append_right (map Left (own pair.left)) (map Right (own pair.right)) (length (own pair.left)) (p - left_from pair) Const (length-map (own pair.left) Left) (omega arith)
    ∙ ap (λ (n : ℕ). get_or (map Right (own pair.right)) n Const) (let e : p - left_from pair - length (own pair.left) ≡ k = omega arith in e)
    ∙ get_or-map Right (own pair.right) k 0 Const within))
    (cases_lt p (length (variables pair.left))))
    (cases_lt p (left_from pair))

-- where a signal stands
found_at : (pair : Pair) (s : Signal) → Contains (signals pair) s → (p : ℕ) × (p < places_of pair) × (signal_at pair p ≡ s)
found_at pair s (p, lt, is) = (p, omega (arith, length_signals pair), get_or_default (signals pair) p Const s lt ∙ is)

pub holds_input : (pair : Pair) (i : ℕ) → Contains (signals pair) (Input i) → i < length pair.left.inputs
holds_input pair i h = let (p, lt, is) = found_at pair (Input i) h in elim (stands pair p lt) [
  | AtConst e ↦ (let a = ap sort (sym e ∙ is) in absurd (omega arith))
  | AtInput j less e ↦ (let a = ap number (sym e ∙ is) in omega arith)
  | AtLeft k less e ↦ (let a = ap sort (sym e ∙ is) in absurd (omega arith))
  | AtRight k less e ↦ (let a = ap sort (sym e ∙ is) in absurd (omega arith))
]

pub holds_left : (pair : Pair) (v : ℕ) → Contains (signals pair) (Left v) → Contains (own pair.left) v
holds_left pair v h = let (p, lt, is) = found_at pair (Left v) h in elim (stands pair p lt) [
  | AtConst e ↦ (let a = ap sort (sym e ∙ is) in absurd (omega arith))
  | AtInput j less e ↦ (let a = ap sort (sym e ∙ is) in absurd (omega arith))
  | AtLeft k less e ↦ (k, less, get_or_default (own pair.left) k v 0 less ∙ ap number (sym e ∙ is))
  | AtRight k less e ↦ (let a = ap sort (sym e ∙ is) in absurd (omega arith))
]

pub holds_right : (pair : Pair) (v : ℕ) → Contains (signals pair) (Right v) → Contains (own pair.right) v
holds_right pair v h = let (p, lt, is) = found_at pair (Right v) h in elim (stands pair p lt) [
  | AtConst e ↦ (let a = ap sort (sym e ∙ is) in absurd (omega arith))
  | AtInput j less e ↦ (let a = ap sort (sym e ∙ is) in absurd (omega arith))
  | AtLeft k less e ↦ (let a = ap sort (sym e ∙ is) in absurd (omega arith))
  | AtRight k less e ↦ (k, less, get_or_default (own pair.right) k v 0 less ∙ ap number (sym e ∙ is))
]
