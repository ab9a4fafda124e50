-- Each signal stands at one place.
use Rattle.std.proofs.Common.{◌≡◌, ◌∙◌, ◌<◌, ◌≤◌, ℕ, ◌+◌, ◌-◌, Bool, true, false, length, get_or, refl, sym, ap, arith, ⊎_elim, true≢false, cond, Contains, ◌∷◌, length-append}
use Rattle.std.specs.Prelude.{Some, None, nat_lt}
use Rattle.std.specs.List.{position, position_or_len}
use Rattle.std.proofs.lemmas.Bool.{cases_lt, cases_eq, eqb-true, eq-eqb, lt-ltb, le-ltb}
use Rattle.std.proofs.lemmas.List.{get_or_default}
use Rattle.std.proofs.lemmas.List.Sums.{position_or_len_is}
use Rattle.circ_model.specs.declared.netlist.Signal.{Signal}
use Rattle.circ_model.specs.declared.netlist.Signal.TheVariants.{Const, Input, Left, Right}
use Rattle.circ_model.specs.Netlist.{Netlist, variables, own, place_in}
use Rattle.circ_model.specs.Meaning.{Pair, IsSoundPair, places_of, left_from}
use Rattle.circ_model.proofs.Order.{place_of_variable}
use Rattle.circ_model.proofs.Rows.{length_row_left, variables_split}
use Rattle.product_machine.specs.Cells.{signals}
use Rattle.product_machine.specs.Signals.{signal_at}
use Rattle.product_machine.proofs.Size.{length_signals}
use Rattle.product_machine.proofs.Signalling.{signal_const, signal_input, signal_left, signal_right}
use Rattle.corr_certificate.specs.Names.{is_signal}

-- the place of a signal that stands somewhere
abbrev back : Pair → Signal → ℕ
back pair Const = 0
back pair (Input i) = 1 + i
back pair (Left v) = place_in pair.left v
back pair (Right v) = place_in pair.right v + length (own pair.left)

length_variables : (net : Netlist) → length (variables net) ≡ 1 + length net.inputs + length (own net)
length_variables net = let a = ap length (variables_split net) in let b = length-append (0 ∷ net.inputs) (own net) in omega arith

right_within : (pair : Pair) (p : ℕ) → IsSoundPair pair → p < places_of pair → length (variables pair.left) ≤ p → p - length (own pair.left) < length (variables pair.right)
right_within pair p sound lt l =
    let left = length_variables pair.left in
    let right = length_variables pair.right in
    let same = sound.inputs in
    let short : p < length (variables pair.left) + length (own pair.right) = lt in
    omega arith

back_at : (pair : Pair) (p : ℕ) → IsSoundPair pair → p < places_of pair → back pair (signal_at pair p) ≡ p
back_at pair p sound lt =
    let total = length_row_left pair in
    ⊎_elim
    (λ (h : p < left_from pair). ⊎_elim
    (λ (z : p ≡ 0). ap (λ (q : ℕ). back pair (signal_at pair q)) z ∙ ap (back pair) (signal_const pair) ∙ sym z)
    (λ (n : p ≡ 0 → ⊥). ap (back pair) (signal_input pair p (p - 1) (omega arith) (omega arith)) ∙ omega arith)
    (cases_eq p 0))
    (λ (h : left_from pair ≤ p). ⊎_elim
    (λ (l : p < length (variables pair.left)).
    ap (back pair) (signal_left pair p h l) ∙ place_of_variable pair.left p (get_or (variables pair.left) p 0) sound.left.once l refl)
    (λ (l : length (variables pair.left) ≤ p).
    let i = sound.inputs in
    let left = length_variables pair.left in
    let right = length_variables pair.right in
    let q : ℕ = p - length (own pair.left) in
    let within : q < length (variables pair.right) = right_within pair p sound lt l in
    let at = place_of_variable pair.right q (get_or (variables pair.right) q 0) sound.right.once within refl in
    ap (back pair) (signal_right pair p q sound (omega arith) (omega arith) within) ∙ omega arith)
    (cases_lt p (length (variables pair.left))))
    (cases_lt p (left_from pair))

-- two signals that are the same are equal, and back
pub same_to : (s t : Signal) → is_signal s t ≡ true → s ≡ t
same_to Const Const e = refl
same_to Const (Input j) e = absurd (true≢false (sym e))
same_to Const (Left j) e = absurd (true≢false (sym e))
same_to Const (Right j) e = absurd (true≢false (sym e))
same_to (Input i) Const e = absurd (true≢false (sym e))
same_to (Input i) (Input j) e = ap Input (eqb-true i j e)
same_to (Input i) (Left j) e = absurd (true≢false (sym e))
same_to (Input i) (Right j) e = absurd (true≢false (sym e))
same_to (Left i) Const e = absurd (true≢false (sym e))
same_to (Left i) (Input j) e = absurd (true≢false (sym e))
same_to (Left i) (Left j) e = ap Left (eqb-true i j e)
same_to (Left i) (Right j) e = absurd (true≢false (sym e))
same_to (Right i) Const e = absurd (true≢false (sym e))
same_to (Right i) (Input j) e = absurd (true≢false (sym e))
same_to (Right i) (Left j) e = absurd (true≢false (sym e))
same_to (Right i) (Right j) e = ap Right (eqb-true i j e)

itself : (s : Signal) → is_signal s s ≡ true
itself Const = refl
itself (Input i) = eq-eqb i i refl
itself (Left v) = eq-eqb v v refl
itself (Right v) = eq-eqb v v refl

not_true : (b : Bool) → (b ≡ true → ⊥) → b ≡ false
not_true true n = absurd (n refl)
not_true false n = refl

found : (n m : ℕ) → m ≡ n → (len : ℕ) → n < len → cond (nat_lt m len) (Some m) None ≡ Some n
found n m e len lt = ap (λ (i : ℕ). cond (nat_lt i len) (Some i) None) e ∙ ap (λ (b : Bool). cond b (Some n) None) (lt-ltb n len lt)

missed : (m len : ℕ) → m ≡ len → cond (nat_lt m len) (Some m) None ≡ None
missed m len e = ap (λ (b : Bool). cond b (Some m) None) (le-ltb m len (omega arith))

-- where a signal stands is its place
pub placed : (pair : Pair) (s : Signal) (p : ℕ) → IsSoundPair pair → p < places_of pair → signal_at pair p ≡ s → position (is_signal s) (signals pair) ≡ Some p
placed pair s p sound lt is =
    let size = length_signals pair in
    let here : is_signal s (get_or (signals pair) p Const) ≡ true = ap (is_signal s) is ∙ itself s in
    found p (position_or_len (is_signal s) (signals pair))
    (position_or_len_is (is_signal s) (signals pair) p Const (omega arith)
    (λ k less. not_true _ (λ (e : is_signal s (get_or (signals pair) k Const) ≡ true).
    let same : p ≡ k = sym (back_at pair p sound lt) ∙ ap (back pair) (is ∙ same_to s (get_or (signals pair) k Const) e) ∙ back_at pair k sound (omega arith) in
    omega arith))
    (λ short. here))
    (length (signals pair)) (omega arith)

-- a signal that stands nowhere has none
pub unplaced : (pair : Pair) (s : Signal) → (Contains (signals pair) s → ⊥) → position (is_signal s) (signals pair) ≡ None
unplaced pair s nowhere =
    missed (position_or_len (is_signal s) (signals pair)) (length (signals pair))
    (position_or_len_is (is_signal s) (signals pair) (length (signals pair)) Const (omega arith)
    (λ k less. not_true _ (λ (e : is_signal s (get_or (signals pair) k Const) ≡ true).
    nowhere (k, less, get_or_default (signals pair) k s Const less ∙ sym (same_to s (get_or (signals pair) k Const) e))))
    (λ short. absurd (omega arith)))
