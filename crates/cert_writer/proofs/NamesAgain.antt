-- Numbers and names that are written are read again.
use Rattle.std.proofs.Common.{◌≡◌, ◌≢◌, ◌∙◌, ◌<◌, ◌+◌, ◌==◌, ◌||◌, not, ℕ, true, false, List, ◌∷◌, length, get_or, Some, refl, sym, ap, arith, ⊎_elim, decimal, Contains}
use Rattle.std.specs.Prelude.{slice_index}
use Rattle.std.specs.List.{AllByRecursion}
use Rattle.std.proofs.lemmas.Bool.{eq-eqb, ne_eqb, cases_eq}
use Rattle.std.proofs.lemmas.Fmt.{decimal_digit, first_decimal}
use Rattle.std.proofs.lemmas.List.{get_or_default, get_or-append-add}
use Rattle.plain_text.specs.Numbers.{number_at}
use Rattle.plain_text.proofs.Again.{decimal_spells, digits_whole, none_is, number_made, number_spelled}
use Rattle.circ_model.specs.declared.netlist.Signal.{Signal}
use Rattle.circ_model.specs.declared.netlist.Signal.TheVariants.{Const, Input, Left, Right}
use Rattle.circ_model.specs.Netlist.{Netlist, IsSound, variables, own}
use Rattle.circ_model.specs.Meaning.{Pair, IsSoundPair, places_of}
use Rattle.circ_model.proofs.Rows.{variables_split, length_row_left}
use Rattle.product_machine.specs.Cells.{signals}
use Rattle.product_machine.specs.Signals.{signal_at}
use Rattle.product_machine.proofs.Size.{few_places, length_signals}
use Rattle.product_machine.proofs.Signalling.{holds_input, holds_left, holds_right}
use Rattle.class_text.specs.ClassLines.{name_of}
use Rattle.corr_certificate.specs.Names.{number_of, signal_of, place_of, named}
use Rattle.corr_certificate.proofs.Places.{placed}

-- no zero leads
unpadded : (n : ℕ) → n < 4294967296 → (not (get_or (decimal n) 0 0 == 48) || (length (decimal n) == 1)) ≡ true
unpadded n lt = ⊎_elim
    (λ (z : n ≡ 0). ap (λ (m : ℕ). not (get_or (decimal m) 0 0 == 48) || (length (decimal m) == 1)) z ∙ (let d = decimal_digit 0 (omega arith) in rw d refl))
    (λ (some : n ≢ 0).
    let f = first_decimal n (omega arith) (omega (arith, lt)) in
    let t : (get_or (decimal n) 0 0 == 48) ≡ false = ne_eqb _ _ (λ e. omega arith) in rw t refl)
    (cases_eq n 0)

pub number_again : (n : ℕ) → n < 4294967296 → number_of (decimal n) ≡ Some n
unfolding number_at
number_again n lt =
    let s = number_spelled n lt in
    let d = digits_whole (decimal n) s.digits in
    let m = number_made (decimal n) 0 n s in
    let e = eq-eqb (0 + length (decimal n)) (length (decimal n)) (omega arith) in
    let f = unpadded n lt in
    rw (d, m, e, f) refl

-- numbers of names
abbrev pub IsSmall : Signal → Type 0
IsSmall Const = Unit {0}
IsSmall (Input i) = i < 4294967296
IsSmall (Left v) = v < 4294967296
IsSmall (Right v) = v < 4294967296

own_small : (net : Netlist) (v : ℕ) → IsSound net → Contains (own net) v → v < 4294967296
own_small net v sound (k, lt, e) =
    let split = variables_split net in
    let size = ap length split in
    let at : get_or (variables net) (length (0 ∷ net.inputs) + k) 0 ≡ get_or (own net) k 0 = ap (λ (vs : List ℕ). get_or vs (length (0 ∷ net.inputs) + k) 0) split ∙ get_or-append-add (0 ∷ net.inputs) (own net) k 0 in
    let is : get_or (own net) k 0 ≡ v = get_or_default (own net) k 0 v lt ∙ e in
    let within = sound.in_range (length (0 ∷ net.inputs) + k) 0 (own_within net k lt) in
    let few = sound.size in
    omega arith
  where
    own_within : (net : Netlist) (k : ℕ) → k < length (own net) → length (0 ∷ net.inputs) + k < length (variables net)
    own_within net k lt = let e = ap length (variables_split net) in let a = Rattle.std.proofs.Common.length-append (0 ∷ net.inputs) (own net) in omega arith

pub small_at : (pair : Pair) (p : ℕ) → IsSoundPair pair → p < places_of pair → IsSmall (signal_at pair p)
small_at pair p sound lt = by (signal_at pair p) (p, (let l = length_signals pair in omega arith), sym (get_or_default (signals pair) p Const (signal_at pair p) (let l = length_signals pair in omega arith)))
  where
    by : (s : Signal) → Contains (signals pair) s → IsSmall s
    by Const c = tt
    by (Input i) c = let h = holds_input pair i c in let few = few_places pair sound in let row = length_row_left pair in omega arith
    by (Left v) c = own_small pair.left v sound.left (holds_left pair v c)
    by (Right v) c = own_small pair.right v sound.right (holds_right pair v c)

signal_again : (s : Signal) → IsSmall s → signal_of (name_of s) ≡ Some s
signal_again Const small = refl
signal_again (Input i) small = let n = number_again i small in rw n refl
signal_again (Left v) small = let n = number_again v small in rw n refl
signal_again (Right v) small = let n = number_again v small in rw n refl

-- a signal's name names its place
pub named_again : (pair : Pair) (p : ℕ) → IsSoundPair pair → p < places_of pair → named pair (name_of (signal_at pair p)) ≡ Some p
named_again pair p sound lt = ap (place_of pair) (signal_again (signal_at pair p) (small_at pair p sound lt)) ∙ placed pair (signal_at pair p) p sound lt refl

-- no separator stands in it
pub name_plain : (b : ℕ) (s : Signal) → b < 48 → IsSmall s → AllByRecursion (λ d. d ≢ b) (name_of s)
name_plain b Const lt small = ((λ e. omega arith), tt)
name_plain b (Input i) lt small = ((λ e. omega arith), none_is b (decimal i) lt (decimal_spells i (omega arith)).digits)
name_plain b (Left v) lt small = ((λ e. omega arith), none_is b (decimal v) lt (decimal_spells v (omega arith)).digits)
name_plain b (Right v) lt small = ((λ e. omega arith), none_is b (decimal v) lt (decimal_spells v (omega arith)).digits)

-- and no `!` begins it
pub name_unsigned : (s : Signal) → (slice_index (name_of s) 0 == 33) ≡ false
name_unsigned Const = refl
name_unsigned (Input i) = refl
name_unsigned (Left v) = refl
name_unsigned (Right v) = refl
