-- The number of a latch's word, on the way through the latches.
use Rattle.std.proofs.Common.{◌≡◌, ◌≢◌, ◌∙◌, ◌<◌, ◌≤◌, ◌+◌, ◌-◌, ◌++◌, ⊎_elim, ℕ, List, Bool, true, false, not, ◌&&◌, if◌then◌else◌, length, take, get_or, refl, ap, sym, arith}
use Rattle.std.specs.Prelude.{count_by, nat_lt}
use Rattle.std.proofs.lemmas.Bool.{cases_lt, lt-ltb, le-ltb}
use Rattle.std.proofs.lemmas.List.{take_all, take-append-le}
use Rattle.circ_model.specs.declared.netlist.Reset.{Reset}
use Rattle.circ_model.specs.declared.netlist.Reset.TheVariants.{Free}
use Rattle.circ_model.specs.Meaning.{is_free, own_resets, Pair, IsSoundPair, latches_of, resets}
use Rattle.circ_model.proofs.FreeLatches.{length_own_resets, count_more, count_within, free_number}
use Rattle.circ_model.proofs.Paths.{length_resets, left_reset_at, right_reset_at}
use Rattle.sim_words.specs.Simulation.{free_before, free_count, counted_before}

-- the count of a side, where it begins anew, or else of all
abbrev pub by_side : Pair → ℕ → Bool → ℕ
by_side pair i anew = if anew then count_by is_free (take (i - length pair.left.latches) (own_resets pair.right)) else count_by is_free (take i (resets pair))

pub and_false : (b : Bool) → (b && not true) ≡ false
and_false true = refl
and_false false = refl

pub take_append_left : (n : ℕ) (xs ys : List Reset) → n ≤ length xs → take n (xs ++ ys) ≡ take n xs
take_append_left n xs ys le = take-append-le n xs ys le

-- no count begins anew at the left's latches
low_number : (pair : Pair) (i : ℕ) → i < length pair.left.latches → free_before pair i ≡ count_by is_free (take i (resets pair))
low_number pair i lt = ap (λ (low : Bool). by_side pair i (pair.tied && not low)) (lt-ltb i (length pair.left.latches) lt) ∙ ap (by_side pair i) (and_false pair.tied)

low_counted : (pair : Pair) (i : ℕ) → i ≤ length pair.left.latches → counted_before pair i ≡ count_by is_free (take i (resets pair))
low_counted pair i le = ap (λ (past : Bool). by_side pair i (pair.tied && past)) (le-ltb (length pair.left.latches) i le) ∙ ap (by_side pair i) (only_false pair.tied)
  where
    only_false : (b : Bool) → (b && false) ≡ false
    only_false true = refl
    only_false false = refl

high_number : (pair : Pair) (i : ℕ) → length pair.left.latches ≤ i → free_before pair i ≡ by_side pair i (pair.tied && true)
high_number pair i le = ap (λ (low : Bool). by_side pair i (pair.tied && not low)) (le-ltb i (length pair.left.latches) le)

high_counted : (pair : Pair) (i : ℕ) → length pair.left.latches < i → counted_before pair i ≡ by_side pair i (pair.tied && true)
high_counted pair i lt = ap (λ (past : Bool). by_side pair i (pair.tied && past)) (lt-ltb (length pair.left.latches) i lt)

-- where the right side of a tied pair begins the number is 0
pub number_anew : (pair : Pair) (i : ℕ) → pair.tied ≡ true → i ≡ length pair.left.latches → 0 ≡ free_before pair i
number_anew pair i tied e =
    sym (high_number pair i (omega arith) ∙ ap (λ (on : Bool). by_side pair i (on && true)) tied ∙ ap (λ (n : ℕ). count_by is_free (take n (own_resets pair.right))) (let z : i - length pair.left.latches ≡ 0 = omega arith in z))

-- elsewhere it is what was counted
pub number_kept : (pair : Pair) (i : ℕ) → (pair.tied ≡ true → i ≢ length pair.left.latches) → counted_before pair i ≡ free_before pair i
number_kept pair i other = ⊎_elim
    (λ (h : i < length pair.left.latches). low_counted pair i (omega arith) ∙ sym (low_number pair i h))
    (λ (h : length pair.left.latches ≤ i). by_tie pair.tied refl h)
    (cases_lt i (length pair.left.latches))
  where
    by_tie : (tied : Bool) → pair.tied ≡ tied → length pair.left.latches ≤ i → counted_before pair i ≡ free_before pair i
    by_tie true e h = let apart = other e in high_counted pair i (omega arith) ∙ sym (high_number pair i h)
    by_tie false e h = ap (λ (on : Bool). by_side pair i (on && nat_lt (length pair.left.latches) i)) e ∙ sym (ap (λ (on : Bool). by_side pair i (on && not (nat_lt i (length pair.left.latches)))) e)

-- one latch more
pub counted_more : (pair : Pair) (i : ℕ) → i < latches_of pair → counted_before pair (i + 1) ≡ free_before pair i + (if is_free (get_or (resets pair) i Free) then 1 else 0)
counted_more pair i lt = ⊎_elim
    (λ (h : i < length pair.left.latches). low_counted pair (i + 1) (omega arith) ∙ count_more (resets pair) i (omega (arith, length_resets pair)) ∙ ap (λ (n : ℕ). n + (if is_free (get_or (resets pair) i Free) then 1 else 0)) (sym (low_number pair i h)))
    (λ (h : length pair.left.latches ≤ i). by_tie pair.tied refl h)
    (cases_lt i (length pair.left.latches))
  where
    by_tie : (tied : Bool) → pair.tied ≡ tied → length pair.left.latches ≤ i → counted_before pair (i + 1) ≡ free_before pair i + (if is_free (get_or (resets pair) i Free) then 1 else 0)
    by_tie true e h =
        let k : ℕ = i - length pair.left.latches in
        let next : i + 1 - length pair.left.latches ≡ k + 1 = omega arith in
        let same : length pair.left.latches + k ≡ i = omega arith in
        high_counted pair (i + 1) (omega arith) ∙ ap (λ (on : Bool). by_side pair (i + 1) (on && true)) e ∙ ap (λ (n : ℕ). count_by is_free (take n (own_resets pair.right))) next
        ∙ count_more (own_resets pair.right) k (omega (arith, length_own_resets pair.right))
        ∙ ap (λ (r : Reset). count_by is_free (take k (own_resets pair.right)) + (if is_free r then 1 else 0)) (sym (right_reset_at pair k) ∙ ap (λ (n : ℕ). get_or (resets pair) n Free) same)
        ∙ ap (λ (n : ℕ). n + (if is_free (get_or (resets pair) i Free) then 1 else 0)) (sym (high_number pair i h ∙ ap (λ (on : Bool). by_side pair i (on && true)) e))
    by_tie false e h =
        ap (λ (on : Bool). by_side pair (i + 1) (on && nat_lt (length pair.left.latches) (i + 1))) e ∙ count_more (resets pair) i (omega (arith, length_resets pair))
        ∙ ap (λ (n : ℕ). n + (if is_free (get_or (resets pair) i Free) then 1 else 0)) (sym (ap (λ (on : Bool). by_side pair i (on && not (nat_lt i (length pair.left.latches)))) e))

-- a free latch has one of the words
pub number_within : (pair : Pair) (i : ℕ) → IsSoundPair pair → i < latches_of pair → get_or (resets pair) i Free ≡ Free → free_before pair i < free_count pair
number_within pair i is lt free = by_tie pair.tied refl
  where
    by_tie : (tied : Bool) → pair.tied ≡ tied → free_before pair i < free_count pair
    by_tie false e =
        let count : free_count pair ≡ count_by is_free (resets pair) = ap (λ (on : Bool). count_by is_free (if on then own_resets pair.left else resets pair)) e in
        let number : free_before pair i ≡ count_by is_free (take i (resets pair)) = ap (λ (on : Bool). by_side pair i (on && not (nat_lt i (length pair.left.latches)))) e in
        omega (arith, count, number, count_within (resets pair) i (omega (arith, length_resets pair)) free)
    by_tie true e =
        let count : free_count pair ≡ count_by is_free (own_resets pair.left) = ap (λ (on : Bool). count_by is_free (if on then own_resets pair.left else resets pair)) e in
        ⊎_elim
        (λ (h : i < length pair.left.latches).
        let own : get_or (own_resets pair.left) i Free ≡ Free = sym (left_reset_at pair i h) ∙ free in
        let number : free_before pair i ≡ count_by is_free (take i (own_resets pair.left)) = low_number pair i h ∙ ap (count_by is_free) (take_append_left i (own_resets pair.left) (own_resets pair.right) (omega (arith, length_own_resets pair.left))) in
        let r : free_before pair i < free_count pair = omega (arith, count, number, count_within (own_resets pair.left) i (omega (arith, length_own_resets pair.left)) own) in r)
        (λ (h : length pair.left.latches ≤ i).
        let k : ℕ = i - length pair.left.latches in
        let same : length pair.left.latches + k ≡ i = omega arith in
        let own : get_or (own_resets pair.right) k Free ≡ Free = sym (right_reset_at pair k) ∙ ap (λ (n : ℕ). get_or (resets pair) n Free) same ∙ free in
        let number : free_before pair i ≡ count_by is_free (take k (own_resets pair.right)) = high_number pair i h ∙ ap (λ (on : Bool). by_side pair i (on && true)) e in
        let equal : count_by is_free (own_resets pair.left) ≡ count_by is_free (own_resets pair.right) = sym (free_number 0 (own_resets pair.left)) ∙ is.ties e ∙ free_number 0 (own_resets pair.right) in
        let r : free_before pair i < free_count pair = omega (arith, count, number, equal, count_within (own_resets pair.right) k (omega (arith, length_own_resets pair.right)) own) in r)
        (cases_lt i (length pair.left.latches))

-- the words are counted among all latches, or among the left's
pub count_tied : (pair : Pair) (end : ℕ) → pair.tied ≡ true → end ≡ length pair.left.latches → count_by is_free (take end (resets pair)) ≡ free_count pair
count_tied pair end tied e =
    ap (count_by is_free) (take_append_left end (own_resets pair.left) (own_resets pair.right) (omega (arith, length_own_resets pair.left)) ∙ take_all end (own_resets pair.left) (omega (arith, length_own_resets pair.left)))
    ∙ sym (ap (λ (on : Bool). count_by is_free (if on then own_resets pair.left else resets pair)) tied)

pub count_untied : (pair : Pair) (end : ℕ) → pair.tied ≡ false → end ≡ latches_of pair → count_by is_free (take end (resets pair)) ≡ free_count pair
count_untied pair end untied e =
    ap (count_by is_free) (take_all end (resets pair) (omega (arith, length_resets pair))) ∙ sym (ap (λ (on : Bool). count_by is_free (if on then own_resets pair.left else resets pair)) untied)
