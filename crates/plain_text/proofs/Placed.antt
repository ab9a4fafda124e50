-- The digits of a number, put from the last to the first.
use Rattle.std.specs.Prelude.{◌≡◌, ℕ, ◌+◌, ◌-◌, ◌/◌, ◌%◌, ◌^◌, ◌<◌, ◌≤◌, List, [], ◌∷◌, ◌++◌, length, drop, slice_set, decimal}
use Rattle.std.proofs.Common.{ap, ◌∙◌, sym, arith, append_assoc, append-nil, length-append, length-set}
use Rattle.std.proofs.lemmas.List.{drop-set, drop_all}
use Rattle.std.proofs.lemmas.Fmt.{decimal_digit, decimal_step, length-decimal-le}

-- the digits that stand in the array, from this place on, follow those of what is left of the number
pub record Placed (n rest start : ℕ) (array : List ℕ) : Type 0 where
  pub whole : decimal rest ++ drop start array ≡ decimal n
  pub room : length (decimal rest) ≤ start
  pub within : start ≤ 20
  pub size : length array ≡ 20
  pub small : rest < 2 ^ 64

pub placed_none : (n : ℕ) (array : List ℕ) → n < 2 ^ 64 → length array ≡ 20 → Placed n n 20 array
placed_none n array small size = record { whole = ap (λ xs. decimal n ++ xs) (drop_all 20 array (omega arith)) ∙ append-nil (decimal n); room = length-decimal-le 20 n (omega arith) (omega arith) small; within = omega arith; size = size; small = small }

pub placed_more : (n rest start : ℕ) (array : List ℕ) → 10 ≤ rest → Placed n rest start array
    → (0 < start) × Placed n (rest / 10) (start - 1) (slice_set array (start - 1) (48 + rest % 10))
placed_more n rest start array large p =
    let step = decimal_step rest large p.small in
    let count : length (decimal rest) ≡ length (decimal (rest / 10)) + 1 = ap length step ∙ length-append _ _ in
    let at : start - 1 < length array = omega (arith, count, p.room, p.within, p.size) in
    let one : start - 1 + 1 ≡ start = omega (arith, count, p.room) in (
      omega (arith, count, p.room),
      record {
        whole = ap (λ xs. decimal (rest / 10) ++ xs) (drop-set array (start - 1) (48 + rest % 10) at ∙ ap (λ k. (48 + rest % 10) ∷ drop k array) one)
            ∙ sym (append_assoc (decimal (rest / 10)) ((48 + rest % 10) ∷ []) (drop start array)) ∙ ap (λ xs. xs ++ drop start array) (sym step) ∙ p.whole;
        room = omega (arith, count, p.room);
        within = omega (arith, p.within);
        size = length-set array (start - 1) (48 + rest % 10) ∙ p.size;
        small = omega (arith, p.small);
      },
    )

pub placed_last : (n rest start : ℕ) (array : List ℕ) → rest < 10 → Placed n rest start array
    → (0 < start) × (drop (start - 1) (slice_set array (start - 1) (48 + rest)) ≡ decimal n)
placed_last n rest start array less p =
    let digit = decimal_digit rest less in
    let count : length (decimal rest) ≡ 1 = ap length digit in
    let at : start - 1 < length array = omega (arith, count, p.room, p.within, p.size) in
    let one : start - 1 + 1 ≡ start = omega (arith, count, p.room) in
    (omega (arith, count, p.room), drop-set array (start - 1) (48 + rest) at ∙ ap (λ k. (48 + rest) ∷ drop k array) one ∙ ap (λ xs. xs ++ drop start array) (sym digit) ∙ p.whole)
