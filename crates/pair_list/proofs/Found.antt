-- Each text has a reading.
use Rattle.std.proofs.Common.{◌≡◌, ◌≢◌, ◌∙◌, ◌⊎◌, inl, inr, ℕ, zero, suc, ◌+◌, ◌≤◌, List, [], ◌∷◌, ◌++◌, length, length-append, Result, Ok, Err, true≢false, refl, sym, ap, subst, arith}
use Rattle.std.proofs.lemmas.List.Elements.{All-nil, All-cons}
use Rattle.std.proofs.lemmas.Bool.{cases_eq, cases_lt, cases_Bool}
use Rattle.std.proofs.lemmas.Str.{IsUtf8-from_is_utf8, is_utf8-from_IsUtf8}
use Rattle.std.specs.Str.{is_utf8}
use Rattle.pair_list.specs.declared.fault.ListKind.{ListKind}
use Rattle.pair_list.specs.declared.fault.ListKind.TheVariants as kinds
use Rattle.pair_list.specs.declared.fault.ListFault.{ListFault}
use Rattle.pair_list.specs.Lists.{AreNames, HasNone, IsName, line_of}
use Rattle.pair_list.specs.Readings.{Begins, IsFirstFault, IsWrong, Reads, fault}
use Rattle.pair_list.proofs.Cuts.{no_space_no_pair, no_left_no_pair, no_right_no_pair, none_left, none_right, not_within}
use Rattle.pair_list.proofs.Texts.{begins_none, begins_more}

-- a text is cut by the first of a byte, or has none
pub record IsCut (b : ℕ) (xs : List ℕ) : Type 0 where
  pub left : List ℕ
  pub right : List ℕ
  pub none : HasNone b left
  pub is : xs ≡ left ++ b ∷ right

first_cut : (b : ℕ) (xs : List ℕ) → HasNone b xs ⊎ IsCut b xs
first_cut b [] = inl (All-nil (λ (y : ℕ). y ≢ b))
first_cut b (x ∷ xs) =
    elim (cases_eq x b) [
      | inl same ↦ inr (record { left = []; right = xs; none = All-nil (λ (y : ℕ). y ≢ b); is = ap (λ (y : ℕ). y ∷ xs) same })
      | inr other ↦
          elim (first_cut b xs) [
            | inl none ↦ inl (All-cons (λ (y : ℕ). y ≢ b) x xs other none)
            | inr c ↦ inr (record { left = x ∷ c.left; right = c.right; none = All-cons (λ (y : ℕ). y ≢ b) x c.left other c.none; is = ap (λ (ys : List ℕ). x ∷ ys) c.is })
          ]
    ]

is_empty : (xs : List ℕ) → (xs ≡ []) ⊎ (xs ≢ [])
is_empty [] = inl refl
is_empty (x ∷ xs) = inr (λ e. cc)

is_name : (xs : List ℕ) → HasNone 10 xs → IsName xs ⊎ (IsName xs → ⊥)
is_name xs no_end =
    elim (is_empty xs) [
      | inl empty ↦ inr (λ n. n.some empty)
      | inr some ↦
          elim (first_cut 32 xs) [
            | inr c ↦ inr (λ n. not_within 32 c.left c.right (subst (HasNone 32) c.is n.no_space))
            | inl no_space ↦
                elim (cases_Bool (is_utf8 xs)) [
                  | inl holds ↦ inl (record { some = some; no_space = no_space; no_end = no_end; utf8 = IsUtf8-from_is_utf8 xs holds })
                  | inr fails ↦ inr (λ n. true≢false (sym (is_utf8-from_IsUtf8 xs n.utf8) ∙ fails))
                ]
          ]
    ]

-- the pair of a line
pub record IsLine (line : List ℕ) : Type 0 where
  pub pair : List ℕ × List ℕ
  pub names : AreNames pair
  pub is : line ≡ line_of pair

is_line : (line : List ℕ) → HasNone 10 line → IsLine line ⊎ ((p : List ℕ × List ℕ) → AreNames p → line ≡ line_of p → ⊥)
is_line line no_end =
    elim (first_cut 32 line) [
      | inl none ↦ inr (no_space_no_pair line none)
      | inr c ↦
          elim (is_name c.left (none_left 10 32 line c.left c.right c.is no_end)) [
            | inr fails ↦ inr (no_left_no_pair line c.left c.right c.is c.none fails)
            | inl left ↦
                elim (is_name c.right (none_right 10 32 line c.left c.right c.is no_end)) [
                  | inr fails ↦ inr (no_right_no_pair line c.left c.right c.is c.none fails)
                  | inl right ↦ inl (record { pair = (c.left, c.right); names = (left, right); is = c.is })
                ]
          ]
    ]

-- a first fault, from its parts
pub wrong_line : (bytes rest : List ℕ) (ps : List (List ℕ × List ℕ)) (kind : ListKind) → Begins bytes ps rest → rest ≢ [] → IsWrong kind (length ps) rest → IsFirstFault bytes (fault kind (length ps + 1))
wrong_line bytes rest ps kind begins some wrong = record { pairs = ps; rest = rest; begins = begins; some = some; line_is = refl; wrong = wrong }

abbrev pub Reading : List ℕ → Type 0
Reading bytes = (r : Result (List (List ℕ × List ℕ)) ListFault) × Reads bytes r

find : (most : ℕ) (bytes rest : List ℕ) (ps : List (List ℕ × List ℕ)) → length rest ≤ most → Begins bytes ps rest → Reading bytes
find most bytes [] ps le begins = (Ok ps, begins)
find zero bytes (b ∷ bs) ps le begins = absurd (omega arith)
find (suc most) bytes (b ∷ bs) ps le begins =
    let rest : List ℕ = b ∷ bs in
    let some : rest ≢ [] = λ e. cc in
    elim (cases_lt (length ps) 10000) [
      | inr full ↦ let few = begins.few in (Err (fault kinds.Limit (length ps + 1)), wrong_line bytes rest ps kinds.Limit begins some (omega arith))
      | inl less ↦
          elim (first_cut 10 rest) [
            | inl none ↦ (Err (fault kinds.Truncated (length ps + 1)), wrong_line bytes rest ps kinds.Truncated begins some (less, none))
            | inr c ↦
                elim (is_line c.left c.none) [
                  | inr fails ↦ (Err (fault kinds.Line (length ps + 1)), wrong_line bytes rest ps kinds.Line begins some (less, (c.left, c.right, c.none, c.is, fails)))
                  | inl l ↦
                      let shorter = ap (λ (xs : List ℕ). length xs) c.is in
                      find most bytes c.right (ps ++ l.pair ∷ []) (omega (arith, shorter, length-append c.left (10 ∷ c.right), le)) (begins_more bytes rest c.left c.right ps l.pair begins less c.is l.names l.is)
                ]
          ]
    ]

pub some_reading : (bytes : List ℕ) → Reading bytes
some_reading bytes = find (length bytes) bytes bytes [] (omega arith) (begins_none bytes)
