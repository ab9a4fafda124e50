-- What is written is read again.
use Rattle.std.proofs.Common.{◌≡◌, ◌≢◌, ℕ, suc, ◌+◌, ◌^◌, ◌<◌, ◌==◌, ◌&&◌, Bool, true, false, ℤ, pos, negsuc, List, [], ◌∷◌, ◌++◌, length, get_or, Some, Ok, refl, sym, ap, ◌∙◌, arith, append_assoc, append-nil, subst, decimal}
use Rattle.std.specs.Fmt.{signed_decimal}
use Rattle.std.specs.List.{AllByRecursion, All}
use Rattle.std.proofs.lemmas.Bool.{ne_eqb}
use Rattle.cnf_store.specs.Clauses.{IsLiteral, AreLiterals}
use Rattle.sat_log.specs.Derivations.{Line}
use Rattle.sat_log.specs.Lines.{IsLine, AreLines}
use Rattle.plain_text.specs.Pieces.{pieces, last_of, is_byte}
use Rattle.plain_text.proofs.Again.{Spells, Word, decimal_spells, is_of_digit, last_again, none_is, not_zero, number_read, piece_again, word_of}
use Rattle.sat_log.specs.Words.{literal_word}
use Rattle.sat_log.specs.Texts.{HasText, hints_from, step_from, step_of, literals_text, hints_text, step_text, log_text}
use Rattle.sat_log.specs.Parts.{starts_log, part_from, log_from, log_of}

and_false : (a : Bool) → (a && false) ≡ false
and_false true = refl
and_false false = refl

no_sign : (n : ℕ) (ds : List ℕ) → Word n ds → (get_or ds 0 0 == 45) ≡ false
no_sign n [] w = absurd (omega (arith, w.spells.some))
no_sign n (d ∷ ds) w = ne_eqb d 45 (λ e. let low = w.spells.digits.0.0 in omega arith)

-- a literal's text
record LiteralWord (l : ℤ) (text : List ℕ) : Type 0 where
  read : literal_word text ≡ Some l
  other : is_byte 48 text ≡ false
  plain : (b : ℕ) → b < 45 → AllByRecursion (λ d. d ≢ b) text
  starts : (rest : List ℕ) → starts_log (text ++ rest) ≡ true

digit_starts : (n : ℕ) (ds rest : List ℕ) → Spells n ds → starts_log (ds ++ rest) ≡ true
digit_starts n [] rest s = absurd (omega (arith, s.some))
digit_starts n (d ∷ ds) rest s = let t = is_of_digit d s.digits.0 in rw t refl

literal_read : (l : ℤ) → IsLiteral 2147483647 l → LiteralWord l (signed_decimal l)
literal_read (pos n) is =
    let w = word_of n is.0 (omega (arith, is.1)) in
    let r = number_read 2147483647 n (decimal n) w is.1 in
    let s = no_sign n (decimal n) w in
    record {
      read = rw (s, r) refl;
      other = not_zero n (decimal n) w;
      plain = λ b lt. none_is b (decimal n) (omega arith) w.spells.digits;
      starts = λ rest. digit_starts n (decimal n) rest w.spells;
    }
literal_read (negsuc n) is =
    let w = word_of (suc n) is.0 (omega (arith, is.1)) in
    let r = number_read 2147483647 (suc n) (decimal (suc n)) w is.1 in
    record {
      read = rw r refl;
      other = and_false _;
      plain = λ b lt. ((λ e. omega arith), none_is b (decimal (suc n)) (omega arith) w.spells.digits);
      starts = λ rest. refl;
    }

hints_again : (literals : List ℤ) (front hs : List ℕ) → All (λ h. 0 < h) hs → All (λ h. h < 2 ^ 64) hs
    → hints_from literals front (pieces 32 (hints_text hs ++ 48 ∷ [])) (last_of 32 (hints_text hs ++ 48 ∷ [])) ≡ Some (record { literals = literals; hints = front ++ hs })
unfolding hints_from pieces last_of
hints_again literals front [] given small = ap (λ (l : List ℕ). Some (record { literals = literals; hints = l })) (sym (append-nil front))
hints_again literals front (h ∷ hs) given small =
    let w = word_of h (given 0 0 (omega arith)) (small 0 0 (omega arith)) in
    let rest : List ℕ = hints_text hs ++ 48 ∷ [] in
    let a : hints_text (h ∷ hs) ++ 48 ∷ [] ≡ decimal h ++ 32 ∷ rest = append_assoc (decimal h) (32 ∷ hints_text hs) (48 ∷ []) in
    let p = piece_again 32 (decimal h) rest (none_is 32 (decimal h) (omega arith) w.spells.digits) in
    let q = last_again 32 (decimal h) rest (none_is 32 (decimal h) (omega arith) w.spells.digits) in
    let few : h < 2 ^ 64 = small 0 0 (omega arith) in
    let r = number_read 18446744073709551615 h (decimal h) w (omega arith) in
    rw (a, p, q, r) (hints_again literals (front ++ h ∷ []) hs (λ k d lt. given (suc k) d (omega arith)) (λ k d lt. small (suc k) d (omega arith))
    ∙ ap (λ (l : List ℕ). Some (record { literals = literals; hints = l })) (append_assoc front (h ∷ []) hs))

pub step_again : (front ls : List ℤ) (hs : List ℕ) → AreLiterals 2147483647 ls → All (λ h. 0 < h) hs → All (λ h. h < 2 ^ 64) hs
    → step_from front (pieces 32 (step_text ls hs)) (last_of 32 (step_text ls hs)) ≡ Some (record { literals = front ++ ls; hints = hs })
unfolding step_from
step_again front [] hs lits given small =
    let rest : List ℕ = hints_text hs ++ 48 ∷ [] in
    let p = piece_again 32 (48 ∷ []) rest ((λ e. omega arith), tt) in
    let q = last_again 32 (48 ∷ []) rest ((λ e. omega arith), tt) in
    rw (p, q) (hints_again front [] hs given small ∙ ap (λ (l : List ℤ). Some (record { literals = l; hints = hs })) (sym (append-nil front)))
step_again front (l ∷ ls) hs lits given small =
    let w = literal_read l (lits 0 l (omega arith)) in
    let tail : List ℕ = 48 ∷ 32 ∷ (hints_text hs ++ 48 ∷ []) in
    let a : step_text (l ∷ ls) hs ≡ signed_decimal l ++ 32 ∷ step_text ls hs = append_assoc (signed_decimal l) (32 ∷ literals_text ls) tail in
    let p = piece_again 32 (signed_decimal l) (step_text ls hs) (w.plain 32 (omega arith)) in
    let q = last_again 32 (signed_decimal l) (step_text ls hs) (w.plain 32 (omega arith)) in
    let o = w.other in
    let r = w.read in
    rw (a, p, q, o, r) (step_again (front ++ l ∷ []) ls hs (λ k d lt. lits (suc k) d (omega arith)) given small
    ∙ ap (λ (k : List ℤ). Some (record { literals = k; hints = hs })) (append_assoc front (l ∷ []) ls))

pub step_read : (ls : List ℤ) (hs : List ℕ) → AreLiterals 2147483647 ls → All (λ h. 0 < h) hs → All (λ h. h < 2 ^ 64) hs → step_of (step_text ls hs) ≡ Some (record { literals = ls; hints = hs })
step_read ls hs lits given small = step_again [] ls hs lits given small

-- no LF stands in a line
both : (b : ℕ) (xs ys : List ℕ) → AllByRecursion (λ d. d ≢ b) xs → AllByRecursion (λ d. d ≢ b) ys → AllByRecursion (λ d. d ≢ b) (xs ++ ys)
both b [] ys p q = q
both b (x ∷ xs) ys p q = (p.0, both b xs ys p.1 q)

hints_plain : (hs : List ℕ) → All (λ h. h < 2 ^ 64) hs → AllByRecursion (λ b. b ≢ 10) (hints_text hs ++ 48 ∷ [])
hints_plain [] small = ((λ e. omega arith), tt)
hints_plain (h ∷ hs) small =
    let s = decimal_spells h (small 0 0 (omega arith)) in
    subst (AllByRecursion (λ b. b ≢ 10)) (sym (append_assoc (decimal h) (32 ∷ hints_text hs) (48 ∷ [])))
    (both 10 (decimal h) (32 ∷ (hints_text hs ++ 48 ∷ [])) (none_is 10 (decimal h) (omega arith) s.digits) ((λ e. omega arith), hints_plain hs (λ k d lt. small (suc k) d (omega arith))))

step_plain : (ls : List ℤ) (hs : List ℕ) → AreLiterals 2147483647 ls → All (λ h. h < 2 ^ 64) hs → AllByRecursion (λ b. b ≢ 10) (step_text ls hs)
step_plain [] hs lits small = ((λ e. omega arith), ((λ e. omega arith), hints_plain hs small))
step_plain (l ∷ ls) hs lits small =
    let w = literal_read l (lits 0 l (omega arith)) in
    let tail : List ℕ = 48 ∷ 32 ∷ (hints_text hs ++ 48 ∷ []) in
    subst (AllByRecursion (λ b. b ≢ 10)) (sym (append_assoc (signed_decimal l) (32 ∷ literals_text ls) tail))
    (both 10 (signed_decimal l) (32 ∷ step_text ls hs) (w.plain 10 (omega arith)) ((λ e. omega arith), step_plain ls hs (λ k d lt. lits (suc k) d (omega arith)) small))

step_starts : (ls : List ℤ) (hs : List ℕ) → AreLiterals 2147483647 ls → starts_log (step_text ls hs) ≡ true
step_starts [] hs lits = refl
step_starts (l ∷ ls) hs lits =
    let w = literal_read l (lits 0 l (omega arith)) in
    let tail : List ℕ = 48 ∷ 32 ∷ (hints_text hs ++ 48 ∷ []) in
    ap starts_log (append_assoc (signed_decimal l) (32 ∷ literals_text ls) tail) ∙ w.starts (32 ∷ step_text ls hs)

-- a line, whatever follows it
pub line_again : (line : Line) (rest : List ℕ) → IsLine line → HasText line → pieces 10 (step_text line.literals line.hints ++ 10 ∷ rest) ≡ step_text line.literals line.hints ∷ pieces 10 rest
line_again line rest is small = piece_again 10 (step_text line.literals line.hints) rest (step_plain line.literals line.hints is.literals small)

pub line_last : (line : Line) (rest : List ℕ) → IsLine line → HasText line → last_of 10 (step_text line.literals line.hints ++ 10 ∷ rest) ≡ last_of 10 rest
line_last line rest is small = last_again 10 (step_text line.literals line.hints) rest (step_plain line.literals line.hints is.literals small)

-- a log that is written is read again
log_again : (front lines : List Line) (n : ℕ) → AreLines lines → All HasText lines → log_from front n (pieces 10 (log_text lines)) (last_of 10 (log_text lines)) ≡ Ok (front ++ lines)
unfolding log_from log_text pieces last_of
log_again front [] n are small = ap (λ (ls : List Line). Ok ls) (sym (append-nil front))
log_again front (line ∷ lines) n are small =
    let is = are 0 line (omega arith) in
    let has = small 0 line (omega arith) in
    let p = line_again line (log_text lines) is has in
    let q = line_last line (log_text lines) is has in
    let s = step_read line.literals line.hints is.literals is.hints has in
    rw (p, q, s) (log_again (front ++ line ∷ []) lines (n + 1) (λ k d lt. are (suc k) d (omega arith)) (λ k d lt. small (suc k) d (omega arith)) ∙ ap (λ (ls : List Line). Ok ls) (append_assoc front (line ∷ []) lines))

pub log_read : (lines : List Line) → AreLines lines → All HasText lines → log_of (log_text lines) ≡ Ok lines
log_read lines are small = log_again [] lines 1 are small

-- before another text, the lines of a log that is written are read again, and reading goes on behind them
pub part_again : (front lines : List Line) (n : ℕ) (rest : List ℕ) → AreLines lines → All HasText lines
    → part_from front n (pieces 10 (log_text lines ++ rest)) ≡ part_from (front ++ lines) (n + length lines) (pieces 10 rest)
unfolding part_from log_text
part_again front [] n rest are small =
    let z : n + 0 ≡ n = omega arith in
    rw z (ap (λ (ls : List Line). part_from ls n (pieces 10 rest)) (sym (append-nil front)))
part_again front (line ∷ lines) n rest are small =
    let is = are 0 line (omega arith) in
    let has = small 0 line (omega arith) in
    let text : List ℕ = step_text line.literals line.hints in
    let a : log_text (line ∷ lines) ++ rest ≡ text ++ 10 ∷ (log_text lines ++ rest) = append_assoc text (10 ∷ log_text lines) rest in
    let p = line_again line (log_text lines ++ rest) is has in
    let t = step_starts line.literals line.hints is.literals in
    let s = step_read line.literals line.hints is.literals is.hints has in
    let m : n + length (line ∷ lines) ≡ n + 1 + length lines = omega arith in
    rw (a, p, t, s, m) (part_again (front ++ line ∷ []) lines (n + 1) rest (λ k d lt. are (suc k) d (omega arith)) (λ k d lt. small (suc k) d (omega arith)) ∙ ap (λ (ls : List Line). part_from ls (n + 1 + length lines) (pieces 10 rest)) (append_assoc front (line ∷ []) lines))
