-- Lines written one after another.
use Rattle.std.proofs.Common.{◌≡◌, ◌≤◌, ◌<◌, ℕ, ℤ, pos, ◌+◌, List, [], ◌∷◌, ◌++◌, take, drop, length, get_or, decimal, sym, ap, ◌∙◌, subst, append_assoc, append-nil, add-one, drop-cons}
use Rattle.std.specs.List.{All}
use Rattle.std.specs.Fmt.{signed_decimal}
use Rattle.std.proofs.Math.Seq.{take-suc}
use Rattle.std.proofs.lemmas.List.{drop_more, take_all, drop_all}
use Rattle.std.proofs.lemmas.List.Elements.{All-push}
use Rattle.sat_log.specs.Derivations.{Line, line_at}
use Rattle.sat_log.specs.Texts.{HasText, literals_text, hints_text, step_text, log_text}

-- one more literal, with the space after it
pub literals_more : (literals : List ℤ) (i : ℕ) (front whole middle after : List ℕ) → i < length literals → front ++ literals_text (drop i literals) ≡ whole
    → middle ≡ front ++ signed_decimal (get_or literals i (pos 0)) → after ≡ middle ++ 32 ∷ [] → after ++ literals_text (drop (i + 1) literals) ≡ whole
literals_more literals i front whole middle after lt e m f =
    let rest : List ℕ = literals_text (drop (i + 1) literals) in
    let word : List ℕ = signed_decimal (get_or literals i (pos 0)) in
    ap (λ (xs : List ℕ). xs ++ rest) (f ∙ ap (λ (xs : List ℕ). xs ++ 32 ∷ []) m) ∙ append_assoc (front ++ word) (32 ∷ []) rest ∙ append_assoc front word (32 ∷ rest)
    ∙ sym (ap (λ (ls : List ℤ). front ++ literals_text ls) (drop_more literals i (pos 0) lt)) ∙ e

-- one more hint, likewise
pub hints_more : (hints : List ℕ) (i : ℕ) (front whole middle after : List ℕ) → i < length hints → front ++ hints_text (drop i hints) ≡ whole
    → middle ≡ front ++ decimal (get_or hints i 0) → after ≡ middle ++ 32 ∷ [] → after ++ hints_text (drop (i + 1) hints) ≡ whole
hints_more hints i front whole middle after lt e m f =
    let rest : List ℕ = hints_text (drop (i + 1) hints) in
    let word : List ℕ = decimal (get_or hints i 0) in
    ap (λ (xs : List ℕ). xs ++ rest) (f ∙ ap (λ (xs : List ℕ). xs ++ 32 ∷ []) m) ∙ append_assoc (front ++ word) (32 ∷ []) rest ∙ append_assoc front word (32 ∷ rest)
    ∙ sym (ap (λ (hs : List ℕ). front ++ hints_text hs) (drop_more hints i 0 lt)) ∙ e

-- one more line
pub text_more : (lines : List Line) (i : ℕ) (front whole after : List ℕ) → i < length lines → front ++ log_text (drop i lines) ≡ whole
    → after ≡ front ++ (step_text (line_at lines i).literals (line_at lines i).hints ++ 10 ∷ []) → after ++ log_text (drop (i + 1) lines) ≡ whole
unfolding log_text
text_more lines i front whole after lt e f =
    let line = line_at lines i in
    let text : List ℕ = step_text line.literals line.hints in
    let d : drop i lines ≡ line ∷ drop (i + 1) lines = rw add-one (drop-cons lines i (record { literals = []; hints = [] }) lt) in
    ap (λ (xs : List ℕ). xs ++ log_text (drop (i + 1) lines)) f ∙ append_assoc front (text ++ 10 ∷ []) (log_text (drop (i + 1) lines))
    ∙ ap (λ (xs : List ℕ). front ++ xs) (append_assoc text (10 ∷ []) (log_text (drop (i + 1) lines)))
    ∙ sym (ap (λ (ls : List Line). front ++ log_text ls) d) ∙ e

pub small_more : (lines : List Line) (i : ℕ) → i < length lines → All HasText (take i lines) → HasText (line_at lines i) → All HasText (take (i + 1) lines)
small_more lines i lt all is =
    let t : take (i + 1) lines ≡ take i lines ++ line_at lines i ∷ [] = rw add-one (take-suc lines i (record { literals = []; hints = [] }) lt) in
    subst (All HasText) (sym t) (All-push HasText (take i lines) (line_at lines i) all is)

-- all are written
pub text_all : (lines : List Line) (i : ℕ) (front whole : List ℕ) → length lines ≤ i → front ++ log_text (drop i lines) ≡ whole → front ≡ whole
unfolding log_text
text_all lines i front whole le e = sym (ap (λ (ls : List Line). front ++ log_text ls) (drop_all i lines le) ∙ append-nil front) ∙ e

pub small_all : (lines : List Line) (i : ℕ) → length lines ≤ i → All HasText (take i lines) → All HasText lines
small_all lines i le all = subst (All HasText) (take_all i lines le) all
