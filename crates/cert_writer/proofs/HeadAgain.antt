-- Line 1 that is written is read again, and a text that ends with an LF has no other last piece.
use Rattle.std.proofs.Common.{◌≡◌, ◌≢◌, ◌∙◌, ◌<◌, ◌≤◌, ◌==◌, ℕ, Bool, true, false, List, [], ◌∷◌, ◌++◌, Some, refl, sym, ap, arith, decimal, codes, append_assoc}
use Rattle.std.specs.List.{AllByRecursion}
use Rattle.std.proofs.lemmas.Bool.{eq-eqb, ne_eqb}
use Rattle.circ_model.specs.Meaning.{Pair, IsSoundPair, places_of}
use Rattle.product_machine.proofs.Size.{few_places}
use Rattle.plain_text.specs.Pieces.{pieces, last_of}
use Rattle.plain_text.proofs.Again.{piece_again, last_again, decimal_spells, none_is}
use Rattle.corr_certificate.specs.Certificate.{head_of, head_words, tie_of}
use Rattle.cert_writer.specs.Writing.{head_text, tie_text}
use Rattle.cert_writer.proofs.NamesAgain.{number_again}

-- a text without separators is one last piece
pub only_again : (separator : ℕ) (text : List ℕ) → AllByRecursion (λ b. b ≢ separator) text → (pieces separator text ≡ []) × (last_of separator text ≡ text)
unfolding pieces last_of
only_again separator [] all = (refl, refl)
only_again separator (b ∷ bs) all =
    let t = ne_eqb b separator all.0 in
    let h = only_again separator bs all.1 in
    (rw (t, h.0) refl, rw (t, h.0) refl)

-- a text that a separator ends has a piece, and an empty last one
pub record Ended (separator : ℕ) (text : List ℕ) : Type 0 where
  pub first : List ℕ
  pub others : List (List ℕ)
  pub pieces_are : pieces separator text ≡ first ∷ others
  pub last_is : last_of separator text ≡ []

pub ends_with : (separator : ℕ) (text : List ℕ) → Ended separator (text ++ separator ∷ [])
unfolding pieces last_of
ends_with separator [] = let t = eq-eqb separator separator refl in record { first = []; others = []; pieces_are = rw t refl; last_is = rw t refl }
ends_with separator (b ∷ bs) = by (b == separator) refl (ends_with separator bs)
  where
    by : (c : Bool) → (b == separator) ≡ c → Ended separator (bs ++ separator ∷ []) → Ended separator (b ∷ (bs ++ separator ∷ []))
    by true t h = record { first = []; others = h.first ∷ h.others; pieces_are = (let p = h.pieces_are in rw (t, p) refl); last_is = (let l = h.last_is in rw (t, l) refl) }
    by false t h = record { first = b ∷ h.first; others = h.others; pieces_are = (let p = h.pieces_are in rw (t, p) refl); last_is = (let p = h.pieces_are in let l = h.last_is in rw (t, p, l) refl) }

-- words, each with a space after it, and a last one
abbrev pub spaced : List (List ℕ) → List ℕ → List ℕ
spaced [] last = last
spaced (w ∷ ws) last = w ++ 32 ∷ spaced ws last

-- a byte stands in none of some words
abbrev Without : ℕ → List ℕ → Type 0
Without b text = AllByRecursion (λ d. d ≢ b) text

abbrev AllWithout : ℕ → List (List ℕ) → Type 0
AllWithout b [] = Unit {0}
AllWithout b (w ∷ ws) = Without b w × AllWithout b ws

words_again : (ws : List (List ℕ)) (last : List ℕ) → AllWithout 32 ws → Without 32 last → (pieces 32 (spaced ws last) ≡ ws) × (last_of 32 (spaced ws last) ≡ last)
words_again [] last all end = only_again 32 last end
words_again (w ∷ ws) last all end =
    let h = words_again ws last all.1 end in
    (piece_again 32 w (spaced ws last) all.0 ∙ ap (λ (ps : List (List ℕ)). w ∷ ps) h.0, last_again 32 w (spaced ws last) all.0 ∙ h.1)

without_both : (b : ℕ) (xs ys : List ℕ) → Without b xs → Without b ys → Without b (xs ++ ys)
without_both b [] ys p q = q
without_both b (x ∷ xs) ys p q = (p.0, without_both b xs ys p.1 q)

without_spaced : (b : ℕ) (ws : List (List ℕ)) (last : List ℕ) → 32 ≢ b → AllWithout b ws → Without b last → Without b (spaced ws last)
without_spaced b [] last apart all end = end
without_spaced b (w ∷ ws) last apart all end = without_both b w (32 ∷ spaced ws last) all.0 (apart, without_spaced b ws last apart all.1 end)

-- line 1
abbrev tie_word : Bool → List ℕ
tie_word false = codes "tie=0"
tie_word true = codes "tie=1"

abbrev first_words : ℕ → ℕ → List (List ℕ)
first_words k n = codes "seccert" ∷ codes "2" ∷ (codes "k=" ++ decimal k) ∷ (codes "signals=" ++ decimal n) ∷ []

abbrev pub head_line : Pair → ℕ → List ℕ
head_line pair k = spaced (first_words k (places_of pair)) (tie_word pair.tied)

tie_split : (t : Bool) (rest : List ℕ) → tie_text t ++ rest ≡ (32 ∷ tie_word t) ++ 10 ∷ rest
tie_split false rest = refl
tie_split true rest = refl

pub head_split : (pair : Pair) (k : ℕ) (rest : List ℕ) → head_text pair k ++ rest ≡ head_line pair k ++ 10 ∷ rest
head_split pair k rest =
    let n : List ℕ = decimal (places_of pair) in
    let t : List ℕ = tie_text pair.tied in
    let w : List ℕ = 32 ∷ tie_word pair.tied in
    ap (λ (l : List ℕ). codes "seccert 2 k=" ++ l)
    (append_assoc (decimal k) (codes " signals=" ++ (n ++ t)) rest
    ∙ ap (λ (l : List ℕ). decimal k ++ (codes " signals=" ++ l)) (append_assoc n t rest ∙ ap (λ (l : List ℕ). n ++ l) (tie_split pair.tied rest) ∙ sym (append_assoc n w (10 ∷ rest)))
    ∙ sym (append_assoc (decimal k) (codes " signals=" ++ (n ++ w)) (10 ∷ rest)))

number_plain : (b n : ℕ) → b < 48 → n < 4294967296 → Without b (decimal n)
number_plain b n lt small = none_is b (decimal n) lt (decimal_spells n (omega arith)).digits

-- neither a space nor an LF stands in a word of line 1
first_plain : (b k n : ℕ) → b < 45 → k < 4294967296 → n < 4294967296 → AllWithout b (first_words k n)
first_plain b k n lt few small = (
  ((λ e. omega arith), ((λ e. omega arith), ((λ e. omega arith), ((λ e. omega arith), ((λ e. omega arith), ((λ e. omega arith), ((λ e. omega arith), tt))))))),
  (
    ((λ e. omega arith), tt),
    (
      ((λ e. omega arith), ((λ e. omega arith), number_plain b k (omega arith) few)),
      (
        ((λ e. omega arith), ((λ e. omega arith), ((λ e. omega arith), ((λ e. omega arith), ((λ e. omega arith), ((λ e. omega arith), ((λ e. omega arith), ((λ e. omega arith), number_plain b n (omega arith) small)))))))),
        tt,
      ),
    ),
  ),
)

tie_plain : (b : ℕ) (t : Bool) → b < 45 → Without b (tie_word t)
tie_plain b false lt = ((λ e. omega arith), ((λ e. omega arith), ((λ e. omega arith), ((λ e. omega arith), ((λ e. omega arith), tt)))))
tie_plain b true lt = ((λ e. omega arith), ((λ e. omega arith), ((λ e. omega arith), ((λ e. omega arith), ((λ e. omega arith), tt)))))

pub head_plain : (pair : Pair) (k : ℕ) → IsSoundPair pair → k ≤ 16 → AllByRecursion (λ b. b ≢ 10) (head_line pair k)
head_plain pair k sound few =
    let size = few_places pair sound in
    without_spaced 10 (first_words k (places_of pair)) (tie_word pair.tied) (λ e. omega arith) (first_plain 10 k (places_of pair) (omega arith) (omega arith) (omega arith)) (tie_plain 10 pair.tied (omega arith))

tie_again : (t : Bool) → tie_of (tie_word t) ≡ Some t
tie_again false = refl
tie_again true = refl

words_read : (k n : ℕ) (t : Bool) → k < 4294967296 → n < 4294967296 → head_words (first_words k n) (tie_word t) ≡ Some (record { k = k; signals = n; tied = t })
words_read k n t lt small = let a = number_again k lt in let b = number_again n small in let c = tie_again t in rw (a, b, c) refl

pub head_again : (pair : Pair) (k : ℕ) → IsSoundPair pair → k ≤ 16 → head_of (head_line pair k) ≡ Some (record { k = k; signals = places_of pair; tied = pair.tied })
head_again pair k sound few =
    let size = few_places pair sound in
    let ws : List (List ℕ) = first_words k (places_of pair) in
    let t : Bool = pair.tied in
    let w = words_again ws (tie_word t) (first_plain 32 k (places_of pair) (omega arith) (omega arith) (omega arith)) (tie_plain 32 t (omega arith)) in
    ap (λ (ps : List (List ℕ)). head_words ps (last_of 32 (head_line pair k))) w.0 ∙ ap (head_words ws) w.1 ∙ words_read k (places_of pair) t (omega arith) (omega arith)
