-- The words of a generator, one by one.
use Rattle.std.proofs.Common.{◌≡◌, ◌≢◌, ◌∙◌, ◌<◌, ◌+◌, ⊎_elim, ℕ, zero, suc, List, length, get_or, set, refl, ap, sym, arith}
use Rattle.std.proofs.lemmas.Bool.{cases_eq}
use Rattle.std.proofs.lemmas.List.{ext_get_or, get_or-set_same, get_or-set_other}
use Rattle.rand_core.specs.Steps.{first_words}
use Rattle.rand_pcg.specs.Lcg.{Lcg}
use Rattle.rand_pcg.specs.Pcg.{pcg64}
use Rattle.sim_words.specs.Stimulus.{after_words}

pub after_zero : (g : Lcg) → after_words 0 g ≡ g
unfolding after_words
after_zero g = refl

after_suc : (n : ℕ) (g : Lcg) → after_words (suc n) g ≡ (pcg64 (after_words n g)).1
unfolding after_words
after_suc zero g = refl
after_suc (suc n) g = after_suc n (pcg64 g).1

pub after_more : (n : ℕ) (g : Lcg) → after_words (n + 1) g ≡ (pcg64 (after_words n g)).1
after_more n g = ap (λ (k : ℕ). after_words k g) (let e : n + 1 ≡ suc n = omega arith in e) ∙ after_suc n g

length_words : (n : ℕ) (g : Lcg) → length (first_words pcg64 n g) ≡ n
unfolding first_words
length_words zero g = refl
length_words (suc n) g = ap (λ k. suc k) (length_words n (pcg64 g).1)

word_at : (n k : ℕ) (g : Lcg) → k < n → get_or (first_words pcg64 n g) k 0 ≡ (pcg64 (after_words k g)).0
unfolding first_words after_words
word_at zero k g lt = absurd (omega arith)
word_at (suc n) zero g lt = refl
word_at (suc n) (suc k) g lt = word_at n k (pcg64 g).1 (omega arith)

-- each word is the generator's after those before it
abbrev pub AreNextWords : Lcg → ℕ → List ℕ → Type 0
AreNextWords g i words = (k : ℕ) → k < i → get_or words k 0 ≡ (pcg64 (after_words k g)).0

pub next_more : (g : Lcg) (words : List ℕ) (i w : ℕ) → i < length words → w ≡ (pcg64 (after_words i g)).0 → AreNextWords g i words → AreNextWords g (i + 1) (set words i w)
next_more g words i w within e done k less = ⊎_elim
    (λ (s : k ≡ i). rw s (get_or-set_same words i w 0 within ∙ e))
    (λ (n : k ≢ i). get_or-set_other words i k w 0 n ∙ done k (omega arith))
    (cases_eq k i)

pub words_all : (g : Lcg) (words : List ℕ) (n : ℕ) → length words ≡ n → AreNextWords g n words → words ≡ first_words pcg64 n g
words_all g words n size each = ext_get_or 0 words (first_words pcg64 n g) (size ∙ sym (length_words n g)) (λ k lt. each k (omega arith) ∙ sym (word_at n k g (omega arith)))
