-- A stimulus: the words of a generator, one after another.
use Rattle.std.specs.Prelude.{ℕ, zero, suc, refl}
use Rattle.std.specs.Coded.{Coded, code_by, coded×, coded_ℕ}
use Rattle.rand_pcg.specs.Lcg.{Lcg}
use Rattle.rand_pcg.specs.Pcg.{pcg64}

-- a generator is stored as the pair of its fields
abbrev pub generator_code : Coded Lcg
generator_code = code_by (ℕ × ℕ) (coded× coded_ℕ coded_ℕ) (λ g. (g.state, g.increment)) (λ p. record { state = p.0; increment = p.1 }) (λ _. refl)

-- the generator after n words
unfoldable pub after_words : ℕ → Lcg → Lcg
after_words zero g = g
after_words (suc n) g = after_words n (pcg64 g).1
