-- What clap's reader of numbers makes of a text, within limits.
use Rattle.std.proofs.Common.{◌≡◌, ◌<◌, ◌≤◌, ◌^◌, ◌⊎◌, ℕ, Bool, true, false, List, Option, Some, None, Result, Ok, Err, refl, sym, ap, subst, inl, inr, arith}
use Rattle.std.specs.Str.Parse.{ParsesUnsigned, digits_value, without_leading_plus}
use Rattle.clap.specs.Words.{ReadsOne}
use Rattle.clap.specs.ValueTests.{is_unsigned_in}
use Rattle.clap.specs.declared.builder.value_parser.ValueParser.TheVariants as readers
use Rattle.clap.proofs.ValueTestLemmas.{accepts-Accepts, Accepts-accepts}
use Rattle.command_line.specs.Meant.{number_in}

-- a number that was read, within the limits
text_inside : (E : Type 0) (least most n : ℕ) (t : List ℕ) → most < 2 ^ 32 → ParsesUnsigned {E = E} 32 10 t (Ok n) → least ≤ n → n ≤ most → number_in least most (Some t) ≡ Some n
text_inside E least most n t fits p low high =
    let v = digits_value 10 (without_leading_plus t) in
    let is : n ≡ v = p.1 in
    let ok : is_unsigned_in least most t ≡ true = Accepts-accepts false (readers.Unsigned least most) t (p.0.0, omega (arith, p.0.1), omega arith, omega arith) in
    rw ok (ap Some (sym is))

-- and past them
text_outside : (E : Type 0) (least most n : ℕ) (t : List ℕ) → ParsesUnsigned {E = E} 32 10 t (Ok n) → (n < least) ⊎ (most < n) → number_in least most (Some t) ≡ None
text_outside E least most n t p past = go (is_unsigned_in least most t) refl past
  where
    go : (b : Bool) → is_unsigned_in least most t ≡ b → (n < least) ⊎ (most < n) → number_in least most (Some t) ≡ None
    go true e (inl h) = let a = accepts-Accepts false (readers.Unsigned least most) t e in absurd (omega (arith, h, p.1, a.2))
    go true e (inr h) = let a = accepts-Accepts false (readers.Unsigned least most) t e in absurd (omega (arith, h, p.1, a.3))
    go false e h = rw e refl

-- and no number
text_missing : (E : Type 0) (least most : ℕ) (t : List ℕ) (x : E) → most < 2 ^ 32 → ParsesUnsigned {E = E} 32 10 t (Err x) → number_in least most (Some t) ≡ None
text_missing E least most t x fits p = go (is_unsigned_in least most t) refl
  where
    go : (b : Bool) → is_unsigned_in least most t ≡ b → number_in least most (Some t) ≡ None
    go true e = let a = accepts-Accepts false (readers.Unsigned least most) t e in absurd (p (a.0, omega (arith, fits, a.3)))
    go false e = rw e refl

-- the same of a text that may be there, which reads as r
module _ (E : Type 0) (G : List ℕ → Result ℕ E → Type 0) (only : (u : List ℕ) (x : Result ℕ E) → G u x → ParsesUnsigned {E = E} 32 10 u x) (least most : ℕ) where
  pub read_inside : (n : ℕ) (o : Option (List ℕ)) (r : Option ℕ) → most < 2 ^ 32 → (o ≡ None → r ≡ None) → ((t : List ℕ) → o ≡ Some t → ReadsOne G t r) → r ≡ Some n → least ≤ n → n ≤ most → number_in least most o ≡ Some n
  read_inside n None r fits none value is low high = let gone = none refl in cc
  read_inside n (Some t) r fits none value is low high = text_inside E least most n t fits (only t (Ok n) (subst (λ (q : Option ℕ). ReadsOne G t q) is (value t refl))) low high

  pub read_outside : (n : ℕ) (o : Option (List ℕ)) (r : Option ℕ) → (o ≡ None → r ≡ None) → ((t : List ℕ) → o ≡ Some t → ReadsOne G t r) → r ≡ Some n → (n < least) ⊎ (most < n) → number_in least most o ≡ None
  read_outside n None r none value is past = refl
  read_outside n (Some t) r none value is past = text_outside E least most n t (only t (Ok n) (subst (λ (q : Option ℕ). ReadsOne G t q) is (value t refl))) past

  pub read_missing : (o : Option (List ℕ)) (r : Option ℕ) → most < 2 ^ 32 → ((t : List ℕ) → o ≡ Some t → ReadsOne G t r) → r ≡ None → number_in least most o ≡ None
  read_missing None r fits value is = refl
  read_missing (Some t) r fits value is =
      let h = subst (λ (q : Option ℕ). ReadsOne G t q) is (value t refl) in
      text_missing E least most t h.0 fits (only t (Err h.0) h.1)
