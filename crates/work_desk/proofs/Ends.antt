-- Sums over parties, and what an entry adds to the ends and answers of a journal.
use Rattle.std.proofs.Common.{◌≡◌, ◌∙◌, ◌<◌, ◌≤◌, ℕ, zero, suc, ◌+◌, ◌-◌, ◌*◌, ◌^◌, ◌==◌, ◌&&◌, true, false, cond, List, [], ◌∷◌, ◌++◌, refl, ap, sym, subst, arith, ⊎_elim, pow-suc, mul_comm, add-mul, lt_of_mul-lt-mul_right, ne_eqb, eq-eqb}
use Rattle.std.proofs.lemmas.Bool.{cases_eq}
use Rattle.std.proofs.lemmas.List.Sums.{sum_by_push}
use Rattle.refine_board.specs.declared.journal.Entry.{Entry}
use Rattle.refine_board.specs.Tallies.{is_offered, offered_entries}
use Rattle.work_desk.specs.Tallies.{is_done, dones, sum_below, ends, weights, is_answer, answers}

pub sum_same : (n : ℕ) (f g : ℕ → ℕ) → ((p : ℕ) → p < n → g p ≡ f p) → sum_below n g ≡ sum_below n f
unfolding sum_below
sum_same zero f g same = refl
sum_same (suc n) f g same = omega (arith, sum_same n f g (λ p lt. same p (omega arith)), same n (omega arith))

pub sum_more : (n : ℕ) (f g : ℕ → ℕ) (q a : ℕ) → q < n → g q ≡ f q + a → ((p : ℕ) → (p ≡ q → ⊥) → g p ≡ f p) → sum_below n g ≡ sum_below n f + a
unfolding sum_below
sum_more zero f g q a lt at others = absurd (omega arith)
sum_more (suc n) f g q a lt at others = ⊎_elim
    (λ (e : q ≡ n). let last : g n ≡ f n + a = subst (λ i. g i ≡ f i + a) e at in
    omega (arith, last, sum_same n f g (λ p below. others p (λ is. omega (arith, is, e, below)))))
    (λ (ne : q ≡ n → ⊥). omega (arith, sum_more n f g q a (omega (arith, lt, ne)) at others, others n (λ is. ne (sym is))))
    (cases_eq q n)

pub sum_none : (n : ℕ) (f : ℕ → ℕ) → ((p : ℕ) → f p ≡ 0) → sum_below n f ≡ 0
unfolding sum_below
sum_none zero f none = refl
sum_none (suc n) f none = omega (arith, sum_none n f none, none n)

-- where a sum of numbers of 2^p is 2^n * (q + 1) - 1, there are at least n + 2 * q of them
pub least_ends : (n : ℕ) (f : ℕ → ℕ) (q : ℕ) → sum_below n (λ p. f p * 2 ^ p) + 1 ≡ 2 ^ n * (q + 1) → n + 2 * q ≤ sum_below n f
unfolding sum_below
least_ends zero f q sum = omega (arith, sum)
least_ends (suc n) f q sum =
    let low : ℕ = sum_below n (λ p. f p * 2 ^ p) in
    let double : 2 ^ suc n * (q + 1) ≡ 2 * (q + 1) * 2 ^ n = let e = pow-suc 2 n in let m = mul_comm (2 ^ n) (q + 1) in rw e (omega (arith, m)) in
    let whole : low + f n * 2 ^ n + 1 ≡ 2 * (q + 1) * 2 ^ n = omega (arith, sum, double) in
    let less : f n * 2 ^ n < 2 * (q + 1) * 2 ^ n = omega (arith, whole) in
    let few : f n < 2 * (q + 1) = lt_of_mul-lt-mul_right (2 ^ n) less in
    let r : ℕ = 2 * (q + 1) - f n - 1 in
    let cut : r + 1 + f n ≡ 2 * (q + 1) = omega (arith, few) in
    let parts : (r + 1) * 2 ^ n + f n * 2 ^ n ≡ 2 * (q + 1) * 2 ^ n = sym (add-mul (r + 1) (f n) (2 ^ n)) ∙ ap (λ x. x * 2 ^ n) cut in
    let rest : low + 1 ≡ 2 ^ n * (r + 1) = omega (arith, whole, parts) ∙ mul_comm (r + 1) (2 ^ n) in
    omega (arith, least_ends n f r rest, cut)

-- with n numbers at most, each is 1
pub all_ones : (n : ℕ) (f : ℕ → ℕ) → sum_below n (λ p. f p * 2 ^ p) + 1 ≡ 2 ^ n → sum_below n f ≤ n → (p : ℕ) → p < n → f p ≡ 1
unfolding sum_below
all_ones zero f sum few p lt = absurd (omega arith)
all_ones (suc n) f sum few p lt =
    let low : ℕ = sum_below n (λ p. f p * 2 ^ p) in
    let whole : low + f n * 2 ^ n + 1 ≡ 2 * 2 ^ n = omega (arith, sum, pow-suc 2 n) in
    let less : f n * 2 ^ n < 2 * 2 ^ n = omega (arith, whole) in
    let small : f n < 2 = lt_of_mul-lt-mul_right (2 ^ n) less in
    ⊎_elim
    (λ (e : f n ≡ 1).
    let one : low + 1 * 2 ^ n + 1 ≡ 2 * 2 ^ n = subst (λ i. low + i * 2 ^ n + 1 ≡ 2 * 2 ^ n) e whole in
    let rest : low + 1 ≡ 2 ^ n = omega (arith, one) in
    ⊎_elim (λ (is : p ≡ n). subst (λ i. f i ≡ 1) (sym is) e) (λ (ne : p ≡ n → ⊥). all_ones n f rest (omega (arith, few, e)) p (omega (arith, lt, ne))) (cases_eq p n))
    (λ (ne : f n ≡ 1 → ⊥).
    let none : f n ≡ 0 = omega (arith, small, ne) in
    let left : low + 0 * 2 ^ n + 1 ≡ 2 * 2 ^ n = subst (λ i. low + i * 2 ^ n + 1 ≡ 2 * 2 ^ n) none whole in
    let rest : low + 1 ≡ 2 ^ n * (1 + 1) = omega (arith, left) in
    absurd (omega (arith, least_ends n f 1 rest, few, none)))
    (cases_eq (f n) 1)

module _ (entries : List Entry) (e : Entry) where
  -- an entry that tells no end adds none
  same_dones : is_done e.step ≡ false → (p : ℕ) → dones (entries ++ e ∷ []) p ≡ dones entries p
  same_dones going p = sum_by_push (λ (x : Entry). cond (is_done x.step && x.worker == p) 1 0) entries e ∙ ap (λ b. dones entries p + cond (b && e.worker == p) 1 0) going ∙ omega arith

  pub same_ends : (workers : ℕ) → is_done e.step ≡ false → ends workers (entries ++ e ∷ []) ≡ ends workers entries
  same_ends workers going = sum_same workers (dones entries) (dones (entries ++ e ∷ [])) (λ p lt. same_dones going p)

  pub same_weights : (workers : ℕ) → is_done e.step ≡ false → weights workers (entries ++ e ∷ []) ≡ weights workers entries
  same_weights workers going = sum_same workers (λ p. dones entries p * 2 ^ p) (λ p. dones (entries ++ e ∷ []) p * 2 ^ p) (λ p lt. ap (λ n. n * 2 ^ p) (same_dones going p))

  -- an end of a worker adds one, of its weight
  own_done : is_done e.step ≡ true → dones (entries ++ e ∷ []) e.worker ≡ dones entries e.worker + 1
  own_done ending = sum_by_push (λ (x : Entry). cond (is_done x.step && x.worker == e.worker) 1 0) entries e
      ∙ ap (λ b. dones entries e.worker + cond (b && e.worker == e.worker) 1 0) ending ∙ ap (λ b. dones entries e.worker + cond b 1 0) (eq-eqb e.worker e.worker refl)

  other_dones : is_done e.step ≡ true → (p : ℕ) → (p ≡ e.worker → ⊥) → dones (entries ++ e ∷ []) p ≡ dones entries p
  other_dones ending p ne = sum_by_push (λ (x : Entry). cond (is_done x.step && x.worker == p) 1 0) entries e
      ∙ ap (λ b. dones entries p + cond (b && e.worker == p) 1 0) ending ∙ ap (λ b. dones entries p + cond b 1 0) (ne_eqb e.worker p (λ is. ne (sym is))) ∙ omega arith

  pub more_ends : (workers : ℕ) → e.worker < workers → is_done e.step ≡ true → ends workers (entries ++ e ∷ []) ≡ ends workers entries + 1
  more_ends workers under ending = sum_more workers (dones entries) (dones (entries ++ e ∷ [])) e.worker 1 under (own_done ending) (other_dones ending)

  pub more_weights : (workers : ℕ) → e.worker < workers → is_done e.step ≡ true → weights workers (entries ++ e ∷ []) ≡ weights workers entries + 2 ^ e.worker
  more_weights workers under ending = sum_more workers (λ p. dones entries p * 2 ^ p) (λ p. dones (entries ++ e ∷ []) p * 2 ^ p) e.worker (2 ^ e.worker) under
      (ap (λ n. n * 2 ^ e.worker) (own_done ending) ∙ omega (arith, add-mul (dones entries e.worker) 1 (2 ^ e.worker)))
      (λ p ne. ap (λ n. n * 2 ^ p) (other_dones ending p ne))

  pub answers_push : answers (entries ++ e ∷ []) ≡ answers entries + cond (is_answer e.step) 1 0
  answers_push = sum_by_push (λ (x : Entry). cond (is_answer x.step) 1 0) entries e

  pub offered_push : offered_entries (entries ++ e ∷ []) ≡ offered_entries entries + cond (is_offered e.step) 1 0
  offered_push = sum_by_push (λ (x : Entry). cond (is_offered x.step) 1 0) entries e
