-- Each step keeps the rule of the word.
use Rattle.std.proofs.Common.{◌≡◌, ◌≢◌, ℕ, ◌+◌, ◌<◌, ◌≤◌, List, [], ◌∷◌, ◌++◌, true, false, true≢false, set, refl, sym, ap, ◌∙◌, subst, inl, inr, ⊎_elim, arith, if◌then◌else◌}
use mathlib.Core.Option.{some}
use lib.ListN.{get_elem?}
use Rattle.atomic_table.proofs.Lists.{at_set, at_snoc, set_again}
use Rattle.claim_word.specs.declared.view.View.{View}
use Rattle.claim_word.specs.Words.{version_of, pairs_of, index_of, next_claim, IsSince}
use Rattle.claim_word.specs.Steps.{is_same, times, claimed, IsPast, IsKept, Agrees, nobody, with_claim, advanced, joined}
use Rattle.claim_word.proofs.Counts.{times-append, times-push, same_or_not, claimed-set, claimed-push, times-le}

-- one seat at most is the board's, and the word comes from the one that it wrote
abbrev OneBoard : ℕ → ℕ → List View → Type 0
OneBoard place word views = (q : ℕ) (u : View) → get_elem? views q ≡ some u → u.board ≡ true → (q ≡ place) × IsSince u.written word

-- a view in the place of another
board_set : (place word : ℕ) (views : List View) (p : ℕ) (w : View) → OneBoard place word views → (w.board ≡ true → (p ≡ place) × IsSince w.written word) → OneBoard place word (set views p w)
board_set place word views p w one mine q u at is =
    ⊎_elim
    (λ (h : (q ≡ p) × (w ≡ u)). let m = mine (ap (λ (x : View). x.board) h.1 ∙ is) in (h.0 ∙ m.0, subst (λ (x : View). IsSince x.written word) h.1 m.1))
    (λ (h : (q ≢ p) × (get_elem? views q ≡ some u)). one q u h.1 is)
    (at_set views p q w u at)

-- what the rule says of one view of many
pub agrees : (word : ℕ) (views : List View) (p : ℕ) (v : View) → get_elem? views p ≡ some v → IsKept word views → Agrees v word
agrees word views p v at kept =
    record {
      fine = kept.fine;
      below = λ c past. let b = kept.below c past in let l = times-le c views p v at in omega arith;
      apart = λ c. let a = kept.apart c in let l = times-le c views p v at in omega arith;
      since = λ is. (kept.board.1 p v at is).1;
    }

-- a view with the same claims
pub kept_same : (word : ℕ) (views : List View) (p : ℕ) (v w : View) → get_elem? views p ≡ some v → w.claims ≡ v.claims → w.board ≡ v.board → w.written ≡ v.written → IsKept word views → IsKept word (set views p w)
kept_same word views p v w at claims board written kept =
    let same : (c : ℕ × ℕ) → claimed c (set views p w) ≡ claimed c views = λ c. let s = claimed-set c views p v w at in let t : times c w.claims ≡ times c v.claims = ap (times c) claims in omega arith in
    record {
      fine = kept.fine;
      below = λ c past. same c ∙ kept.below c past;
      apart = λ c. let s = same c in let a = kept.apart c in omega arith;
      board = (kept.board.0, board_set kept.board.0 word views p w kept.board.1 (λ is. subst (λ (n : ℕ). (p ≡ kept.board.0) × IsSince n word) (sym written) (kept.board.1 p v at (sym board ∙ is))));
    }

-- the next word, where some pair is left
next_word : (w : ℕ) → index_of w < pairs_of w → (version_of (w + 1) ≡ version_of w) × (index_of (w + 1) ≡ index_of w + 1) × (pairs_of (w + 1) ≡ pairs_of w)
next_word w room = (omega arith, omega arith, omega arith)

-- and it comes from the same word
since_next : (w written : ℕ) → index_of w < pairs_of w → IsSince written w → IsSince written (w + 1)
since_next w written room since = let n = next_word w room in (n.0 ∙ since.0, n.2 ∙ since.1, omega (arith, since.2))

-- what is past the next word is past this one, and isn't its claim
past_next : (w : ℕ) (c : ℕ × ℕ) → index_of w < pairs_of w → IsPast (w + 1) c → IsPast w c × (c ≢ next_claim w)
past_next w c room past =
    let n = next_word w room in
    ⊎_elim
    (λ (h : version_of (w + 1) < c.0). (inl (omega arith), λ e. let f : c.0 ≡ version_of w = ap (λ (p : ℕ × ℕ). p.0) e in omega arith))
    (λ (h : (version_of (w + 1) ≡ c.0) × (index_of (w + 1) ≤ c.1)). (inr (omega arith, omega arith), λ e. let f : c.1 ≡ index_of w = ap (λ (p : ℕ × ℕ). p.1) e in omega arith))
    past

-- a view gets the claim that the word offers, and the word goes on to the next
pub kept_claim : (w : ℕ) (views : List View) (p : ℕ) (v : View) → get_elem? views p ≡ some v → index_of w < pairs_of w → IsKept w views → IsKept (w + 1) (set views p (with_claim v (next_claim w)))
kept_claim w views p v at room kept =
    let n = next_word w room in
    let new : View = with_claim v (next_claim w) in
    let now : (c : ℕ × ℕ) → claimed c (set views p new) ≡ claimed c views + (if is_same c (next_claim w) then 1 else 0) = λ c. let s = claimed-set c views p v new at in let t = times-push c v.claims (next_claim w) in omega arith in
    record {
      fine = omega arith;
      below = λ c past.
          let was = past_next w c room past in
          let b = kept.below c was.0 in
          let s = now c in
          ⊎_elim
          (λ (h : (is_same c (next_claim w) ≡ true) × (c ≡ next_claim w)). absurd (was.1 h.1))
          (λ (h : (is_same c (next_claim w) ≡ false) × (c ≢ next_claim w)). s ∙ rw h.0 (omega arith))
          (same_or_not c (next_claim w));
      apart = λ c.
          let s = now c in
          ⊎_elim
          (λ (h : (is_same c (next_claim w) ≡ true) × (c ≡ next_claim w)).
          let b = kept.below c (subst (IsPast w) (sym h.1) (inr (refl, omega arith))) in
          subst (λ (k : ℕ). k ≤ 1) (sym s) (rw (b, h.0) (omega arith)))
          (λ (h : (is_same c (next_claim w) ≡ false) × (c ≢ next_claim w)).
          let a = kept.apart c in
          subst (λ (k : ℕ). k ≤ 1) (sym s) (rw h.0 (omega arith)))
          (same_or_not c (next_claim w));
      board = (
        kept.board.0,
        board_set kept.board.0 (w + 1) views p new (λ q u e is. let b = kept.board.1 q u e is in (b.0, since_next w u.written room b.1))
            (λ is. let b = kept.board.1 p v at is in (b.0, since_next w v.written room b.1)),
      );
    }

-- the board's seat writes a word of a greater version
pub kept_advance : (w new : ℕ) (views : List View) (p : ℕ) (v : View) → get_elem? views p ≡ some v → v.board ≡ true → version_of v.written < version_of new → index_of new ≡ 0 → IsKept w views → IsKept new (set views p (advanced v new))
kept_advance w new views p v at board later zeroed kept =
    let mine = kept.board.1 p v at board in
    let older : version_of w < version_of new = omega (arith, mine.1.0) in
    let same : (c : ℕ × ℕ) → claimed c (set views p (advanced v new)) ≡ claimed c views = λ c. let s = claimed-set c views p v (advanced v new) at in omega arith in
    record {
      fine = omega arith;
      below = λ c past. same c ∙ kept.below c (inl (⊎_elim (λ (h : version_of new < c.0). omega arith) (λ (h : (version_of new ≡ c.0) × (index_of new ≤ c.1)). omega (arith, h.0)) past));
      apart = λ c. let s = same c in let a = kept.apart c in omega arith;
      board = (
        kept.board.0,
        λ q u e is. ⊎_elim
            (λ (h : (q ≡ p) × (advanced v new ≡ u)). (h.0 ∙ mine.0, subst (λ (x : View). IsSince x.written new) h.1 (refl, refl, omega arith)))
            (λ (h : (q ≢ p) × (get_elem? views q ≡ some u)). absurd (h.0 ((kept.board.1 q u h.1 is).0 ∙ sym mine.0)))
            (at_set views p q (advanced v new) u e),
      );
    }

-- a new seat has nothing
pub kept_split : (word : ℕ) (views : List View) (p : ℕ) (v : View) → get_elem? views p ≡ some v → IsKept word views → IsKept word (set views p v ++ nobody ∷ [])
kept_split word views p v at kept = subst (λ (vs : List View). IsKept word (vs ++ nobody ∷ [])) (sym (set_again views p v at)) (record {
  fine = kept.fine;
  below = λ c past. let s = claimed-push c views nobody in let b = kept.below c past in omega arith;
  apart = λ c. let s = claimed-push c views nobody in let a = kept.apart c in omega arith;
  board = (
    kept.board.0,
    λ q u e is. ⊎_elim
        (λ (h : get_elem? views q ≡ some u). kept.board.1 q u h is)
        (λ (h : nobody ≡ u). absurd (true≢false (sym is ∙ sym (ap (λ (x : View). x.board) h))))
        (at_snoc views nobody u q e),
  );
})

-- a seat gets the lists of another, which isn't the board's
pub kept_join : (word : ℕ) (views : List View) (p : ℕ) (v : View) (o : ℕ) (w : View) → get_elem? views p ≡ some v → get_elem? (set views p (joined v w)) o ≡ some w → IsKept word views → IsKept word (set (set views p (joined v w)) o nobody)
kept_join word views p v o w at there kept =
    let same : (c : ℕ × ℕ) → claimed c (set (set views p (joined v w)) o nobody) ≡ claimed c views = λ c.
    let s = claimed-set c views p v (joined v w) at in
    let t = claimed-set c (set views p (joined v w)) o w nobody there in
    let a = times-append c v.claims w.claims in omega arith in
    record {
      fine = kept.fine;
      below = λ c past. same c ∙ kept.below c past;
      apart = λ c. let s = same c in let a = kept.apart c in omega arith;
      board = (
        kept.board.0,
        board_set kept.board.0 word (set views p (joined v w)) o nobody (board_set kept.board.0 word views p (joined v w) kept.board.1 (λ is. kept.board.1 p v at is)) (λ is. absurd (true≢false (sym is))),
      );
    }

-- a seat with the lists of two, made two again
pub kept_cut : (word : ℕ) (views : List View) (p : ℕ) (left right : View) → get_elem? views p ≡ some (joined left right) → right.board ≡ false → IsKept word views → IsKept word (set views p left ++ right ∷ [])
kept_cut word views p left right at beside kept =
    let same : (c : ℕ × ℕ) → claimed c (set views p left ++ right ∷ []) ≡ claimed c views = λ c.
    let s = claimed-set c views p (joined left right) left at in
    let t = claimed-push c (set views p left) right in
    let a = times-append c left.claims right.claims in omega arith in
    record {
      fine = kept.fine;
      below = λ c past. same c ∙ kept.below c past;
      apart = λ c. let s = same c in let a = kept.apart c in omega arith;
      board = (
        kept.board.0,
        λ q u e is. ⊎_elim
            (λ (h : get_elem? (set views p left) q ≡ some u). board_set kept.board.0 word views p left kept.board.1 (λ b. kept.board.1 p (joined left right) at b) q u h is)
            (λ (h : right ≡ u). absurd (true≢false (sym is ∙ sym (ap (λ (x : View). x.board) h) ∙ beside)))
            (at_snoc (set views p left) right u q e),
      );
    }
