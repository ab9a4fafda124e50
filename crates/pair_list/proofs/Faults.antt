-- A text has one reading: two beginnings of it are one, or one of them goes on with a line that has no fault.
use Rattle.std.proofs.Common.{◌≡◌, ◌∙◌, ◌⊎◌, inl, inr, ℕ, ◌+◌, ◌<◌, ◌≤◌, List, [], ◌∷◌, ◌++◌, length, length-append, append_assoc, Result, Ok, Err, refl, sym, ap, ap₂, subst, arith, All}
use Rattle.std.proofs.lemmas.List.Elements.{All-head, All-tail}
use Rattle.pair_list.specs.declared.fault.ListKind.{ListKind}
use Rattle.pair_list.specs.declared.fault.ListKind.TheVariants as kinds
use Rattle.pair_list.specs.declared.fault.ListFault.{ListFault}
use Rattle.pair_list.specs.Lists.{AreNames, HasNone, line_of, text_of}
use Rattle.pair_list.specs.Readings.{Begins, IsFirstFault, IsWrong, Reads, fault}
use Rattle.pair_list.proofs.Cuts.{no_end_in, not_within, same_cut}

-- this is left after the fewer lines, and begins with the line of a pair
pub record GoesOn (rest : List ℕ) (fewer more : ℕ) : Type 0 where
  pub pair : List ℕ × List ℕ
  pub after : List ℕ
  pub names : AreNames pair
  pub is : rest ≡ line_of pair ++ 10 ∷ after
  pub less : fewer < more

abbrev pub Compared : List (List ℕ × List ℕ) → List ℕ → List (List ℕ × List ℕ) → List ℕ → Type 0
Compared ps r qs s = ((ps ≡ qs) × (r ≡ s)) ⊎ (GoesOn s (length qs) (length ps) ⊎ GoesOn r (length ps) (length qs))

longer : (p q : List ℕ × List ℕ) (ps qs : List (List ℕ × List ℕ)) (r s : List ℕ) → p ≡ q → Compared ps r qs s → Compared (p ∷ ps) r (q ∷ qs) s
longer p q ps qs r s same (inl e) = inl (ap₂ (λ (x : List ℕ × List ℕ) (xs : List (List ℕ × List ℕ)). x ∷ xs) same e.0, e.1)
longer p q ps qs r s same (inr (inl g)) = inr (inl (record { pair = g.pair; after = g.after; names = g.names; is = g.is; less = let l = g.less in omega arith }))
longer p q ps qs r s same (inr (inr g)) = inr (inr (record { pair = g.pair; after = g.after; names = g.names; is = g.is; less = let l = g.less in omega arith }))

compare : (ps qs : List (List ℕ × List ℕ)) (r s : List ℕ) → All AreNames ps → All AreNames qs → text_of ps ++ r ≡ text_of qs ++ s → Compared ps r qs s
compare [] [] r s np nq e = inl (refl, e)
compare (p ∷ ps) [] r s np nq e =
    inr (inl (record { pair = p; after = text_of ps ++ r; names = All-head AreNames p ps np; is = sym e ∙ append_assoc (line_of p) (10 ∷ text_of ps) r; less = omega arith }))
compare [] (q ∷ qs) r s np nq e =
    inr (inr (record { pair = q; after = text_of qs ++ s; names = All-head AreNames q qs nq; is = e ∙ append_assoc (line_of q) (10 ∷ text_of qs) s; less = omega arith }))
compare (p ∷ ps) (q ∷ qs) r s np nq e =
    let whole : line_of p ++ 10 ∷ (text_of ps ++ r) ≡ line_of q ++ 10 ∷ (text_of qs ++ s) = sym (append_assoc (line_of p) (10 ∷ text_of ps) r) ∙ e ∙ append_assoc (line_of q) (10 ∷ text_of qs) s in
    let hp = All-head AreNames p ps np in
    let hq = All-head AreNames q qs nq in
    let lines = same_cut 10 (line_of p) (line_of q) (text_of ps ++ r) (text_of qs ++ s) (no_end_in p hp) (no_end_in q hq) whole in
    let both = same_cut 32 p.0 q.0 p.1 q.1 hp.0.no_space hq.0.no_space lines.0 in
    let same : p ≡ q = ap₂ (λ (a b : List ℕ). (a, b)) both.0 both.1 in
    longer p q ps qs r s same (compare ps qs r s (All-tail AreNames p ps np) (All-tail AreNames q qs nq) lines.1)

-- the line of a pair has no fault, but that it may be one too many
not_wrong : (k : ListKind) (rest : List ℕ) (n m : ℕ) → GoesOn rest n m → IsWrong k n rest → n ≡ 10000
not_wrong kinds.Limit rest n m on wrong = wrong
not_wrong kinds.Truncated rest n m on wrong = absurd (not_within 10 (line_of on.pair) on.after (subst (HasNone 10) on.is wrong.1))
not_wrong kinds.Line rest n m on wrong =
    let w = wrong.1 in
    let same = same_cut 10 w.0 (line_of on.pair) w.1 on.after w.2 (no_end_in on.pair on.names) (sym w.3 ∙ on.is) in
    absurd (w.4 on.pair on.names same.0)

same_kind : (k l : ListKind) (n : ℕ) (rest : List ℕ) → IsWrong k n rest → IsWrong l n rest → k ≡ l
same_kind kinds.Limit kinds.Limit n rest v w = refl
same_kind kinds.Limit kinds.Truncated n rest v w = let lt = w.0 in absurd (omega (arith, v))
same_kind kinds.Limit kinds.Line n rest v w = let lt = w.0 in absurd (omega (arith, v))
same_kind kinds.Truncated kinds.Limit n rest v w = let lt = v.0 in absurd (omega (arith, w))
same_kind kinds.Truncated kinds.Truncated n rest v w = refl
same_kind kinds.Truncated kinds.Line n rest v w = absurd (not_within 10 w.1.0 w.1.1 (subst (HasNone 10) w.1.3 v.1))
same_kind kinds.Line kinds.Limit n rest v w = let lt = v.0 in absurd (omega (arith, w))
same_kind kinds.Line kinds.Truncated n rest v w = absurd (not_within 10 v.1.0 v.1.1 (subst (HasNone 10) v.1.3 w.1))
same_kind kinds.Line kinds.Line n rest v w = refl

not_empty : (xs ys : List ℕ) → [] ≡ xs ++ 10 ∷ ys → ⊥
not_empty xs ys e = let n = ap (λ (l : List ℕ). length l) e in omega (arith, n, length-append xs (10 ∷ ys))

-- where a list ends nothing goes on, and where there is a fault neither
no_more : (n m : ℕ) → GoesOn [] n m → ⊥
no_more n m on = not_empty (line_of on.pair) on.after on.is

too_many : (bytes : List ℕ) (f : ListFault) (is : IsFirstFault bytes f) (m : ℕ) → m ≤ 10000 → GoesOn is.rest (length is.pairs) m → ⊥
too_many bytes f is m few on = let n = not_wrong f.kind is.rest (length is.pairs) m on is.wrong in let l = on.less in omega arith

ok_not_fault : (bytes : List ℕ) (ps : List (List ℕ × List ℕ)) (f : ListFault) → Begins bytes ps [] → IsFirstFault bytes f → ⊥
ok_not_fault bytes ps f is bad =
    elim (compare ps bad.pairs [] bad.rest is.names bad.begins.names (sym is.text ∙ bad.begins.text)) [
      | inl e ↦ bad.some (sym e.1)
      | inr (inl on) ↦ too_many bytes f bad (length ps) is.few on
      | inr (inr on) ↦ no_more (length ps) (length bad.pairs) on
    ]

pub one_only : (bytes : List ℕ) (r s : Result (List (List ℕ × List ℕ)) ListFault) → Reads bytes r → Reads bytes s → r ≡ s
one_only bytes (Ok ps) (Ok qs) v w =
    elim (compare ps qs [] [] v.names w.names (sym v.text ∙ w.text)) [
      | inl e ↦ ap (λ (xs : List (List ℕ × List ℕ)). Ok xs) e.0
      | inr (inl on) ↦ absurd (no_more (length qs) (length ps) on)
      | inr (inr on) ↦ absurd (no_more (length ps) (length qs) on)
    ]
one_only bytes (Ok ps) (Err g) v w = absurd (ok_not_fault bytes ps g v w)
one_only bytes (Err f) (Ok qs) v w = absurd (ok_not_fault bytes qs f w v)
one_only bytes (Err f) (Err g) v w =
    elim (compare v.pairs w.pairs v.rest w.rest v.begins.names w.begins.names (sym v.begins.text ∙ w.begins.text)) [
      | inl e ↦
          let n : length v.pairs ≡ length w.pairs = ap (λ (xs : List (List ℕ × List ℕ)). length xs) e.0 in
          let moved : IsWrong g.kind (length v.pairs) v.rest = subst (λ (m : ℕ). IsWrong g.kind m v.rest) (sym n) (subst (IsWrong g.kind (length w.pairs)) (sym e.1) w.wrong) in
          let kind = same_kind f.kind g.kind (length v.pairs) v.rest v.wrong moved in
          let line : f.line ≡ g.line = v.line_is ∙ ap (λ (m : ℕ). m + 1) n ∙ sym w.line_is in
          ap (λ (x : ListFault). Err x) (ap₂ fault kind line)
      | inr (inl on) ↦ absurd (too_many bytes g w (length v.pairs) v.begins.few on)
      | inr (inr on) ↦ absurd (too_many bytes f v (length w.pairs) w.begins.few on)
    ]
