-- One clause after what is assumed.
use Rattle.std.proofs.Common.{◌≡◌, ◌≢◌, ◌≤◌, ◌<◌, ◌+◌, ℕ, ℤ, pos, neg_ℤ, Bool, true, false, List, [], ◌∷◌, ◌++◌, length, get_or, sym, ◌∙◌, ap, subst, refl, arith, ◌⊎◌, inl, inr, ⊎_elim}
use Rattle.std.proofs.lemmas.Bool.{false≢true}
use Rattle.std.specs.List.{All, Contains}
use Rattle.std.proofs.lemmas.List.{get_or_default, get_or-take, length-take, take_more, take_all}
use Rattle.std.proofs.lemmas.List.Elements.{All-take}
use Rattle.std.proofs.Common.{take}
use Rattle.std.proofs.lemmas.List.Elements.{Contains-push_cases, Contains-push, Contains-append_left, All-contains, All-push}
use Rattle.sat_log.specs.Derivations.{clause_at, LeavesOnly, Refutes}
use Rattle.sat_log.proofs.Lists.{contains_cases, contains_head, contains_tail}
use Rattle.log_check.specs.Marks.{AreMarks, IsFalse, mark_at}
use Rattle.log_check.specs.FirstBad.{Decides}
use Rattle.std.specs.Prelude.{unsigned_abs}
use Rattle.cnf_store.specs.Clauses.{AreLiterals}

-- two lists that hold the same literals refute alike
abbrev pub Alike : List ℤ → List ℤ → Type 0
Alike a b = ((l : ℤ) → Contains a l → Contains b l) × ((l : ℤ) → Contains b l → Contains a l)

leaves_alike : (a b clause : List ℤ) (l : ℤ) → Alike a b → LeavesOnly a clause l → LeavesOnly b clause l
leaves_alike a b clause l same o = record {
  inside = o.inside;
  not_true = λ c. o.not_true (same.1 l c);
  not_false = λ c. o.not_false (same.1 (neg_ℤ l) c);
  others = λ k d lt. ⊎_elim (λ e. inl e) (λ c. inr (same.0 _ c)) (o.others k d lt);
}

alike_more : (a b : List ℤ) (l : ℤ) → Alike a b → Alike (l ∷ a) (l ∷ b)
alike_more a b l same = (more a b same.0, more b a same.1)
  where
    more : (x y : List ℤ) → ((m : ℤ) → Contains x m → Contains y m) → (m : ℤ) → Contains (l ∷ x) m → Contains (l ∷ y) m
    more x y f m c = ⊎_elim (λ (e : l ≡ m). subst (Contains (l ∷ y)) e (contains_head l y)) (λ (h : Contains x m). contains_tail l m y (f m h)) (contains_cases l m x c)

pub refutes_alike : (db : List (List ℤ)) (a b : List ℤ) (hints : List ℕ) → Alike a b → Refutes db a hints → Refutes db b hints
refutes_alike db a b [] same r = r
refutes_alike db a b (h ∷ []) same r = λ k d lt. same.0 _ (r k d lt)
refutes_alike db a b (h ∷ i ∷ hs) same (l, only, r) = (l, leaves_alike a b (clause_at db h) l same only, refutes_alike db (l ∷ a) (l ∷ b) (i ∷ hs) (alike_more a b l same) r)

pub push_alike : (a : List ℤ) (l : ℤ) → Alike (l ∷ a) (a ++ l ∷ [])
push_alike a l = (
  (λ m c. ⊎_elim (λ (e : l ≡ m). subst (Contains (a ++ l ∷ [])) e (Contains-push a l)) (λ (h : Contains a m). Contains-append_left a (l ∷ []) m h) (contains_cases l m a c)),
  (λ m c. ⊎_elim (λ (h : Contains a m). contains_tail l m a h) (λ (e : l ≡ m). subst (Contains (l ∷ a)) e (contains_head l a)) (Contains-push_cases a l m c)),
)

-- only one literal is left alone
pub one_left : (a clause : List ℤ) (l m : ℤ) → LeavesOnly a clause l → LeavesOnly a clause m → l ≡ m
one_left a clause l m p q = ⊎_elim (λ (e : l ≡ m). e) (λ (f : Contains a (neg_ℤ l)). absurd (p.not_false f)) (All-contains (λ x. (x ≡ m) ⊎ Contains a (neg_ℤ x)) clause l q.others p.inside)

-- what has been seen of a clause: all of it is false, but perhaps one literal
pub record Sees (a seen : List ℤ) (unit : ℤ) : Type 0 where
  pub others : All (λ m. (m ≡ unit) ⊎ IsFalse a m) seen
  pub chosen : unit ≢ pos 0 → Contains seen unit × (Contains a unit → ⊥) × (Contains a (neg_ℤ unit) → ⊥)

-- a literal that is not false is the one left, if there is one
left_is : (a clause : List ℤ) (l m : ℤ) → LeavesOnly a clause l → Contains clause m → (IsFalse a m → ⊥) → m ≡ l
left_is a clause l m o c n = ⊎_elim (λ (e : m ≡ l). e) (λ (f : Contains a (neg_ℤ m)). absurd (n f)) (All-contains (λ x. (x ≡ l) ⊎ Contains a (neg_ℤ x)) clause m o.others c)

pub neither_true : (a clause : List ℤ) (m : ℤ) → Contains clause m → (IsFalse a m → ⊥) → Contains a m → (All (IsFalse a) clause → ⊥) × ((l : ℤ) → LeavesOnly a clause l → ⊥)
neither_true a clause m c n t = ((λ all. n (All-contains (IsFalse a) clause m all c)), λ l o. o.not_true (subst (Contains a) (left_is a clause l m o c n) t))

pub neither_two : (a clause : List ℤ) (m k : ℤ) → Contains clause m → (IsFalse a m → ⊥) → Contains clause k → (IsFalse a k → ⊥) → m ≢ k → (All (IsFalse a) clause → ⊥) × ((l : ℤ) → LeavesOnly a clause l → ⊥)
neither_two a clause m k c n d o ne = ((λ all. n (All-contains (IsFalse a) clause m all c)), λ l lo. ne (left_is a clause l m lo c n ∙ sym (left_is a clause l k lo d o)))

pub sees_false : (a seen : List ℤ) (unit m : ℤ) → Sees a seen unit → IsFalse a m → Sees a (seen ++ m ∷ []) unit
sees_false a seen unit m s f = record {
  others = All-push (λ x. (x ≡ unit) ⊎ IsFalse a x) seen m s.others (inr f);
  chosen = λ ne. let o = s.chosen ne in (Contains-append_left seen (m ∷ []) unit o.0, o.1, o.2);
}

pub sees_open : (a seen : List ℤ) (unit m : ℤ) → Sees a seen unit → (IsFalse a m → ⊥) → (Contains a m → ⊥) → (unit ≡ pos 0) ⊎ (unit ≡ m) → All (λ x. x ≢ pos 0) seen → Sees a (seen ++ m ∷ []) m
sees_open a seen unit m s n t (inl e) small = record {
  others = All-push (λ x. (x ≡ m) ⊎ IsFalse a x) seen m (λ k d lt. ⊎_elim (λ (h : get_or seen k d ≡ unit). absurd (small k d lt (h ∙ e))) (λ (f : IsFalse a (get_or seen k d)). inr f) (s.others k d lt)) (inl refl);
  chosen = λ ne. (Contains-push seen m, t, n);
}
sees_open a seen unit m s n t (inr e) small = record {
  others = All-push (λ x. (x ≡ m) ⊎ IsFalse a x) seen m (subst (λ (u : ℤ). All (λ x. (x ≡ u) ⊎ IsFalse a x) seen) e s.others) (inl refl);
  chosen = λ ne. (Contains-push seen m, t, n);
}

pub sees_all : (a clause : List ℤ) (unit : ℤ) → Sees a clause unit → unit ≢ pos 0 → LeavesOnly a clause unit
sees_all a clause unit s ne = let o = s.chosen ne in record { inside = o.0; not_true = o.1; not_false = o.2; others = s.others }

pub sees_none : (a clause : List ℤ) (unit : ℤ) → Sees a clause unit → unit ≡ pos 0 → All (λ x. x ≢ pos 0) clause → All (IsFalse a) clause
sees_none a clause unit s e small = λ k d lt. ⊎_elim (λ (h : get_or clause k d ≡ unit). absurd (small k d lt (h ∙ e))) (λ (f : IsFalse a (get_or clause k d)). f) (s.others k d lt)

-- the steps of the hints
abbrev pub Same : Type 0 → Type 0 → Type 0
Same P Q = (P → Q) × (Q → P)

pub decided : (P Q : Type 0) (b : Bool) → Same P Q → Decides b P → Decides b Q
decided P Q true s h = s.0 h
decided P Q false s h = λ q. h (s.1 q)

pub ends_conflict : (db : List (List ℤ)) (a : List ℤ) (h : ℕ) → All (IsFalse a) (clause_at db h) → Refutes db a (h ∷ [])
ends_conflict db a h all = all

pub conflict_early : (db : List (List ℤ)) (a : List ℤ) (hs : List ℕ) (h i : ℕ) → All (IsFalse a) (clause_at db h) → Refutes db a (h ∷ i ∷ hs) → ⊥
conflict_early db a hs h i all (l, only, r) = only.not_false (All-contains (IsFalse a) (clause_at db h) l all only.inside)

pub unit_late : (db : List (List ℤ)) (a : List ℤ) (h : ℕ) (l : ℤ) → LeavesOnly a (clause_at db h) l → Refutes db a (h ∷ []) → ⊥
unit_late db a h l only all = only.not_false (All-contains (IsFalse a) (clause_at db h) l all only.inside)

pub neither_any : (db : List (List ℤ)) (a : List ℤ) (hs : List ℕ) (h : ℕ) → (All (IsFalse a) (clause_at db h) → ⊥) → ((l : ℤ) → LeavesOnly a (clause_at db h) l → ⊥) → Refutes db a (h ∷ hs) → ⊥
neither_any db a [] h n o r = n r
neither_any db a (i ∷ hs) h n o (l, only, r) = o l only

pub unit_step : (db : List (List ℤ)) (a : List ℤ) (hs : List ℕ) (h i : ℕ) (l : ℤ) → LeavesOnly a (clause_at db h) l → Same (Refutes db (a ++ l ∷ []) (i ∷ hs)) (Refutes db a (h ∷ i ∷ hs))
unit_step db a hs h i l only = (
  (λ r. (l, only, refutes_alike db (a ++ l ∷ []) (l ∷ a) (i ∷ hs) ((push_alike a l).1, (push_alike a l).0) r)),
  (λ (m, o, r). let e = one_left a (clause_at db h) m l o only in refutes_alike db (l ∷ a) (a ++ l ∷ []) (i ∷ hs) (push_alike a l) (subst (λ (x : ℤ). Refutes db (x ∷ a) (i ∷ hs)) e r)),
)

-- marks and what they say
pub marked_false : (marks : List Bool) (a : List ℤ) (x m : ℤ) (r : Bool) → AreMarks marks a → x ≡ neg_ℤ m → r ≡ mark_at marks x → r ≡ true → IsFalse a m
marked_false marks a x m r w e is t = subst (Contains a) e (w.held x (sym is ∙ t))

pub unmarked : (marks : List Bool) (a : List ℤ) (x : ℤ) (r : Bool) → AreMarks marks a → r ≡ mark_at marks x → r ≡ false → Contains a x → ⊥
unmarked marks a x r w is f c = false≢true (sym f ∙ is ∙ w.marked x c)

pub unmarked_false : (marks : List Bool) (a : List ℤ) (x m : ℤ) (r : Bool) → AreMarks marks a → x ≡ neg_ℤ m → r ≡ mark_at marks x → r ≡ false → IsFalse a m → ⊥
unmarked_false marks a x m r w e is f c = unmarked marks a x r w is f (subst (Contains a) (sym e) c)

pub here : (xs : List ℤ) (i : ℕ) → i < length xs → Contains xs (get_or xs i (pos 0))
here xs i lt = (i, lt, get_or_default xs i (get_or xs i (pos 0)) (pos 0) lt)

pub contains_take : (n : ℕ) (xs : List ℤ) (x : ℤ) → Contains (take n xs) x → Contains xs x
contains_take n xs x c = let l = length-take n xs in (c.0, omega (arith, c.1), sym (get_or-take n xs c.0 x (omega (arith, c.1))) ∙ c.2)

pub next_false : (a clause : List ℤ) (unit : ℤ) (i : ℕ) → i < length clause → Sees a (take i clause) unit → IsFalse a (get_or clause i (pos 0)) → Sees a (take (i + 1) clause) unit
next_false a clause unit i lt s f = subst (λ (xs : List ℤ). Sees a xs unit) (sym (take_more clause i (pos 0) lt)) (sees_false a (take i clause) unit (get_or clause i (pos 0)) s f)

pub next_open : (a clause : List ℤ) (unit : ℤ) (i : ℕ) → i < length clause → Sees a (take i clause) unit → (IsFalse a (get_or clause i (pos 0)) → ⊥) → (Contains a (get_or clause i (pos 0)) → ⊥)
    → (unit ≡ pos 0) ⊎ (unit ≡ get_or clause i (pos 0)) → All (λ x. x ≢ pos 0) clause → Sees a (take (i + 1) clause) (get_or clause i (pos 0))
next_open a clause unit i lt s n t o small = subst (λ (xs : List ℤ). Sees a xs (get_or clause i (pos 0))) (sym (take_more clause i (pos 0) lt)) (sees_open a (take i clause) unit (get_or clause i (pos 0)) s n t o (All-take (λ x. x ≢ pos 0) i clause small))

pub two_open : (a clause : List ℤ) (unit : ℤ) (i : ℕ) → i < length clause → Sees a (take i clause) unit → (IsFalse a (get_or clause i (pos 0)) → ⊥) → (unit ≢ pos 0) × (unit ≢ get_or clause i (pos 0))
    → (All (IsFalse a) clause → ⊥) × ((l : ℤ) → LeavesOnly a clause l → ⊥)
two_open a clause unit i lt s n o = let h = s.chosen o.0 in neither_two a clause unit (get_or clause i (pos 0)) (contains_take i clause unit h.0) h.2 (here clause i lt) n o.1

pub seen_all : (a clause : List ℤ) (unit : ℤ) (i : ℕ) → length clause ≤ i → Sees a (take i clause) unit → Sees a clause unit
seen_all a clause unit i le s = subst (λ (xs : List ℤ). Sees a xs unit) (take_all i clause le) s

-- a literal isn't 0
pub not_zero : (vars : ℕ) (clause : List ℤ) → AreLiterals vars clause → All (λ x. x ≢ pos 0) clause
not_zero vars clause are k d lt e = let a = are k d lt in let b : unsigned_abs (get_or clause k d) ≡ 0 = ap unsigned_abs e in omega (arith, a.0)
