-- From codes to signed literals: clauses, derivations and rows.
use Rattle.std.proofs.Common.{◌≡◌, ◌≢◌, ◌≤◌, ◌<◌, ◌*◌, ◌-◌, ◌/◌, ◌%◌, ℕ, zero, suc, ℤ, pos, negsuc, neg_ℤ, List, [], ◌∷◌, ◌++◌, map, get_or, arith, sym, ◌∙◌, ap, ap₂, subst, refl, ◌⊎◌, inl, inr, ⊎_elim, Bool, true, not, eq-eqb, ne_eqb}
use Rattle.std.proofs.lemmas.Bool.{cases_eq, and_from}
use Rattle.std.proofs.lemmas.List.{map-append, length-map}
use Rattle.std.proofs.lemmas.List.Elements.{All-push}
use Rattle.std.specs.List.{All, Contains}
use Rattle.cnf_store.specs.Clauses.{literal_true, clause_true, satisfies, IsLiteral, Formula}
use Rattle.sat_log.specs.Derivations.{Line as SignedLine, LeavesOnly as SignedLeavesOnly, Refutes as SignedRefutes, Follows as SignedFollows, AllFollow, clauses_of}
use Rattle.sat_log.proofs.Soundness.{true_some}
use Rattle.cnf_store.specs.Codes.{neg, clause_at, MakesTrue, Satisfies}
use Rattle.sat_core.specs.Derivations.{Refutes, Follows}
use Rattle.sat_core.proofs.Deriving.{follow_push, clauses_push}
use Rattle.sat_core.specs.Signed.{signed, lit_of, signed_clauses, signed_line, coded}
use Rattle.sat_core.specs.Answers.{joined}

parity : (l : ℕ) → (l % 2 ≡ 0) ⊎ (l % 2 ≡ 1)
parity l = ⊎_elim (λ (e : l % 2 ≡ 0). inl e) (λ (n : l % 2 ≢ 0). inr (omega arith)) (cases_eq (l % 2) 0)

even_is : (l : ℕ) → l % 2 ≡ 0 → lit_of l ≡ pos (suc (l / 2))
even_is l e = ap (λ (s : ℕ). signed s (l / 2)) e

odd_is : (l : ℕ) → l % 2 ≡ 1 → lit_of l ≡ negsuc (l / 2)
odd_is l e = ap (λ (s : ℕ). signed s (l / 2)) e

pub neg_lit : (l : ℕ) → neg_ℤ (lit_of l) ≡ lit_of (neg l)
neg_lit l = ⊎_elim
    (λ (e : l % 2 ≡ 0). ap neg_ℤ (even_is l e) ∙ ap negsuc (let z : l / 2 ≡ neg l / 2 = omega arith in z) ∙ sym (odd_is (neg l) (omega arith)))
    (λ (e : l % 2 ≡ 1). ap neg_ℤ (odd_is l e) ∙ ap (λ (v : ℕ). pos (suc v)) (let z : l / 2 ≡ neg l / 2 = omega arith in z) ∙ sym (even_is (neg l) (omega arith)))
    (parity l)

pos_injective : (a b : ℕ) → pos (suc a) ≡ pos (suc b) → a ≡ b
pos_injective a b e = cc

negsuc_injective : (a b : ℕ) → negsuc a ≡ negsuc b → a ≡ b
negsuc_injective a b e = cc

apart : (a b : ℕ) → pos a ≡ negsuc b → ⊥
apart a b e = cc

pub lit_injective : (l m : ℕ) → lit_of l ≡ lit_of m → l ≡ m
lit_injective l m e = ⊎_elim
    (λ (a : l % 2 ≡ 0). ⊎_elim (λ (b : m % 2 ≡ 0). let h = pos_injective (l / 2) (m / 2) (sym (even_is l a) ∙ e ∙ even_is m b) in omega arith)
    (λ (b : m % 2 ≡ 1). absurd (apart (suc (l / 2)) (m / 2) (sym (even_is l a) ∙ e ∙ odd_is m b))) (parity m))
    (λ (a : l % 2 ≡ 1). ⊎_elim (λ (b : m % 2 ≡ 0). absurd (apart (suc (m / 2)) (l / 2) (sym (even_is m b) ∙ sym e ∙ odd_is l a)))
    (λ (b : m % 2 ≡ 1). let h = negsuc_injective (l / 2) (m / 2) (sym (odd_is l a) ∙ e ∙ odd_is m b) in omega arith) (parity m))
    (parity l)

-- one code more
pub codes_push : (n : ℕ) (codes news : List ℕ) (code : ℕ) → news ≡ codes ++ code ∷ [] → All (λ x. x < n) codes → code < n → All (λ x. x < n) news
codes_push n codes news code e all lt = subst (All (λ (x : ℕ). x < n)) (sym e) (All-push (λ (x : ℕ). x < n) codes code all lt)

-- a code below twice the variables is of one of them
pub lit_within : (vars l : ℕ) → l < 2 * vars → IsLiteral vars (lit_of l)
lit_within vars l lt = ⊎_elim
    (λ (e : l % 2 ≡ 0). subst (IsLiteral vars) (sym (even_is l e)) (omega arith, omega arith))
    (λ (e : l % 2 ≡ 1). subst (IsLiteral vars) (sym (odd_is l e)) (omega arith, omega arith))
    (parity l)

contains_map : (xs : List ℕ) (l : ℕ) → Contains xs l → Contains (map lit_of xs) (lit_of l)
contains_map [] l (k, lt, e) = absurd (omega arith)
contains_map (x ∷ xs) l (zero, lt, e) = (0, omega arith, ap lit_of e)
contains_map (x ∷ xs) l (suc k, lt, e) = let h = contains_map xs l (k, omega arith, e) in (suc h.0, omega (arith, h.1), h.2)

contains_back : (xs : List ℕ) (l : ℕ) → Contains (map lit_of xs) (lit_of l) → Contains xs l
contains_back [] l (k, lt, e) = absurd (omega arith)
contains_back (x ∷ xs) l (zero, lt, e) = (0, omega arith, lit_injective x l e)
contains_back (x ∷ xs) l (suc k, lt, e) = let h = contains_back xs l (k, omega arith, e) in (suc h.0, omega (arith, h.1), h.2)

clause_map : (db : List (List ℕ)) (n : ℕ) → get_or (signed_clauses db) n [] ≡ map lit_of (get_or db n [])
clause_map [] n = refl
clause_map (c ∷ db) zero = refl
clause_map (c ∷ db) (suc n) = clause_map db n

pub all_map : (P : ℕ → Type 0) (Q : ℤ → Type 0) (xs : List ℕ) → ((l : ℕ) → P l → Q (lit_of l)) → All P xs → All Q (map lit_of xs)
all_map P Q [] f all k d lt = absurd (omega arith)
all_map P Q (x ∷ xs) f all zero d lt = f x (all 0 0 (omega arith))
all_map P Q (x ∷ xs) f all (suc k) d lt = all_map P Q xs f (λ j e l. all (suc j) e (omega arith)) k d (omega arith)

pub map_neg : (xs : List ℕ) → map lit_of (map neg xs) ≡ map neg_ℤ (map lit_of xs)
map_neg [] = refl
map_neg (x ∷ xs) = ap₂ (λ (y : ℤ) (ys : List ℤ). y ∷ ys) (sym (neg_lit x)) (map_neg xs)

refutes_signed : (db : List (List ℕ)) (assumed hints : List ℕ) → Refutes db assumed hints → SignedRefutes (signed_clauses db) (map lit_of assumed) hints
refutes_signed db assumed [] r = r
refutes_signed db assumed (h ∷ []) r =
    subst (λ (c : List ℤ). All (λ m. Contains (map lit_of assumed) (neg_ℤ m)) c) (sym (clause_map db (h - 1)))
    (all_map (λ m. Contains assumed (neg m)) (λ m. Contains (map lit_of assumed) (neg_ℤ m)) (clause_at db h)
    (λ l c. subst (Contains (map lit_of assumed)) (sym (neg_lit l)) (contains_map assumed (neg l) c)) r)
refutes_signed db assumed (h ∷ i ∷ hs) (l, only, r) = (
  lit_of l,
  subst (λ (c : List ℤ). SignedLeavesOnly (map lit_of assumed) c (lit_of l)) (sym (clause_map db (h - 1))) (record {
    inside = contains_map (clause_at db h) l only.inside;
    not_true = λ c. only.not_true (contains_back assumed l c);
    not_false = λ c. only.not_false (contains_back assumed (neg l) (subst (Contains (map lit_of assumed)) (neg_lit l) c));
    others = all_map (λ m. (m ≡ l) ⊎ Contains assumed (neg m)) (λ m. (m ≡ lit_of l) ⊎ Contains (map lit_of assumed) (neg_ℤ m)) (clause_at db h)
        (λ m o. ⊎_elim (λ (e : m ≡ l). inl (ap lit_of e)) (λ (c : Contains assumed (neg m)). inr (subst (Contains (map lit_of assumed)) (sym (neg_lit m)) (contains_map assumed (neg m) c))) o) only.others;
  }),
  refutes_signed db (l ∷ assumed) (i ∷ hs) r,
)

-- the clauses of codes, and those that come after them
pub signed_append : (a b : List (List ℕ)) → signed_clauses (a ++ b) ≡ signed_clauses a ++ signed_clauses b
signed_append a b = map-append (λ (c : List ℕ). map lit_of c) a b

pub follows_signed : (vars : ℕ) (db : List (List ℕ)) (literals hints : List ℕ) → Follows vars db literals hints → SignedFollows vars (signed_clauses db) (signed_line literals hints)
follows_signed vars db literals hints f = record {
  within = all_map (λ c. c < 2 * vars) (IsLiteral vars) literals (lit_within vars) f.within;
  no_complement = all_map (λ c. Contains literals (neg c) → ⊥) (λ m. Contains (map lit_of literals) (neg_ℤ m) → ⊥) literals
      (λ c n h. n (contains_back literals (neg c) (subst (Contains (map lit_of literals)) (neg_lit c) h))) f.no_complement;
  earlier = subst (λ (n : ℕ). All (λ h. (0 < h) × (h ≤ n)) hints) (sym (length-map db (λ (c : List ℕ). map lit_of c))) f.earlier;
  refutes = subst (λ (a : List ℤ). SignedRefutes (signed_clauses db) a hints) (map_neg literals) (refutes_signed db (map neg literals) hints f.refutes);
}

-- two formulas by codes as one
pub joined_is : (n : ℕ) (shared own : List (List ℕ)) (f g : Formula) → n ≡ g.vars → signed_clauses shared ≡ f.clauses → signed_clauses own ≡ g.clauses → coded n (shared ++ own) ≡ joined f g
joined_is n shared own f g v a b = ap₂ {C = Formula} (λ (m : ℕ) (cs : List (List ℤ)). record { vars = m; clauses = cs }) v (signed_append shared own ∙ ap₂ (λ (x y : List (List ℤ)). x ++ y) a b)

-- one more line of a log over what was learned
pub line_follows : (vars : ℕ) (formula learned : List (List ℕ)) (db : List (List ℕ)) (log : List SignedLine) (literals hints : List ℕ) → db ≡ formula ++ learned → clauses_of log ≡ signed_clauses learned → AllFollow vars (signed_clauses formula) log → Follows vars db literals hints
    → AllFollow vars (signed_clauses formula) (log ++ signed_line literals hints ∷ [])
line_follows vars formula learned db log literals hints is logged follow f =
    let same : signed_clauses db ≡ signed_clauses formula ++ clauses_of log = ap (λ (cs : List (List ℕ)). signed_clauses cs) is ∙ signed_append formula learned ∙ ap (λ (cs : List (List ℤ)). signed_clauses formula ++ cs) (sym logged) in
    follow_push vars (signed_clauses formula) log (signed_line literals hints) follow (subst (λ (cs : List (List ℤ)). SignedFollows vars cs (signed_line literals hints)) same (follows_signed vars db literals hints f))

-- what was learned, with one clause more
pub line_logged : (learned : List (List ℕ)) (log : List SignedLine) (literals hints : List ℕ) → clauses_of log ≡ signed_clauses learned → clauses_of (log ++ signed_line literals hints ∷ []) ≡ signed_clauses (learned ++ literals ∷ [])
line_logged learned log literals hints e = clauses_push log (signed_line literals hints) ∙ ap (λ (cs : List (List ℤ)). cs ++ map lit_of literals ∷ []) e ∙ sym (signed_append learned (literals ∷ []))

-- a row makes a code true where it makes its literal true
true_signed : (row : List Bool) (l : ℕ) → MakesTrue row l → literal_true row (lit_of l) ≡ true
true_signed row l t = ⊎_elim
    (λ (e : l % 2 ≡ 0). ap (literal_true row) (even_is l e) ∙ t ∙ eq-eqb (l % 2) 0 e)
    (λ (e : l % 2 ≡ 1). ap (literal_true row) (odd_is l e) ∙ ap not (t ∙ ne_eqb (l % 2) 0 (λ z. omega arith))) (parity l)

pub satisfies_signed : (row : List Bool) (db : List (List ℕ)) → Satisfies row db → satisfies row (signed_clauses db) ≡ true
satisfies_signed row [] sat = refl
satisfies_signed row (c ∷ db) sat =
    let (k, l, lt, e, t) = sat 0 [] (omega arith) in
    and_from (clause_true row (map lit_of c)) (satisfies row (signed_clauses db))
    (true_some row (map lit_of c) (lit_of l) (contains_map c l (k, lt, e)) (true_signed row l t))
    (satisfies_signed row db (λ j d h. sat (suc j) d (omega arith)))
