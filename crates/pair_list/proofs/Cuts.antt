-- Where the first such byte stands a text is cut in one way.
use Rattle.std.proofs.Common.{◌≡◌, ◌∙◌, ◌≢◌, ℕ, zero, suc, ◌<◌, List, [], ◌∷◌, ◌++◌, length, take, drop, slice_index, refl, sym, ap, ap₂, subst, arith, All}
use Rattle.std.proofs.lemmas.List.Elements.{All-nil, All-cons, All-head, All-tail, All-append}
use Rattle.pair_list.specs.Lists.{HasNone, IsName, AreNames, line_of}

-- the parts of a list about a place
pub cut_at : (xs : List ℕ) (at b : ℕ) → at < length xs → slice_index xs at ≡ b → xs ≡ take at xs ++ b ∷ drop (suc at) xs
cut_at [] at b lt is = absurd (omega arith)
cut_at (x ∷ xs) zero b lt is = ap (λ (y : ℕ). y ∷ xs) is
cut_at (x ∷ xs) (suc at) b lt is = ap (λ (ys : List ℕ). x ∷ ys) (cut_at xs at b (omega arith) is)

pub not_within : (b : ℕ) (xs ys : List ℕ) → HasNone b (xs ++ b ∷ ys) → ⊥
not_within b [] ys none = All-head (λ (y : ℕ). y ≢ b) b ys none refl
not_within b (x ∷ xs) ys none = not_within b xs ys (All-tail (λ (y : ℕ). y ≢ b) x (xs ++ b ∷ ys) none)

-- two cuts by the first of a byte are one
pub same_cut : (b : ℕ) (xs ys r s : List ℕ) → HasNone b xs → HasNone b ys → xs ++ b ∷ r ≡ ys ++ b ∷ s → (xs ≡ ys) × (r ≡ s)
same_cut b [] [] r s fx fy e = (refl, cc)
same_cut b [] (y ∷ ys) r s fx fy e =
    let h : y ≡ b = cc in
    absurd (All-head (λ (z : ℕ). z ≢ b) y ys fy h)
same_cut b (x ∷ xs) [] r s fx fy e =
    let h : x ≡ b = cc in
    absurd (All-head (λ (z : ℕ). z ≢ b) x xs fx h)
same_cut b (x ∷ xs) (y ∷ ys) r s fx fy e =
    let h : x ≡ y = cc in
    let t : xs ++ b ∷ r ≡ ys ++ b ∷ s = cc in
    let more = same_cut b xs ys r s (All-tail (λ (z : ℕ). z ≢ b) x xs fx) (All-tail (λ (z : ℕ). z ≢ b) y ys fy) t in
    (ap₂ (λ (a : ℕ) (as' : List ℕ). a ∷ as') h more.0, more.1)

-- the names of a line are those before and after its first space
pub same_names : (line left right : List ℕ) (p : List ℕ × List ℕ) → line ≡ left ++ 32 ∷ right → HasNone 32 left → AreNames p → line ≡ line_of p → (left ≡ p.0) × (right ≡ p.1)
same_names line left right p cut none names is = same_cut 32 left p.0 right p.1 none names.0.no_space (sym cut ∙ is)

pub no_space_no_pair : (line : List ℕ) → HasNone 32 line → (p : List ℕ × List ℕ) → AreNames p → line ≡ line_of p → ⊥
no_space_no_pair line none p names is = not_within 32 p.0 p.1 (subst (HasNone 32) is none)

pub no_left_no_pair : (line left right : List ℕ) → line ≡ left ++ 32 ∷ right → HasNone 32 left → (IsName left → ⊥) → (p : List ℕ × List ℕ) → AreNames p → line ≡ line_of p → ⊥
no_left_no_pair line left right cut none not_name p names is = not_name (subst IsName (sym (same_names line left right p cut none names is).0) names.0)

pub no_right_no_pair : (line left right : List ℕ) → line ≡ left ++ 32 ∷ right → HasNone 32 left → (IsName right → ⊥) → (p : List ℕ × List ℕ) → AreNames p → line ≡ line_of p → ⊥
no_right_no_pair line left right cut none not_name p names is = not_name (subst IsName (sym (same_names line left right p cut none names is).1) names.1)

-- both parts of a list have what the whole has
pub all_left : {X : Type 0} (P : X → Type 0) (xs ys : List X) → All P (xs ++ ys) → All P xs
all_left P [] ys all = All-nil P
all_left P (x ∷ xs) ys all = All-cons P x xs (All-head P x (xs ++ ys) all) (all_left P xs ys (All-tail P x (xs ++ ys) all))

pub all_right : {X : Type 0} (P : X → Type 0) (xs ys : List X) → All P (xs ++ ys) → All P ys
all_right P [] ys all = all
all_right P (x ∷ xs) ys all = all_right P xs ys (All-tail P x (xs ++ ys) all)

pub none_left : (b c : ℕ) (line left right : List ℕ) → line ≡ left ++ c ∷ right → HasNone b line → HasNone b left
none_left b c line left right cut none = all_left (λ (y : ℕ). y ≢ b) left (c ∷ right) (subst (HasNone b) cut none)

pub none_right : (b c : ℕ) (line left right : List ℕ) → line ≡ left ++ c ∷ right → HasNone b line → HasNone b right
none_right b c line left right cut none = All-tail (λ (y : ℕ). y ≢ b) c right (all_right (λ (y : ℕ). y ≢ b) left (c ∷ right) (subst (HasNone b) cut none))

-- the line of a pair has no end in it
pub no_end_in : (p : List ℕ × List ℕ) → AreNames p → HasNone 10 (line_of p)
no_end_in p names = All-append (λ (y : ℕ). y ≢ 10) p.0 (32 ∷ p.1) names.0.no_end (All-cons (λ (y : ℕ). y ≢ 10) 32 p.1 (λ e. absurd (omega arith)) names.1.no_end)
