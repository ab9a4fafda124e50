-- Which clauses are about which needed pair.
use Rattle.std.proofs.Common.{◌≡◌, ◌∙◌, ◌≤◌, ◌<◌, ◌+◌, ◌-◌, ◌*◌, ◌/◌, ◌%◌, ℕ, zero, suc, ℤ, List, [], ◌∷◌, ◌++◌, length, map, take, drop, get_or, sym, ap, subst, refl, arith, ◌⊎◌, inl, inr, ⊎_elim, length-append, drop-cons}
use Rattle.std.specs.Prelude.{flat_map}
use Rattle.std.specs.List.{Contains, range_with_len}
use Rattle.std.proofs.Math.Nat.{mod-eq_of_lt, add-mod_left}
use Rattle.std.proofs.lemmas.Bool.{cases_lt}
use Rattle.std.proofs.lemmas.List.{get_or_append_left, get_or-append_right, get_or_default, get_or_past, get_or-map, length-map}
use Rattle.std.proofs.lemmas.List.Elements.{Contains-append_left, Contains-append_right}
use Rattle.circ_model.specs.Meaning.{places_of}
use Rattle.product_machine.specs.Cells.{cells}
use Rattle.frame_unroll.specs.Frames.{literal_in, frames, equal_clauses, class_clauses}
use Rattle.frame_unroll.specs.Unrolled.{Unrolling, asked_clauses, clauses_of, plain_clauses}
use Rattle.frame_unroll.specs.Pairs.{no_pair, both_pairs, class_pairs, clause_pairs, pairs_of, without_pairs, IsAbout}

-- how many there are
pub length_twice : {Y : Type 0} (f : ℕ × ℕ → List Y) (needed : List (ℕ × ℕ)) → ((p : ℕ × ℕ) → length (f p) ≡ 2) → length (flat_map f needed) ≡ 2 * length needed
length_twice f [] two = refl
length_twice f (p ∷ ps) two = let a = length-append (f p) (flat_map f ps) in let b = two p in let c = length_twice f ps two in omega arith

length_frames : {Y : Type 0} (f : ℕ → List Y) (from k m : ℕ) → ((t : ℕ) → length (f t) ≡ m) → length (flat_map f (range_with_len from k)) ≡ k * m
length_frames f from zero m same = omega arith
length_frames f from (suc k) m same =
    let a = length-append (f from) (flat_map f (range_with_len (from + 1) k)) in
    let b = same from in
    let c = length_frames f (from + 1) k m same in
    omega arith

pub length_classes : (name : ℕ → ℕ → ℤ) (k : ℕ) (needed : List (ℕ × ℕ)) → length (class_clauses name k needed) ≡ k * (2 * length needed)
length_classes name k needed = length_frames (λ t. flat_map (equal_clauses name t) needed) 0 k (2 * length needed) (λ t. length_twice (equal_clauses name t) needed (λ p. refl))

pub length_pairs : (k : ℕ) (needed : List (ℕ × ℕ)) → length (class_pairs k needed) ≡ k * (2 * length needed)
length_pairs k needed = length_frames (λ t. flat_map both_pairs needed) 0 k (2 * length needed) (λ t. length_twice both_pairs needed (λ p. refl))

-- the pair at a position
at_pair : (needed : List (ℕ × ℕ)) (j : ℕ) → j < 2 * length needed → get_or (flat_map both_pairs needed) j [] ≡ get_or needed (j / 2) (0, 0) ∷ []
at_pair [] j lt = absurd (omega arith)
at_pair (p ∷ ps) zero lt = refl
at_pair (p ∷ ps) (suc zero) lt = refl
at_pair (p ∷ ps) (suc (suc j)) lt =
    let half : suc (j / 2) ≡ suc (suc j) / 2 = omega arith in
    at_pair ps j (omega arith) ∙ ap (λ (i : ℕ). get_or (p ∷ ps) i (0, 0) ∷ []) half

at_frame : (needed : List (ℕ × ℕ)) (from k j : ℕ) → j < k * (2 * length needed) → get_or (flat_map (λ t. flat_map both_pairs needed) (range_with_len from k)) j [] ≡ get_or needed (j / 2 % length needed) (0, 0) ∷ []
at_frame needed from zero j lt = absurd (omega arith)
at_frame needed from (suc k) j lt =
    let one : List (List (ℕ × ℕ)) = flat_map both_pairs needed in
    let rest : List (List (ℕ × ℕ)) = flat_map (λ t. flat_map both_pairs needed) (range_with_len (from + 1) k) in
    let m : ℕ = length needed in
    let size : length one ≡ 2 * m = length_twice both_pairs needed (λ p. refl) in
    ⊎_elim
    (λ (less : j < 2 * m).
    let half : j / 2 < m = omega arith in
    get_or_append_left one rest [] j (omega arith) ∙ at_pair needed j less ∙ ap (λ (i : ℕ). get_or needed i (0, 0) ∷ []) (sym (mod-eq_of_lt half)))
    (λ (past : 2 * m ≤ j).
    let half : m + (j - 2 * m) / 2 ≡ j / 2 = omega arith in
    get_or-append_right one rest (2 * m) j [] size past ∙ at_frame needed (from + 1) k (j - 2 * m) (omega arith)
    ∙ ap (λ (i : ℕ). get_or needed i (0, 0) ∷ []) (sym (add-mod_left m ((j - 2 * m) / 2)) ∙ ap (λ (i : ℕ). i % m) half))
    (cases_lt j (2 * m))

-- the clauses of the frames alone
abbrev pub frames_of : Unrolling → List (List ℤ)
frames_of u = frames (literal_in (places_of u.pair)) u.from_reset (cells u.pair) u.frames

length_plain : (u : Unrolling) → length (plain_clauses u) ≡ length (frames_of u) + (u.frames - 1) * (2 * length u.needed)
length_plain u =
    let a = length-append (frames_of u) (class_clauses (literal_in (places_of u.pair)) (u.frames - 1) u.needed) in
    let b = length_classes (literal_in (places_of u.pair)) (u.frames - 1) u.needed in
    omega arith

pub pairs_before : (u : Unrolling) (n : ℕ) → n < length (frames_of u) → pairs_of u (suc n) ≡ []
pairs_before u n lt =
    let l = length-map (frames_of u) no_pair in
    get_or_append_left (map no_pair (frames_of u)) (class_pairs (u.frames - 1) u.needed) [] n (omega arith)
    ∙ get_or-map no_pair (frames_of u) n [] [] lt

pub pairs_past : (u : Unrolling) (n : ℕ) → length (plain_clauses u) ≤ n → pairs_of u (suc n) ≡ []
pairs_past u n le =
    let a = length-append (map no_pair (frames_of u)) (class_pairs (u.frames - 1) u.needed) in
    let b = length-map (frames_of u) no_pair in
    let c = length_pairs (u.frames - 1) u.needed in
    let d = length_plain u in
    get_or_past (clause_pairs u) n [] (omega arith)

pub pairs_within : (u : Unrolling) (n j : ℕ) → n ≡ length (frames_of u) + j → j < (u.frames - 1) * (2 * length u.needed) → pairs_of u (suc n) ≡ get_or u.needed (j / 2 % length u.needed) (0, 0) ∷ []
pairs_within u n j e lt =
    let past : n - length (frames_of u) ≡ j = omega arith in
    get_or-append_right (map no_pair (frames_of u)) (class_pairs (u.frames - 1) u.needed) (length (frames_of u)) n [] (length-map (frames_of u) no_pair) (omega arith)
    ∙ ap (λ (i : ℕ). get_or (class_pairs (u.frames - 1) u.needed) i []) past
    ∙ at_frame u.needed 0 (u.frames - 1) j lt

-- by the number of clauses before a question's
pub room_for : (u : Unrolling) (count plain : ℕ) → plain ≡ length (plain_clauses u) → count ≡ length u.needed → 2 * (u.frames - 1) * count ≤ plain
room_for u count plain e c = let d = length_plain u in rw c (omega arith)

pub none_there : (u : Unrolling) (count plain clause : ℕ) → plain ≡ length (plain_clauses u) → count ≡ length u.needed → (clause ≤ plain - 2 * (u.frames - 1) * count) ⊎ (plain < clause) → pairs_of u clause ≡ []
none_there u count plain zero e c out = refl
none_there u count plain (suc n) e c (inl le) = let d = length_plain u in pairs_before u n (let f : (u.frames - 1) * (2 * length u.needed) ≡ 2 * (u.frames - 1) * count = rw c (omega arith) in omega arith)
none_there u count plain (suc n) e c (inr lt) = pairs_past u n (omega arith)

pub one_there : (u : Unrolling) (count plain clause : ℕ) → plain ≡ length (plain_clauses u) → count ≡ length u.needed → plain - 2 * (u.frames - 1) * count < clause → clause ≤ plain
    → (0 < count) × (pairs_of u clause ≡ get_or u.needed ((clause - (plain - 2 * (u.frames - 1) * count) - 1) / 2 % count) (0, 0) ∷ [])
one_there u count plain zero e c lt le = absurd (omega arith)
one_there u count plain (suc n) e c lt le =
    let d = length_plain u in
    let f : (u.frames - 1) * (2 * length u.needed) ≡ 2 * (u.frames - 1) * count = rw c (omega arith) in
    let j : ℕ = suc n - (plain - 2 * (u.frames - 1) * count) - 1 in
    let less : j < (u.frames - 1) * (2 * length u.needed) = omega arith in
    (some count (2 * (u.frames - 1)) (omega arith), pairs_within u n j (omega arith) less ∙ ap (λ (m : ℕ). get_or u.needed (j / 2 % m) (0, 0) ∷ []) (sym c))
  where
    some : (m k : ℕ) → 0 < k * m → 0 < m
    some zero k lt = absurd (omega arith)
    some (suc m) k lt = omega arith

pub one_item : (xs : List (ℕ × ℕ)) (i : ℕ) → i < length xs → take (i + 1 - i) (drop i xs) ≡ get_or xs i (0, 0) ∷ []
one_item xs i lt =
    let one : i + 1 - i ≡ 1 = omega arith in
    ap (λ (m : ℕ). take m (drop i xs)) one ∙ ap (take 1) (drop-cons xs i (0, 0) lt)

-- a class clause is one of the two of its pair
module _ (name : ℕ → ℕ → ℤ) where
  pair_in_frame : (t : ℕ) (needed : List (ℕ × ℕ)) (j : ℕ) → j < 2 * length needed
      → Contains needed (get_or needed (j / 2) (0, 0)) × Contains (equal_clauses name t (get_or needed (j / 2) (0, 0))) (get_or (flat_map (equal_clauses name t) needed) j [])
  pair_in_frame t [] j lt = absurd (omega arith)
  pair_in_frame t (p ∷ ps) zero lt = ((0, omega arith, refl), (0, omega arith, refl))
  pair_in_frame t (p ∷ ps) (suc zero) lt = ((0, omega arith, refl), (1, omega arith, refl))
  pair_in_frame t (p ∷ ps) (suc (suc j)) lt =
      let half : suc (j / 2) ≡ suc (suc j) / 2 = omega arith in
      let rest = pair_in_frame t ps j (omega arith) in
      let P : ℕ → Type 0 = λ (i : ℕ). Contains (p ∷ ps) (get_or (p ∷ ps) i (0, 0)) × Contains (equal_clauses name t (get_or (p ∷ ps) i (0, 0))) (get_or (flat_map (equal_clauses name t) ps) j []) in
      subst P half ((suc rest.0.0, omega (arith, rest.0.1), rest.0.2), rest.1)

  pair_in_frames : (needed : List (ℕ × ℕ)) (from k j : ℕ) → j < k * (2 * length needed)
      → Contains needed (get_or needed (j / 2 % length needed) (0, 0))
      × ((t : ℕ) × (t < from + k) × Contains (equal_clauses name t (get_or needed (j / 2 % length needed) (0, 0))) (get_or (flat_map (λ t. flat_map (equal_clauses name t) needed) (range_with_len from k)) j []))
  pair_in_frames needed from zero j lt = absurd (omega arith)
  pair_in_frames needed from (suc k) j lt =
      let one : List (List ℤ) = flat_map (equal_clauses name from) needed in
      let rest : List (List ℤ) = flat_map (λ t. flat_map (equal_clauses name t) needed) (range_with_len (from + 1) k) in
      let m : ℕ = length needed in
      let size : length one ≡ 2 * m = length_twice (equal_clauses name from) needed (λ p. refl) in
      let P : ℕ → List ℤ → Type 0 = λ (i : ℕ) (c : List ℤ). Contains needed (get_or needed i (0, 0)) × ((t : ℕ) × (t < from + suc k) × Contains (equal_clauses name t (get_or needed i (0, 0))) c) in
      ⊎_elim
      (λ (less : j < 2 * m).
      let half : j / 2 < m = omega arith in
      let here = pair_in_frame from needed j less in
      subst (λ (i : ℕ). P i (get_or (one ++ rest) j [])) (sym (mod-eq_of_lt half)) (subst (λ (c : List ℤ). P (j / 2) c) (sym (get_or_append_left one rest [] j (omega arith))) (here.0, (from, omega arith, here.1))))
      (λ (past : 2 * m ≤ j).
      let half : m + (j - 2 * m) / 2 ≡ j / 2 = omega arith in
      let same : (j - 2 * m) / 2 % m ≡ j / 2 % m = sym (add-mod_left m ((j - 2 * m) / 2)) ∙ ap (λ (i : ℕ). i % m) half in
      let later = pair_in_frames needed (from + 1) k (j - 2 * m) (omega arith) in
      subst (λ (i : ℕ). P i (get_or (one ++ rest) j [])) same (subst (λ (c : List ℤ). P ((j - 2 * m) / 2 % m) c) (sym (get_or-append_right one rest (2 * m) j [] size past)) (later.0, (later.1.0, omega (arith, later.1.1), later.1.2))))
      (cases_lt j (2 * m))

-- each clause is about its pair, or stands without any
pub each_about : (u : Unrolling) (n : ℕ) → n < length (clauses_of u) → IsAbout u (get_or (clauses_of u) n []) (pairs_of u (suc n))
each_about u n lt =
    let name = literal_in (places_of u.pair) in
    let own : List (List ℤ) = frames_of u in
    let classes : List (List ℤ) = class_clauses name (u.frames - 1) u.needed in
    let asked : List (List ℤ) = asked_clauses (places_of u.pair) (u.frames * places_of u.pair) u.asked in
    let a = length-append own classes in
    let b = length-append (plain_clauses u) asked in
    let c = length_classes name (u.frames - 1) u.needed in
    let none : List (List ℤ) = class_clauses name (u.frames - 1) [] in
    ⊎_elim
    (λ (first : n < length own).
    let is : get_or (clauses_of u) n [] ≡ get_or own n [] = get_or_append_left (plain_clauses u) asked [] n (omega arith) ∙ get_or_append_left own classes [] n first in
    subst (IsAbout u (get_or (clauses_of u) n [])) (sym (pairs_before u n first))
    (subst (Contains (clauses_of (without_pairs u))) (sym is) (Contains-append_left (own ++ none) asked (get_or own n []) (Contains-append_left own none (get_or own n []) (n, first, get_or_default own n (get_or own n []) [] first)))))
    (λ (past : length own ≤ n). ⊎_elim
    (λ (within : n < length (plain_clauses u)).
    let j : ℕ = n - length own in
    let less : j < (u.frames - 1) * (2 * length u.needed) = omega arith in
    let is : get_or (clauses_of u) n [] ≡ get_or classes j [] = get_or_append_left (plain_clauses u) asked [] n within ∙ get_or-append_right own classes (length own) n [] refl past in
    let found = pair_in_frames name u.needed 0 (u.frames - 1) j less in
    subst (IsAbout u (get_or (clauses_of u) n [])) (sym (pairs_within u n j (omega arith) less))
    (refl, found.0, (found.1.0, omega (arith, found.1.1), subst (Contains (equal_clauses name found.1.0 (get_or u.needed (j / 2 % length u.needed) (0, 0)))) (sym is) found.1.2)))
    (λ (last : length (plain_clauses u) ≤ n).
    let j : ℕ = n - length (plain_clauses u) in
    let is : get_or (clauses_of u) n [] ≡ get_or asked j [] = get_or-append_right (plain_clauses u) asked (length (plain_clauses u)) n [] refl last in
    subst (IsAbout u (get_or (clauses_of u) n [])) (sym (pairs_past u n last))
    (subst (Contains (clauses_of (without_pairs u))) (sym is) (Contains-append_right (own ++ none) asked (get_or asked j []) (j, omega arith, get_or_default asked j (get_or asked j []) [] (omega arith)))))
    (cases_lt n (length (plain_clauses u))))
    (cases_lt n (length own))
