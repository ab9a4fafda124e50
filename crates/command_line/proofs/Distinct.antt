-- Things with ids of their own: each is the one that is found by its id.
use Rattle.std.proofs.Common.{◌≡◌, ◌&&◌, ◌++◌, Bool, true, false, not, List, [], ◌∷◌, Some, find, subst, refl, bytes_eq}
use Rattle.std.specs.List.{list_all}
use Rattle.std.proofs.lemmas.Slice.Eq.{bytes_eq-Decides}
use Rattle.clap.specs.Walk.{Text}
use Rattle.clap.proofs.WalkLemmas.{both}
use Rattle.command_line.proofs.Rows.{Each}

-- ---- facts of each element

pub each_weaker : {X : Type 0} (P Q : X → Type 0) (xs : List X) → ((x : X) → P x → Q x) → Each P xs → Each Q xs
each_weaker P Q [] f h = tt
each_weaker P Q (x ∷ xs) f h = (f x h.0, each_weaker P Q xs f h.1)

pub each_both : {X : Type 0} (P Q : X → Type 0) (xs : List X) → Each P xs → Each Q xs → Each (λ x. P x × Q x) xs
each_both P Q [] a b = tt
each_both P Q (x ∷ xs) a b = ((a.0, b.0), each_both P Q xs a.1 b.1)

pub each_front : {X : Type 0} (P : X → Type 0) (xs ys : List X) → Each P (xs ++ ys) → Each P xs
each_front P [] ys h = tt
each_front P (x ∷ xs) ys h = (h.0, each_front P xs ys h.1)

pub each_back : {X : Type 0} (P : X → Type 0) (xs ys : List X) → Each P (xs ++ ys) → Each P ys
each_back P [] ys h = h
each_back P (x ∷ xs) ys h = each_back P xs ys h.1

pub each_passes : {X : Type 0} (p : X → Bool) (xs : List X) → list_all p xs ≡ true → Each (λ x. p x ≡ true) xs
each_passes p [] h = tt
each_passes p (x ∷ xs) h =
    let q = both (p x) (list_all p xs) h in
    (q.0, each_passes p xs q.1)

-- ---- ids of their own

none_of_them : (b : Bool) → not b ≡ true → b ≡ false
none_of_them true e = cc
none_of_them false e = refl

pub itself : (id : Text) → bytes_eq id id ≡ true
itself id = (bytes_eq-Decides id id).1 refl

pub other_way : (a b : Text) → bytes_eq a b ≡ false → bytes_eq b a ≡ false
other_way a b e = go (bytes_eq b a) refl
  where
    go : (d : Bool) → bytes_eq b a ≡ d → d ≡ false
    go true is =
        let bad : bytes_eq a a ≡ false = subst (λ (i : Text). bytes_eq a i ≡ false) ((bytes_eq-Decides b a).0 is) e in
        let good = itself a in
        cc
    go false is = refl

module _ {X : Type 0} (name : X → Text) where
  abbrev pub is_apart : Text → List X → Bool
  is_apart id xs = list_all (λ x. not (bytes_eq id (name x))) xs

  abbrev pub are_distinct : List X → Bool
  are_distinct [] = true
  are_distinct (x ∷ xs) = is_apart (name x) xs && are_distinct xs

  pub apart_of : (id : Text) (xs : List X) → is_apart id xs ≡ true → Each (λ x. bytes_eq id (name x) ≡ false) xs
  apart_of id xs h =
      each_weaker (λ x. not (bytes_eq id (name x)) ≡ true) (λ x. bytes_eq id (name x) ≡ false) xs (λ x e. none_of_them (bytes_eq id (name x)) e) (each_passes (λ x. not (bytes_eq id (name x))) xs h)

  pub found_by_id : (xs : List X) → are_distinct xs ≡ true → Each (λ x. find (λ y. bytes_eq (name y) (name x)) xs ≡ Some x) xs
  found_by_id [] h = tt
  found_by_id (x ∷ xs) h =
      let q = both (is_apart (name x) xs) (are_distinct xs) h in
      let later = each_both (λ y. bytes_eq (name x) (name y) ≡ false) (λ y. find (λ z. bytes_eq (name z) (name y)) xs ≡ Some y) xs (apart_of (name x) xs q.0) (found_by_id xs q.1) in
      let first = itself (name x) in
      (rw first refl, each_weaker _ (λ y. find (λ z. bytes_eq (name z) (name y)) (x ∷ xs) ≡ Some y) xs (λ y e. let miss = e.0 in rw miss e.1) later)
