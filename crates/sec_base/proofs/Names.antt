-- Files by name: where one stands, and what a change of one leaves.
use Rattle.std.specs.Prelude.{◌≡◌, ◌≢◌, ℕ, suc, zero, ◌<◌, Bool, true, false, List, [], ◌∷◌, ◌++◌, length, slice_set, bytes_eq, None, Some, cond}
use Rattle.std.specs.List.{position}
use Rattle.std.proofs.Common.{refl, ap, ◌∙◌, sym, arith, get_or}
use Rattle.std.proofs.lemmas.Bool.{ltb-false, false_from_ne_true}
use Rattle.std.proofs.lemmas.List.Quantifiers.{position-Some}
use Rattle.std.proofs.lemmas.List.Sums.{fails_before_first}
use Rattle.std.proofs.lemmas.Slice.Eq.{bytes_eq-Decides}
use Rattle.sec_base.specs.Files.{file_in, with_file}

-- the file at this place is the first of that name
pub record First (files : List (List ℕ × List ℕ)) (name : List ℕ) (place : ℕ) : Type 0 where
  pub within : place < length files
  pub named : bytes_eq (get_or files place ([], [])).0 name ≡ true
  pub others : (k : ℕ) → k < place → bytes_eq (get_or files k ([], [])).0 name ≡ false

-- no file has that name
pub record Missing (files : List (List ℕ × List ℕ)) (name : List ℕ) : Type 0 where
  pub others : (k : ℕ) → k < length files → bytes_eq (get_or files k ([], [])).0 name ≡ false

first_next : (file : List ℕ × List ℕ) (files : List (List ℕ × List ℕ)) (name : List ℕ) (place : ℕ) → First (file ∷ files) name (suc place) → First files name place
first_next file files name place f = record { within = omega (arith, f.within); named = f.named; others = λ k lt. f.others (suc k) (omega arith) }

missing_next : (file : List ℕ × List ℕ) (files : List (List ℕ × List ℕ)) (name : List ℕ) → Missing (file ∷ files) name → Missing files name
missing_next file files name m = record { others = λ k lt. m.others (suc k) (omega arith) }

pub first_at : (files : List (List ℕ × List ℕ)) (name : List ℕ) (place : ℕ) → position (λ f. bytes_eq f.0 name) files ≡ Some place → First files name place
first_at files name place e =
    let (within, named, others) = position-Some (λ f. bytes_eq f.0 name) files place ([], []) e in record { within = within; named = named; others = others }

none_before : (b : Bool) (n : ℕ) → cond b (Some n) None ≡ None → b ≡ false
none_before true n e = cc
none_before false n e = refl

pub missing_at : (files : List (List ℕ × List ℕ)) (name : List ℕ) → position (λ f. bytes_eq f.0 name) files ≡ None → Missing files name
missing_at files name e =
    let past = none_before _ _ e in
    record { others = λ k lt. fails_before_first (λ f. bytes_eq f.0 name) files k ([], []) (omega (arith, lt, ltb-false _ _ past)) }

pub file_first : (files : List (List ℕ × List ℕ)) (name : List ℕ) (place : ℕ) → First files name place → file_in files name ≡ Some (get_or files place ([], [])).1
file_first [] name place f = absurd (omega (arith, f.within))
file_first (file ∷ files) name zero f = rw f.named refl
file_first (file ∷ files) name (suc place) f = let no = f.others 0 (omega arith) in rw no (file_first files name place (first_next file files name place f))

pub file_missing : (files : List (List ℕ × List ℕ)) (name : List ℕ) → Missing files name → file_in files name ≡ None
file_missing [] name m = refl
file_missing (file ∷ files) name m = let no = m.others 0 (omega arith) in rw no (file_missing files name (missing_next file files name m))

put_first : (files : List (List ℕ × List ℕ)) (name bytes : List ℕ) (place : ℕ) → First files name place → slice_set files place (name, bytes) ≡ with_file files name bytes
put_first [] name bytes place f = absurd (omega (arith, f.within))
put_first (file ∷ files) name bytes zero f = rw f.named refl
put_first (file ∷ files) name bytes (suc place) f =
    let no = f.others 0 (omega arith) in rw no (ap (λ fs. file ∷ fs) (put_first files name bytes place (first_next file files name place f)))

put_missing : (files : List (List ℕ × List ℕ)) (name bytes : List ℕ) → Missing files name → files ++ (name, bytes) ∷ [] ≡ with_file files name bytes
put_missing [] name bytes m = refl
put_missing (file ∷ files) name bytes m =
    let no = m.others 0 (omega arith) in rw no (ap (λ fs. file ∷ fs) (put_missing files name bytes (missing_next file files name m)))

-- a write where the name stands
pub put_found : (items files : List (List ℕ × List ℕ)) (n name b bytes : List ℕ) (place : ℕ) → items ≡ files → n ≡ name → b ≡ bytes
    → position (λ f. bytes_eq f.0 name) files ≡ Some place → slice_set items place (n, b) ≡ with_file files name bytes
put_found items files n name b bytes place i e f at = rw (i, e, f) (put_first files name bytes place (first_at files name place at))

-- and at the end, where no file has it
pub put_new : (items files : List (List ℕ × List ℕ)) (n name b bytes : List ℕ) → items ≡ files → n ≡ name → b ≡ bytes
    → position (λ f. bytes_eq f.0 name) files ≡ None → items ++ (n, b) ∷ [] ≡ with_file files name bytes
put_new items files n name b bytes i e f at = rw (i, e, f) (put_missing files name bytes (missing_at files name at))

same_name : (name : List ℕ) → bytes_eq name name ≡ true
same_name name = (bytes_eq-Decides name name).1 refl

other_name : (name other : List ℕ) → other ≢ name → bytes_eq name other ≡ false
other_name name other apart = false_from_ne_true (bytes_eq name other) (λ e. apart (sym ((bytes_eq-Decides name other).0 e)))

-- the file is there
pub file_put : (files : List (List ℕ × List ℕ)) (name bytes : List ℕ) → file_in (with_file files name bytes) name ≡ Some bytes
file_put [] name bytes = rw (same_name name) refl
file_put (file ∷ files) name bytes = by_case (file_put files name bytes) (bytes_eq file.0 name) refl
  where
    by_case : file_in (with_file files name bytes) name ≡ Some bytes → (b : Bool) → bytes_eq file.0 name ≡ b
        → file_in (with_file (file ∷ files) name bytes) name ≡ Some bytes
    by_case before true e = rw e (rw (same_name name) refl)
    by_case before false e = rw e (rw e before)

-- and the others stay
pub other_file : (files : List (List ℕ × List ℕ)) (name bytes other : List ℕ) → other ≢ name → file_in (with_file files name bytes) other ≡ file_in files other
other_file [] name bytes other apart = rw (other_name name other apart) refl
other_file (file ∷ files) name bytes other apart = by_case (other_file files name bytes other apart) (bytes_eq file.0 name) refl (bytes_eq file.0 other) refl
  where
    by_case : file_in (with_file files name bytes) other ≡ file_in files other → (b : Bool) → bytes_eq file.0 name ≡ b → (d : Bool) → bytes_eq file.0 other ≡ d
        → file_in (with_file (file ∷ files) name bytes) other ≡ file_in (file ∷ files) other
    by_case before true e d f =
        let away = other_name name other apart in
        let is : file.0 ≡ name = (bytes_eq-Decides file.0 name).0 e in
        let gone : bytes_eq file.0 other ≡ false = ap (λ n. bytes_eq n other) is ∙ away in
        rw (e, gone) (rw away refl)
    by_case before false e true f = rw e (rw f refl)
    by_case before false e false f = rw e (rw f before)
