use Rattle.std.proofs.Common.{◌≡◌, ◌∙◌, ◌≤◌, ◌<◌, ℕ, zero, suc, ◌+◌, List, [], ◌∷◌, ◌++◌, length, take, drop, get_or, refl, ap, ap₂, sym, subst, arith}
use Rattle.std.specs.Prelude.{slice_range}
use Rattle.std.proofs.lemmas.List.{take-append-drop, length-take-le}
use Rattle.std.proofs.lemmas.Grind.{common_steps}
use Rattle.cnf_store.specs.Arena.{pieces, Rises, start_at}

-- a piece that ends within the row stays where the row grows
same_piece : {X : Type 0} (row more : List X) (a b : ℕ) → a ≤ b → b ≤ length row → slice_range (row ++ more) a b ≡ slice_range row a b
same_piece row more a b ab le = grind (arith, common_steps)

last_piece : {X : Type 0} (row more : List X) (a : ℕ) → a ≡ length row → slice_range (row ++ more) a (length row + length more) ≡ more
last_piece row more a e = grind (arith, common_steps)

pub pieces_more : {X : Type 0} (row more : List X) (from n : ℕ) (ends : List ℕ) → n ≡ length row + length more → Rises from ends (length row) → pieces (row ++ more) from (ends ++ n ∷ []) ≡ pieces row from ends ++ more ∷ []
pieces_more {X = X} row more from n [] e h = ap (λ (p : List X). p ∷ []) (subst (λ (k : ℕ). slice_range (row ++ more) from k ≡ more) (sym e) (last_piece row more from h))
pieces_more {X = X} row more from n (x ∷ ends) e h = ap₂ (λ (p : List X) (ps : List (List X)). p ∷ ps) (same_piece row more from x h.0 h.1) (pieces_more row more x n ends e h.2)

pub rises_more : (from len n : ℕ) (ends : List ℕ) → len ≤ n → Rises from ends len → Rises from (ends ++ n ∷ []) n
rises_more from len n [] le h = (omega arith, omega arith, refl)
rises_more from len n (x ∷ ends) le h = (h.0, omega (arith, h.1), rises_more x len n ends le h.2)

pub length_pieces : {X : Type 0} (row : List X) (from : ℕ) (ends : List ℕ) → length (pieces row from ends) ≡ length ends
length_pieces row from [] = refl
length_pieces row from (x ∷ ends) = let h = length_pieces row x ends in omega arith

-- piece i lies between its start and its end
pub record PieceAt {X : Type 0} (row : List X) (from len : ℕ) (ends : List ℕ) (i : ℕ) : Type 0 where
  pub order : start_at from ends i ≤ get_or ends i 0
  pub within : get_or ends i 0 ≤ len
  pub is : get_or (pieces row from ends) i [] ≡ slice_range row (start_at from ends i) (get_or ends i 0)

pub piece_at : {X : Type 0} (row : List X) (from len : ℕ) (ends : List ℕ) (i : ℕ) → Rises from ends len → i < length ends → PieceAt row from len ends i
piece_at row from len [] i h lt = absurd (omega arith)
piece_at row from len (e ∷ ends) zero h lt = record { order = h.0; within = h.1; is = refl }
piece_at row from len (e ∷ ends) (suc zero) h lt = let p = piece_at row e len ends zero h.2 (omega arith) in record { order = p.order; within = p.within; is = p.is }
piece_at row from len (e ∷ ends) (suc (suc i)) h lt = let p = piece_at row e len ends (suc i) h.2 (omega arith) in record { order = p.order; within = p.within; is = p.is }

-- the first pieces
rises_le : (from : ℕ) (ends : List ℕ) (len : ℕ) → Rises from ends len → from ≤ len
rises_le from [] len h = omega arith
rises_le from (e ∷ ends) len h = let r = rises_le e ends len h.2 in omega (arith, h.0)

pub rises_cut : (n from len : ℕ) (ends : List ℕ) → Rises from ends len → n ≤ length ends → Rises from (take n ends) (start_at from ends n)
rises_cut zero from len ends h le = refl
rises_cut (suc n) from len [] h le = absurd (omega arith)
rises_cut (suc zero) from len (e ∷ ends) h le = (h.0, omega arith, refl)
rises_cut (suc (suc n)) from len (e ∷ ends) h le = let r = rises_cut (suc n) e len ends h.2 (omega arith) in (h.0, rises_le e (take (suc n) ends) (get_or ends n 0) r, r)

pub start_le : (n from len : ℕ) (ends : List ℕ) → Rises from ends len → n ≤ length ends → start_at from ends n ≤ len
start_le zero from len ends h le = rises_le from ends len h
start_le (suc n) from len [] h le = absurd (omega arith)
start_le (suc zero) from len (e ∷ ends) h le = h.1
start_le (suc (suc n)) from len (e ∷ ends) h le = start_le (suc n) e len ends h.2 (omega arith)

same_cut : {X : Type 0} (row : List X) (to a b : ℕ) → a ≤ b → b ≤ to → to ≤ length row → slice_range (take to row) a b ≡ slice_range row a b
same_cut {X = X} row to a b ab le within =
    sym (same_piece (take to row) (drop to row) a b ab (omega (arith, length-take-le to row within))) ∙ ap (λ (r : List X). slice_range r a b) (take-append-drop to row)

pieces_front : {X : Type 0} (row : List X) (from to : ℕ) (ends : List ℕ) → to ≤ length row → Rises from ends to → pieces (take to row) from ends ≡ pieces row from ends
pieces_front {X = X} row from to [] within h = refl
pieces_front {X = X} row from to (e ∷ ends) within h = ap₂ (λ (p : List X) (ps : List (List X)). p ∷ ps) (same_cut row to from e h.0 h.1 within) (pieces_front row e to ends within h.2)

take_pieces : {X : Type 0} (row : List X) (from n : ℕ) (ends : List ℕ) → take n (pieces row from ends) ≡ pieces row from (take n ends)
take_pieces {X = X} row from zero ends = refl
take_pieces {X = X} row from (suc n) [] = refl
take_pieces {X = X} row from (suc n) (e ∷ ends) = ap (λ (ps : List (List X)). slice_range row from e ∷ ps) (take_pieces row e n ends)

pub pieces_cut : {X : Type 0} (row : List X) (from to n : ℕ) (ends : List ℕ) → to ≤ length row → Rises from (take n ends) to → pieces (take to row) from (take n ends) ≡ take n (pieces row from ends)
pieces_cut row from to n ends within h = pieces_front row from to (take n ends) within h ∙ sym (take_pieces row from n ends)

-- the same for a row and ends that are equal to these
pub pieces_added : {X : Type 0} (row more now : List X) (ends after : List ℕ) (n : ℕ) → now ≡ row ++ more → after ≡ ends ++ n ∷ [] → n ≡ length row + length more → Rises 0 ends (length row)
    → pieces now 0 after ≡ pieces row 0 ends ++ more ∷ []
pieces_added {X = X} row more now ends after n r e len h = ap₂ (λ (rs : List X) (es : List ℕ). pieces rs 0 es) r e ∙ pieces_more row more 0 n ends len h

pub pieces_kept : {X : Type 0} (row now : List X) (ends after : List ℕ) (to n : ℕ) → now ≡ take to row → after ≡ take n ends → to ≡ start_at 0 ends n → n ≤ length ends → Rises 0 ends (length row)
    → pieces now 0 after ≡ take n (pieces row 0 ends)
pieces_kept {X = X} row now ends after to n r e t le h =
    let room = start_le n 0 (length row) ends h le in
    ap₂ (λ (rs : List X) (es : List ℕ). pieces rs 0 es) r e
    ∙ pieces_cut row 0 to n ends (omega arith) (subst (λ (k : ℕ). Rises 0 (take n ends) k) (sym t) (rises_cut n 0 (length row) ends h le))

-- where piece i begins and ends
pub piece_is : {X : Type 0} (row : List X) (ends : List ℕ) (i from : ℕ) → Rises 0 ends (length row) → i < length ends → from ≡ start_at 0 ends i
    → slice_range row from (get_or ends i 0) ≡ get_or (pieces row 0 ends) i []
piece_is row ends i from h lt e = let p = piece_at row 0 (length row) ends i h lt in ap (λ (k : ℕ). slice_range row k (get_or ends i 0)) e ∙ sym p.is
