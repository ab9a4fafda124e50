use Rattle.std.proofs.Common.{◌≡◌, ◌∙◌, ◌<◌, ◌≤◌, ◌+◌, ℕ, Bool, List, [], ◌∷◌, ◌++◌, length, drop, ap, sym, append_assoc, arith}
use Rattle.std.specs.Prelude.{slice_index_or}
use Rattle.std.proofs.lemmas.List.{drop_more, drop_all}
use Rattle.trace_witness.specs.Texts.{bytes_of, frames_text}
use Rattle.trace_witness.proofs.write.push_frames.Goals as goal

-- one more row
frames_more : (rows : List (List Bool)) (t : ℕ) (row : List Bool) (front whole middle after : List ℕ) → t < length rows → row ≡ slice_index_or rows t []
    → front ++ frames_text (drop t rows) ≡ whole → middle ≡ front ++ bytes_of row → after ≡ middle ++ 10 ∷ [] → after ++ frames_text (drop (t + 1) rows) ≡ whole
unfolding frames_text
frames_more rows t row front whole middle after lt is e m f =
    let rest : List ℕ = frames_text (drop (t + 1) rows) in
    let d : drop t rows ≡ row ∷ drop (t + 1) rows = drop_more rows t [] lt ∙ ap (λ (r : List Bool). r ∷ drop (t + 1) rows) (sym is) in
    ap (λ (xs : List ℕ). xs ++ rest) (f ∙ ap (λ (xs : List ℕ). xs ++ 10 ∷ []) m) ∙ append_assoc (front ++ bytes_of row) (10 ∷ []) rest ∙ append_assoc front (bytes_of row) (10 ∷ rest)
    ∙ sym (ap (λ (rs : List (List Bool)). front ++ frames_text rs) d) ∙ e

-- all rows, and the line after them
frames_all : (rows : List (List Bool)) (t : ℕ) (front whole after : List ℕ) → length rows ≤ t → front ++ frames_text (drop t rows) ≡ whole → after ≡ front ++ 46 ∷ 10 ∷ [] → after ≡ whole
unfolding frames_text
frames_all rows t front whole after le e f = f ∙ sym (ap (λ (rs : List (List Bool)). front ++ frames_text rs) (drop_all t rows le)) ∙ e

pub loop-t-preserved : goal.loop-t-preserved
loop-t-preserved c = frames_more c.args.inputs.now c.loop-t.t _ _ _ _ _ (omega arith) c.row.ensures c.loop-t.invariant c.in_ok-push_bits.ensures c.in_ok-push.ensures.items

pub returns : goal.returns
returns c = frames_all c.args.inputs.now c.loop-t.t _ _ _ (omega arith) c.loop-t.invariant c.in_ok-extend_from_slice.ensures.items
