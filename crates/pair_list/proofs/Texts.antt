-- What a text begins with, line by line.
use Rattle.std.proofs.Common.{◌≡◌, ◌∙◌, ℕ, ◌<◌, List, [], ◌∷◌, ◌++◌, length, length-append, append_assoc, refl, sym, ap, subst, arith}
use Rattle.std.proofs.lemmas.List.Elements.{All-nil, All-push}
use Rattle.pair_list.specs.Lists.{AreNames, line_of, text_of}
use Rattle.pair_list.specs.Readings.{Begins}

-- the text of one more pair
pub text_more : (ps : List (List ℕ × List ℕ)) (p : List ℕ × List ℕ) (more : List ℕ) → text_of (ps ++ p ∷ []) ++ more ≡ text_of ps ++ (line_of p ++ 10 ∷ more)
text_more [] p more = append_assoc (line_of p) (10 ∷ []) more
text_more (q ∷ ps) p more =
    append_assoc (line_of q) (10 ∷ text_of (ps ++ p ∷ [])) more
    ∙ ap (λ (xs : List ℕ). line_of q ++ 10 ∷ xs) (text_more ps p more)
    ∙ sym (append_assoc (line_of q) (10 ∷ text_of ps) (line_of p ++ 10 ∷ more))

pub begins_none : (bytes : List ℕ) → Begins bytes [] bytes
begins_none bytes = record { names = All-nil AreNames; few = omega arith; text = refl }

pub begins_more : (bytes rest line more : List ℕ) (ps : List (List ℕ × List ℕ)) (p : List ℕ × List ℕ) → Begins bytes ps rest → length ps < 10000 → rest ≡ line ++ 10 ∷ more → AreNames p → line ≡ line_of p → Begins bytes (ps ++ p ∷ []) more
begins_more bytes rest line more ps p begins few cut names is =
    let whole : rest ≡ line_of p ++ 10 ∷ more = subst (λ (l : List ℕ). rest ≡ l ++ 10 ∷ more) is cut in
    record {
      names = All-push AreNames ps p begins.names names;
      few = omega (arith, length-append ps (p ∷ []));
      text = begins.text ∙ ap (λ (xs : List ℕ). text_of ps ++ xs) whole ∙ sym (text_more ps p more);
    }

pub begins_same : (bytes rest rest' : List ℕ) (ps : List (List ℕ × List ℕ)) → Begins bytes ps rest → rest ≡ rest' → Begins bytes ps rest'
begins_same bytes rest rest' ps begins same = subst (Begins bytes ps) same begins
