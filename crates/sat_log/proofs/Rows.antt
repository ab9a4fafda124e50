-- Lines made of two rows.
use Rattle.std.proofs.Common.{◌≡◌, ◌<◌, ℕ, zero, suc, ℤ, List, [], ◌∷◌, ◌++◌, length, get_or, arith, sym, ◌∙◌, ap, subst, refl, length-append}
use Rattle.std.specs.List.{All}
use Rattle.std.proofs.lemmas.List.Elements.{All-push}
use Rattle.cnf_store.specs.Clauses.{AreLiterals}
use Rattle.sat_log.specs.Derivations.{Line, line_at}
use Rattle.sat_log.specs.Lines.{lines_of, IsLine, AreLines, AreRows}

pub length_lines : (cs : List (List ℤ)) (hs : List (List ℕ)) → length cs ≡ length hs → length (lines_of cs hs) ≡ length cs
length_lines [] hs e = refl
length_lines (c ∷ cs) [] e = absurd (omega arith)
length_lines (c ∷ cs) (h ∷ hs) e = ap suc (length_lines cs hs (omega arith))

pub lines_push : (cs : List (List ℤ)) (hs : List (List ℕ)) (c : List ℤ) (h : List ℕ) → length cs ≡ length hs
    → lines_of (cs ++ c ∷ []) (hs ++ h ∷ []) ≡ lines_of cs hs ++ record { literals = c; hints = h } ∷ []
lines_push [] [] c h e = refl
lines_push [] (x ∷ hs) c h e = absurd (omega arith)
lines_push (x ∷ cs) [] c h e = absurd (omega arith)
lines_push (x ∷ cs) (y ∷ hs) c h e = ap (λ (ls : List Line). record { literals = x; hints = y } ∷ ls) (lines_push cs hs c h (omega arith))

pub literals_at : (cs : List (List ℤ)) (hs : List (List ℕ)) (i : ℕ) → length cs ≡ length hs → (line_at (lines_of cs hs) i).literals ≡ get_or cs i []
literals_at [] hs i e = refl
literals_at (c ∷ cs) [] i e = absurd (omega arith)
literals_at (c ∷ cs) (h ∷ hs) zero e = refl
literals_at (c ∷ cs) (h ∷ hs) (suc i) e = literals_at cs hs i (omega arith)

pub hints_at : (cs : List (List ℤ)) (hs : List (List ℕ)) (i : ℕ) → length cs ≡ length hs → (line_at (lines_of cs hs) i).hints ≡ get_or hs i []
hints_at [] [] i e = refl
hints_at [] (h ∷ hs) i e = absurd (omega arith)
hints_at (c ∷ cs) [] i e = absurd (omega arith)
hints_at (c ∷ cs) (h ∷ hs) zero e = refl
hints_at (c ∷ cs) (h ∷ hs) (suc i) e = hints_at cs hs i (omega arith)

pub rows_push : (cs ds : List (List ℤ)) (hs gs : List (List ℕ)) (c : List ℤ) (h : List ℕ) → AreRows cs hs → ds ≡ cs ++ c ∷ [] → gs ≡ hs ++ h ∷ []
    → AreLiterals 2147483647 c → All (λ n. 0 < n) h → AreRows ds gs
rows_push cs ds hs gs c h rows e f within given =
    subst (λ (xs : List (List ℤ)). AreRows xs gs) (sym e) (subst (λ (ys : List (List ℕ)). AreRows (cs ++ c ∷ []) ys) (sym f) (record {
      same = omega (arith, rows.same, length-append cs (c ∷ []), length-append hs (h ∷ []));
      lines = subst AreLines (sym (lines_push cs hs c h rows.same)) (All-push IsLine (lines_of cs hs) (record { literals = c; hints = h }) rows.lines (record { literals = within; hints = given }));
    }))

pub lines_added : (cs ds : List (List ℤ)) (hs gs : List (List ℕ)) (c : List ℤ) (h : List ℕ) → AreRows cs hs → ds ≡ cs ++ c ∷ [] → gs ≡ hs ++ h ∷ []
    → lines_of ds gs ≡ lines_of cs hs ++ record { literals = c; hints = h } ∷ []
lines_added cs ds hs gs c h rows e f =
    ap (λ (xs : List (List ℤ)). lines_of xs gs) e ∙ ap (λ (ys : List (List ℕ)). lines_of (cs ++ c ∷ []) ys) f ∙ lines_push cs hs c h rows.same

-- what a line of a log may hold
pub line_is : (lines : List Line) (i : ℕ) → AreLines lines → i < length lines → IsLine (line_at lines i)
line_is lines i all lt = all i (record { literals = []; hints = [] }) lt
