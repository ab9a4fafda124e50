use Rattle.std.proofs.Common.{◌≡◌, ◌∙◌, ◌<◌, ◌+◌, ◌++◌, ◌∷◌, [], ℕ, List, length, take, map, get_or, sym, ap, subst, arith}
use Rattle.std.specs.List.{All}
use Rattle.std.proofs.lemmas.List.{map_more}
use Rattle.std.proofs.lemmas.List.Elements.{All-push}
use Rattle.log_trim.specs.Trimming.{new_number}
use Rattle.log_trim.proofs.trimming.renumber.Goals as goal

-- one more hint with its new number
one_more : (given : ℕ) (before hints : List ℕ) (at x : ℕ) (old now : List ℕ) → at < length hints → old ≡ map (new_number given before) (take at hints) → x ≡ new_number given before (get_or hints at 0) → now ≡ old ++ x ∷ []
    → now ≡ map (new_number given before) (take (at + 1) hints)
one_more given before hints at x old now lt is new pushed =
    pushed ∙ ap (λ (ys : List ℕ). ys ++ x ∷ []) is ∙ ap (λ (y : ℕ). map (new_number given before) (take at hints) ++ y ∷ []) new ∙ sym (map_more (new_number given before) hints at 0 lt)

pub loop-hint-preserved : goal.loop-hint-preserved
loop-hint-preserved c =
    let lt : c.loop-hint.hint-index < length c.args.hints.now = omega arith in
    record {
      value = one_more c.args.given c.args.before.now c.args.hints.now c.loop-hint.hint-index c.new_number.result c.loop-hint.into.items c.push.new.self.items lt c.loop-hint.invariant.value c.new_number.ensures.value c.in_ok-push.ensures.items;
      given = subst (λ (ys : List ℕ). All (λ h. 0 < h) ys) (sym c.in_ok-push.ensures.items) (All-push (λ h. 0 < h) c.loop-hint.into.items c.new_number.result c.loop-hint.invariant.given c.new_number.ensures.first);
    }
