use Rattle.std.proofs.Common.{◌<◌, ◌/◌, ◌∙◌, ℕ, List, true, ap, set, subst, sym, arith, take, get_or, length}
use Rattle.std.proofs.lemmas.List.{get_or_default, take_more}
use Rattle.used_pairs.specs.Logs.{AddsMembers}
use Rattle.used_pairs.proofs.Bits.{adds_more}
use Rattle.used_pairs.proofs.members.mark_members.Goals as goal

pub loop-i-preserved : goal.loop-i-preserved
loop-i-preserved c =
    let pairs : List (ℕ × ℕ) = c.args.pairs.now in
    let i : ℕ = c.loop-i.i in
    let lt : i < length pairs = omega arith in
    let w = c.requires.within i (0, 0) lt in
    subst (λ (ps : List (ℕ × ℕ)). AddsMembers ps c.args.bits.now c.set.new.self) (sym (take_more pairs i (0, 0) lt))
    (adds_more (get_or pairs i (0, 0)) (take i pairs) c.args.bits.now c.loop-i.bits c.set.new.self w c.loop-i.invariant (c.set.ensures ∙ ap (λ (m : ℕ). set c.loop-i.bits m true) (c.var.ensures ∙ ap (λ (q : ℕ × ℕ). q.1 / 2) (get_or_default pairs i c.index-pairs-i.result (0, 0) lt))))
