use Rattle.std.proofs.Common.{◌<◌, ℕ, List, subst, arith}
use Rattle.std.specs.List.{All}
use Rattle.std.proofs.lemmas.List.{take_all}
use Rattle.std.proofs.lemmas.List.Elements.{All-more}
use Rattle.cert_lemmas.proofs.lines.are_numbers.Goals as goal

pub loop-hint-preserved : goal.loop-hint-preserved
loop-hint-preserved c = All-more (λ h. 0 < h) c.args.hints.now c.loop-hint.hint-index 0 (omega arith) c.loop-hint.invariant c.if-not-is_number.ensures

pub returns : goal.returns
returns c = subst (λ (xs : List ℕ). All (λ h. 0 < h) xs) (take_all c.loop-hint.hint-index c.args.hints.now (omega arith)) c.loop-hint.invariant
