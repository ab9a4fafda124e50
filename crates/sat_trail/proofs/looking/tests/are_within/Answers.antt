use Rattle.std.proofs.Common.{arith, ◌<◌, ◌*◌, ℕ, List, [], length, subst}
use Rattle.std.specs.List.{All}
use Rattle.std.proofs.lemmas.List.{get_or_default}
use Rattle.sat_trail.proofs.looking.tests.are_within.Goals as goal

pub returns : goal.returns
returns c = λ yes k d lt. subst (λ (xs : List ℕ). All (λ x. x < 2 * length c.args.trail.now.at.items) xs) (get_or_default c.args.db.now k [] d lt) (c.loop-i.invariant k (omega arith))
