use Rattle.std.proofs.Common.{◌≡◌, ◌<◌, ℕ, List, length, Contains, ⊎_elim, arith}
use Rattle.circ_model.specs.Meaning.{Pair, outputs_of}
use Rattle.class_partition.specs.Classes.{Classes}
use Rattle.class_partition.specs.Laws.{PairOutput}
use Rattle.pair_pool.specs.Unpaired.{AreLeftOut}
use Rattle.sec_cli.proofs.checking.answer_by.Goals as goal

-- where none is left out all are paired
all_paired : (pair : Pair) (classes : Classes) (u : List ℕ) → AreLeftOut pair classes (outputs_of pair) u → length u ≡ 0 → (j : ℕ) → j < outputs_of pair → PairOutput pair classes j
all_paired pair classes u out none j lt = ⊎_elim (λ (h : Contains u j). let (i, less, e) = h in absurd (omega (arith, less, none))) (λ (paired : PairOutput pair classes j). paired) (out.others j lt)

pub equivalent-requires-clause-paired : goal.equivalent-requires-clause-paired
equivalent-requires-clause-paired c = all_paired c.args.product.now c.args.classes.now c.in_ok-outputs.outputs.items c.in_ok-outputs.ensures (grind (arith, c.is_empty.ensures, c.if-is_empty.true))
