use Rattle.std.proofs.Common.{◌≡◌, ◌∙◌, ℕ, ap, sym, subst}
use Rattle.circ_model.specs.Meaning.{places_of}
use Rattle.circ_model.specs.Runs.{phases, quiet_run}
use Rattle.circ_model.proofs.Rows.{length_row}
use Rattle.class_partition.specs.Classes.{Classes, ArePartition, one_class}
use Rattle.verdict_stamp.specs.Versions.{IsVersion}
use Rattle.verdict_stamp.proofs.Beginning.{first_is}
use Rattle.verdict_stamp.proofs.version.Version.first.Goals as goal

pub invariant_of-result : goal.invariant_of-result
invariant_of-result c =
    let pair = c.args.product.now in
    let one : c.in_ok-partition.partition ≡ one_class (phases pair) = c.in_ok-partition.ensures.one ∙ ap one_class c.in_ok-phases.ensures in
    let is : ArePartition c.len-places.result (one_class (phases pair)) = subst (ArePartition c.len-places.result) one c.len-places.ensures.partition in
    let n : c.len-places.result ≡ places_of pair = sym is.phase_len ∙ length_row pair (quiet_run pair 1) 0 in
    let partition : ArePartition (places_of pair) (one_class (phases pair)) = subst (λ (m : ℕ). ArePartition m (one_class (phases pair))) n is in
    subst (λ (cs : Classes). IsVersion (record { pair = pair; k = c.args.k; classes = cs; number = 0 })) (sym one) (first_is pair c.args.k c.requires.some c.requires.few partition)
