use Rattle.std.proofs.Common.{ℕ, length, subst, sym, arith}
use Rattle.std.specs.List.{All}
use Rattle.circ_model.specs.Meaning.{places_of}
use Rattle.class_partition.specs.Classes.{ArePartition}
use Rattle.frame_unroll.specs.Members.{member_pairs}
use Rattle.frame_unroll.proofs.Members.{members_within}
use Rattle.frame_unroll.proofs.Questions.{AreWithin}
use Rattle.frame_unroll.proofs.outline.Outline.step_frames.Goals as goal

pub invariant_of-result : goal.invariant_of-result
invariant_of-result c =
    let is : ArePartition (length c.args.classes.now.least) c.args.classes.now = subst (λ (m : ℕ). ArePartition m c.args.classes.now) c.len-places.ensures.places c.len-places.ensures.partition in
    record {
      pair = c.cells-cells.ensures.pair;
      fine = record {
        frames = omega arith;
        needed = subst (All (AreWithin (places_of c.args.product.now))) (sym c.in_ok-pairs.ensures)
            (subst (λ (m : ℕ). All (AreWithin m) (member_pairs (length c.args.classes.now.least) c.args.classes.now)) c.requires.places (members_within (length c.args.classes.now.least) c.args.classes.now is));
        asked = tt;
      };
      few = omega (arith, c.requires.few);
    }
