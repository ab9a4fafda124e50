use Rattle.std.proofs.Common.{slice_index, arith}
use Rattle.circ_model.specs.Meaning.{Pair, left_literal, right_literal}
use Rattle.circ_model.proofs.Outputs.{paired_agree}
use Rattle.circ_model.proofs.Rows.{left_literal_is, right_literal_is}
use Rattle.class_partition.specs.Classes.{Classes, AreOfGreatest}
use Rattle.sec_cli.proofs.checking.deeper_difference.Goals as goal

pub least_difference_beyond-requires-clause-hold : goal.least_difference_beyond-requires-clause-hold
least_difference_beyond-requires-clause-hold c =
    let pair : Pair = c.args.product.now in
    let classes : Classes = c.args.classes.now in
    let k = c.args.c.now.k in
    let sound = c.requires.sound in
    let of : AreOfGreatest pair k classes = c.requires.greatest in
    let same = sound.outputs in
    record {
      places = c.requires.partition.least_len;
      agree = λ t j lt paired run is short.
          paired_agree pair k j sound lt
          (of.reaches (left_literal pair (slice_index pair.left.outputs j)) (right_literal pair (slice_index pair.right.outputs j))
          (left_literal_is pair (slice_index pair.left.outputs j) sound (sound.left.all_defined.outputs j 0 lt))
          (right_literal_is pair (slice_index pair.right.outputs j) sound (sound.right.all_defined.outputs j 0 (omega arith))) paired)
          run is t short;
    }
