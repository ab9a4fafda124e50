use Rattle.leaf_rows.proofs.Frames.{frame_rows, split_rows}
use Rattle.leaf_rows.proofs.Rows.{only_row}
use Rattle.leaf_rows.proofs.laws.rows_by_leaves.Goals as goal

pub returns-clause-only : goal.returns-clause-only
returns-clause-only c = only_row

pub returns-clause-frames : goal.returns-clause-frames
returns-clause-frames c = frame_rows

pub returns-clause-split : goal.returns-clause-split
returns-clause-split c = split_rows
