use Rattle.frame_graph.proofs.ReadPaths.{each_path_is_read}
use Rattle.frame_graph.proofs.laws.each_path_is_read.Goals as goal

pub returns : goal.returns
returns c = each_path_is_read
