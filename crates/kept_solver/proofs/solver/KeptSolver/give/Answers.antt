use Rattle.std.proofs.Common.{arith}
use Rattle.kept_solver.proofs.solver.KeptSolver.give.Goals as goal

pub give-requires : goal.give-requires
give-requires c = record { literals = λ k d lt. let most = c.most_of.ensures k d lt in let room = c.in_ok-make_room.ensures.room in omega arith }
