use Rattle.std.proofs.Common.{arith, ap, length, subst}
use Rattle.sat_log.specs.Lines.{AreLines}
use Rattle.sat_log.proofs.Rows.{length_lines}
use Rattle.sat_log.proofs.log.Log.len.Goals as goal

pub returns-clause-value : goal.returns-clause-value
returns-clause-value c =
    let s = c.self.inside in
    omega (arith, length_lines s.clauses s.hints c.self.invariant.same, ap length c.self.view_is, c.len.ensures)

pub returns-clause-lines : goal.returns-clause-lines
returns-clause-lines c = subst AreLines c.self.view_is c.self.invariant.lines
