use Rattle.std.proofs.Common.{[], ap}
use Rattle.implied_clauses.specs.Implied.{Store}
use Rattle.implied_clauses.proofs.implied.Implied.clear.Goals as goal

pub returns : goal.returns
returns c = rw (c.cut.ensures, c.clear.ensures.items) (ap (λ (s : Store). record { codes = s.codes; given = []; clauses = [] }) c.self.view_is)
