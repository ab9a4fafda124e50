use Rattle.std.proofs.Common.{◌<◌, ◌*◌, ◌++◌, ℕ, List, sym, subst}
use Rattle.std.proofs.lemmas.List.Elements.{All-append}
use Rattle.std.specs.List.{All}
use Rattle.cnf_store.specs.Codes.{AreWithin}
use Rattle.sat_core.proofs.solving.solve_codes.Goals as goal

pub begin-s-requires-clause-within : goal.begin-s-requires-clause-within
begin-s-requires-clause-within c =
    let all : AreWithin c.args.vars (c.args.shared.now ++ c.args.own.now) = All-append (λ (cl : List ℕ). All (λ l. l < 2 * c.args.vars) cl) c.args.shared.now c.args.own.now c.requires.shared c.requires.own in
    subst (AreWithin c.args.vars) (sym c.in-Ok.ensures.first) all
