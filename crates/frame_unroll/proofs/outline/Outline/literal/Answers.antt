use Rattle.std.proofs.Common.{◌∙◌, ◌≤◌, ◌+◌, ◌*◌, ap, arith, rules, subst, sym, FitsSigned, w32}
use Rattle.std.proofs.lemmas.Int.{to_z-of_z}
use Rattle.circ_model.specs.Meaning.{places_of}
use Rattle.cnf_store.specs.Clauses.{IsLiteral}
use Rattle.frame_unroll.specs.Unrolled.{Unrolling}
use Rattle.frame_unroll.proofs.Standing.{frame_fits}
use Rattle.frame_unroll.proofs.outline.Outline.literal.Goals as goal

pub returns-clause-is : goal.returns-clause-is
returns-clause-is c =
    let u = c.args.self.now in
    let n = c.len-places.ensures.places ∙ ap (λ (v : Unrolling). places_of v.pair) c.self.view_is in
    let fits : c.args.frame * c.len-places.result + c.len-places.result ≤ u.frames * places_of u.pair = frame_fits c.args.frame u.frames c.len-places.result (places_of u.pair) (u.frames * places_of u.pair) n c.requires.within (omega arith) in
    let f : FitsSigned w32 c.literal.result = search rules in
    subst (IsLiteral (u.frames * places_of u.pair)) (sym (to_z-of_z w32 c.literal.result f)) (c.literal.ensures.some, omega (arith, c.literal.ensures.within, fits))
