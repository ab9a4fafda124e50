use Rattle.std.proofs.Common.{◌≡◌, ◌∙◌, ◌≤◌, ℕ, List, length, take, ap, sym, subst, arith}
use Rattle.std.proofs.lemmas.List.{length-take-le}
use Rattle.cnf_store.specs.Arena.{Rises, start_at}
use Rattle.cnf_store.proofs.Cutting.{length_pieces, rises_cut, pieces_kept, start_le}
use Rattle.cnf_store.proofs.arena.Arena.cut.Goals as goal

pub start-to-requires : goal.start-to-requires
start-to-requires g c = omega (arith, length_pieces c.self.inside.row.items 0 c.self.inside.ends.items, ap length c.self.view_is, ap length c.as_slice.ensures.value)

pub invariant_of-self : goal.invariant_of-self
invariant_of-self g c =
    let row = c.self.inside.row.items in let ends = c.self.inside.ends.items in
    let le : c.args.n ≤ length ends = omega (arith, length_pieces row 0 ends, ap length c.self.view_is) in
    let to = c.start-to.ensures ∙ ap (λ (es : List ℕ). start_at 0 es c.args.n) c.as_slice.ensures.value in
    let room = start_le c.args.n 0 (length row) ends c.self.invariant le in
    let len : c.start-to.result ≡ length c.truncate-2.new.self.items = sym (ap length c.truncate-2.ensures.items ∙ length-take-le c.start-to.result row (omega arith)) in
    subst (λ (es : List ℕ). Rises 0 es (length c.truncate-2.new.self.items)) (sym c.truncate.ensures.items)
    (subst (λ (k : ℕ). Rises 0 (take c.args.n ends) k) (sym to ∙ len) (rises_cut c.args.n 0 (length row) ends c.self.invariant le))

pub returns : goal.returns
returns g c =
    let row = c.self.inside.row.items in let ends = c.self.inside.ends.items in
    let le : c.args.n ≤ length ends = omega (arith, length_pieces row 0 ends, ap length c.self.view_is) in
    let to = c.start-to.ensures ∙ ap (λ (es : List ℕ). start_at 0 es c.args.n) c.as_slice.ensures.value in
    pieces_kept row c.truncate-2.new.self.items ends c.truncate.new.self.items c.start-to.result c.args.n c.truncate-2.ensures.items c.truncate.ensures.items to le c.self.invariant
    ∙ ap (take c.args.n) c.self.view_is
