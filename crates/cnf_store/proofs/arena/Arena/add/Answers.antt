use Rattle.std.proofs.Common.{rules, arith, ◌≡◌, ◌∙◌, ◌++◌, ◌∷◌, [], ◌+◌, ℕ, List, length, ap, sym, subst, length-append}
use Rattle.cnf_store.specs.Arena.{Rises}
use Rattle.cnf_store.proofs.Cutting.{pieces_added, rises_more}
use Rattle.cnf_store.proofs.arena.Arena.add.Goals as goal

pub invariant_of-self-2 : goal.invariant_of-self-2
invariant_of-self-2 g c =
    let s = c.self.inside in
    let row = c.in_ok-extend_from_slice.ensures.items in
    let ends = c.push_reserved.ensures.items ∙ ap (λ (es : List ℕ). es ++ c.len.result ∷ []) c.in_ok-reserve.ensures.items in
    let n : c.len.result ≡ length c.extend_from_slice.new.self.items = search rules in
    let le : length s.row.items + length c.args.items.now ≡ c.len.result = omega (arith, n, ap length row, length-append s.row.items c.args.items.now) in
    subst (λ (es : List ℕ). Rises 0 es (length c.extend_from_slice.new.self.items)) (sym ends)
    (subst (λ (k : ℕ). Rises 0 (s.ends.items ++ c.len.result ∷ []) k) n (rises_more 0 (length s.row.items) c.len.result s.ends.items (omega arith) c.self.invariant))

pub returns-clause-ok : goal.returns-clause-ok
returns-clause-ok g c =
    let s = c.self.inside in
    let row = c.in_ok-extend_from_slice.ensures.items in
    let ends = c.push_reserved.ensures.items ∙ ap (λ (es : List ℕ). es ++ c.len.result ∷ []) c.in_ok-reserve.ensures.items in
    let n : c.len.result ≡ length c.extend_from_slice.new.self.items = search rules in
    let le : c.len.result ≡ length s.row.items + length c.args.items.now = omega (arith, n, ap length row, length-append s.row.items c.args.items.now) in
    pieces_added s.row.items c.args.items.now c.extend_from_slice.new.self.items s.ends.items c.push_reserved.new.self.items c.len.result row ends le c.self.invariant
    ∙ ap (λ cs. cs ++ c.args.items.now ∷ []) c.self.view_is
