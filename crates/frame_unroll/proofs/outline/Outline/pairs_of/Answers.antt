use Rattle.std.proofs.Common.{◌≡◌, ◌∙◌, ◌*◌, ◌-◌, ◌/◌, ◌%◌, ℕ, List, [], ◌∷◌, get_or, inl, inr, ap, length, sym, arith}
use Rattle.std.proofs.Math.Nat.{mod-lt}
use Rattle.frame_unroll.specs.Pairs.{pairs_of}
use Rattle.frame_unroll.specs.Ready.{unrolling}
use Rattle.frame_unroll.specs.Unrolled.{Unrolling, plain_clauses}
use Rattle.frame_unroll.proofs.Pairs.{room_for, none_there, one_there, one_item}
use Rattle.frame_unroll.proofs.outline.Outline.pairs_of.Goals as goal
use Rattle.frame_unroll.proofs.outline.Outline.pairs_of.Goals.{then-clause-first-via-then-clause-first, then-clause-first-via-else-clause-first+then-clause-plain}

-- how many clauses there are without a question
plain_is : (u v : Unrolling) (plain : ℕ) → v ≡ u → plain ≡ length (plain_clauses u) → plain ≡ length (plain_clauses v)
plain_is u v plain e h = h ∙ sym (ap (λ (w : Unrolling). length (plain_clauses w)) e)

pub overflow_sub-first-2 : goal.overflow_sub-first-2
overflow_sub-first-2 c =
    let v : Unrolling = unrolling c.self.inside.product.now c.self.inside.reset c.self.inside.count c.self.inside.pairs.items c.self.inside.question in
    room_for v (length c.as_slice-pairs.result.now) c.args.plain (plain_is c.args.self.now v c.args.plain c.self.view_is c.requires) (ap length c.as_slice-pairs.ensures.value)

pub overflow_mul-first-2 : goal.overflow_mul-first-2
overflow_mul-first-2 c =
    let v : Unrolling = unrolling c.self.inside.product.now c.self.inside.reset c.self.inside.count c.self.inside.pairs.items c.self.inside.question in
    let room = room_for v (length c.as_slice-pairs.result.now) c.args.plain (plain_is c.args.self.now v c.args.plain c.self.view_is c.requires) (ap length c.as_slice-pairs.ensures.value) in
    omega arith

pub returns-then-clause-first : goal.returns-then-clause-first
returns-then-clause-first c =
    let v : Unrolling = unrolling c.self.inside.product.now c.self.inside.reset c.self.inside.count c.self.inside.pairs.items c.self.inside.question in
    let plain = plain_is c.args.self.now v c.args.plain c.self.view_is c.requires in
    let none = none_there v (length c.as_slice-pairs.result.now) c.args.plain c.args.clause plain (ap length c.as_slice-pairs.ensures.value) in
    let back : pairs_of v c.args.clause ≡ pairs_of c.args.self.now c.args.clause = ap (λ (w : Unrolling). pairs_of w c.args.clause) c.self.view_is in
    elim c.then-clause-first.branch [
      | then-clause-first-via-then-clause-first w ↦ sym (none (inl w.if-clause-first.true)) ∙ back
      | then-clause-first-via-else-clause-first+then-clause-plain w ↦ sym (none (inr w.if-clause-plain.true)) ∙ back
    ]

pub returns : goal.returns
returns c =
    let v : Unrolling = unrolling c.self.inside.product.now c.self.inside.reset c.self.inside.count c.self.inside.pairs.items c.self.inside.question in
    let count : ℕ = length c.as_slice-pairs.result.now in
    let at : ℕ = (c.args.clause - (c.args.plain - 2 * (c.self.inside.count - 1) * count) - 1) / 2 in
    let plain = plain_is c.args.self.now v c.args.plain c.self.view_is c.requires in
    let one = one_there v count c.args.plain c.args.clause plain (ap length c.as_slice-pairs.ensures.value) c.if-clause-first.false c.if-clause-plain.false in
    one_item c.as_slice-pairs.result.now (at % count) (mod-lt at one.0)
    ∙ ap (λ (xs : List (ℕ × ℕ)). get_or xs (at % count) (0, 0) ∷ []) c.as_slice-pairs.ensures.value
    ∙ sym one.1 ∙ ap (λ (w : Unrolling). pairs_of w c.args.clause) c.self.view_is
