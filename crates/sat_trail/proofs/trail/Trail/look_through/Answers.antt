use Rattle.std.proofs.Common.{arith, ◌≡◌, ◌≢◌, ℕ, List, [], length, get_or, sym, ◌∙◌, ap, subst, ◌⊎◌, inl, inr, ⊎_elim}
use Rattle.std.proofs.lemmas.List.{get_or_default}
use Rattle.std.proofs.lemmas.Bool.{cases_eq}
use Rattle.sat_trail.specs.Trail.{IsWrong}
use Rattle.sat_trail.specs.Looking.{IsTrueIn, IsOpenIn}
use Rattle.sat_trail.proofs.Seeing.{at_next}
use Rattle.sat_trail.proofs.trail.Trail.look_through.Goals as goal
use Rattle.sat_trail.proofs.trail.Trail.look_through.Goals.{in-Holds, in-Open}

pub returns-in-Wrong : goal.returns-in-Wrong
returns-in-Wrong c =
    let lits : List ℕ = c.args.self.now.lits.items in (
      omega arith,
      omega arith,
      subst (IsWrong lits (length lits)) (c.get.ensures ∙ at_next c.args.db.now c.loop-i.i) c.in-Wrong.ensures,
    )

pub loop-i-preserved : goal.loop-i-preserved
loop-i-preserved c =
    let P : List ℕ → Type 0 = λ xs. IsTrueIn c.args.self.now.lits.items xs ⊎ IsOpenIn c.args.self.now.at.items xs in
    let here : P c.get.result.now = elim c.match-inspect.branch [ in-Holds w ↦ inl w.in-Holds.ensures | in-Open w ↦ inr w.in-Open.ensures ] in
    λ k lt. ⊎_elim (λ (e : k ≡ c.loop-i.i). subst P (c.get.ensures ∙ ap (λ (n : ℕ). get_or c.args.db.now n []) (sym e)) here) (λ (ne : k ≢ c.loop-i.i). c.loop-i.invariant k (omega arith)) (cases_eq k c.loop-i.i)

pub returns : goal.returns
returns c = λ k d lt. subst (λ (xs : List ℕ). IsTrueIn c.args.self.now.lits.items xs ⊎ IsOpenIn c.args.self.now.at.items xs) (get_or_default c.args.db.now k [] d lt) (c.loop-i.invariant k (omega arith))
