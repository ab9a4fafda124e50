use Rattle.std.proofs.Common.{◌≡◌, ◌<◌, ◌++◌, ◌∷◌, [], ℕ, List, Bool, false, arith, length, length-append, refl, sym, subst}
use Rattle.std.specs.List.{All}
use Rattle.std.proofs.lemmas.List.Elements.{All-push}
use Rattle.implied_clauses.specs.Implied.{AreSteps, IsDerived, Store, chosen}
use Rattle.implied_clauses.specs.declared.implied.Step.{Step}
use Rattle.implied_clauses.proofs.Marks.{derived}
use Rattle.implied_clauses.proofs.Stores.{chosen_other, other_implied}
use Rattle.implied_clauses.proofs.implied.Implied.derive.Goals as goal

pub invariant_of-self-in_err-reserve : goal.invariant_of-self-in_err-reserve
invariant_of-self-in_err-reserve c = rw (c.make.ensures.marks, c.reserve.ensures.items) c.self.invariant

pub invariant_of-self-in_err-add : goal.invariant_of-self-in_err-add
invariant_of-self-in_err-add c = rw (c.make.ensures.marks, c.reserve.ensures.items, c.in_err-add.ensures.err) c.self.invariant

pub invariant_of-self-2 : goal.invariant_of-self-2
invariant_of-self-2 c =
    let n : ℕ = length c.self.inside.marks.items in
    let cs : List (List ℕ) = c.self.inside.clauses in
    let bs : List Bool = c.self.inside.given.items in
    let made : List ℕ = c.make.new.clause.items in
    let steps : List Step = c.args.steps.now in
    let first : c.args.first < length cs = subst (λ (s : Store). c.args.first < length s.clauses) (sym c.self.view_is) c.requires.first in
    let are : AreSteps n (length cs) steps = subst (λ (s : Store). AreSteps s.codes (length s.clauses) steps) (sym c.self.view_is) c.requires.steps in
    let is = derived n (chosen bs cs) cs c.args.first steps made c.self.invariant.2 c.self.invariant.3 first are c.in_ok-make.ensures.made in
    let size : length (bs ++ false ∷ []) ≡ length (cs ++ made ∷ []) = omega (arith, c.self.invariant.1, length-append bs (false ∷ []), length-append cs (made ∷ [])) in
    rw (c.make.ensures.marks, c.push_reserved.ensures.items, c.reserve.ensures.items, c.in_ok-add.ensures.ok, c.as_slice.ensures.value)
    (c.self.invariant.0, size, All-push (λ (x : List ℕ). All (λ (l : ℕ). l < n) x) cs made c.self.invariant.2 is.0, other_implied bs cs made c.self.invariant.1 c.self.invariant.3 is.1, c.self.invariant.4)

pub returns-clause-ok : goal.returns-clause-ok
returns-clause-ok c =
    let n : ℕ = length c.self.inside.marks.items in
    let cs : List (List ℕ) = c.self.inside.clauses in
    let bs : List Bool = c.self.inside.given.items in
    let made : List ℕ = c.make.new.clause.items in
    let after : Store = record { codes = n; given = chosen (bs ++ false ∷ []) (cs ++ made ∷ []); clauses = cs ++ made ∷ [] } in
    rw (c.make.ensures.marks, c.push_reserved.ensures.items, c.reserve.ensures.items, c.in_ok-add.ensures.ok, c.as_slice.ensures.value)
    (subst (λ (s : Store). IsDerived s after c.args.first c.args.steps.now) c.self.view_is
    (record { codes = refl; given = chosen_other bs cs made c.self.invariant.1; clause = made; clauses = refl; literals = c.in_ok-make.ensures.made }))
