use Rattle.std.proofs.Common.{◌≡◌, ◌∙◌, ◌<◌, ◌++◌, ◌∷◌, [], ℕ, List, Bool, true, ap, arith, length, length-append, sym, subst}
use Rattle.std.specs.List.{All}
use Rattle.std.proofs.lemmas.List.Elements.{All-push}
use Rattle.implied_clauses.specs.Implied.{Store}
use Rattle.implied_clauses.proofs.Stores.{chosen_given, given_implied}
use Rattle.implied_clauses.proofs.implied.Implied.give.Goals as goal

pub invariant_of-self : goal.invariant_of-self
invariant_of-self c = rw c.reserve.ensures.items c.self.invariant

pub invariant_of-self-in_err-add : goal.invariant_of-self-in_err-add
invariant_of-self-in_err-add c = rw (c.reserve.ensures.items, c.in_err-add.ensures.err) c.self.invariant

pub invariant_of-self-2 : goal.invariant_of-self-2
invariant_of-self-2 c =
    let n : ℕ = length c.self.inside.marks.items in
    let cs : List (List ℕ) = c.self.inside.clauses in
    let bs : List Bool = c.self.inside.given.items in
    let clause : List ℕ = c.args.clause.now in
    let within : All (λ (l : ℕ). l < n) clause = subst (λ (s : Store). All (λ (l : ℕ). l < s.codes) clause) (sym c.self.view_is) c.requires.literals in
    let size : length (bs ++ true ∷ []) ≡ length (cs ++ clause ∷ []) = omega (arith, c.self.invariant.1, length-append bs (true ∷ []), length-append cs (clause ∷ [])) in
    rw (c.push_reserved.ensures.items, c.reserve.ensures.items, c.in_ok-add.ensures.ok)
    (c.self.invariant.0, size, All-push (λ (x : List ℕ). All (λ (l : ℕ). l < n) x) cs clause c.self.invariant.2 within, given_implied bs cs clause c.self.invariant.1 c.self.invariant.3, c.self.invariant.4)

pub returns-clause-ok : goal.returns-clause-ok
returns-clause-ok c =
    let n : ℕ = length c.self.inside.marks.items in
    let cs : List (List ℕ) = c.self.inside.clauses in
    let bs : List Bool = c.self.inside.given.items in
    let clause : List ℕ = c.args.clause.now in
    rw (c.push_reserved.ensures.items, c.reserve.ensures.items, c.in_ok-add.ensures.ok)
    (ap (λ (gs : List (List ℕ)). record { codes = n; given = gs; clauses = cs ++ clause ∷ [] }) (chosen_given bs cs clause c.self.invariant.1)
    ∙ ap (λ (s : Store). record { codes = s.codes; given = s.given ++ clause ∷ []; clauses = s.clauses ++ clause ∷ [] }) c.self.view_is)
