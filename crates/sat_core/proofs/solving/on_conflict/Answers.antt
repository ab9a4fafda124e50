use Rattle.std.proofs.Common.{arith, ◌≡◌, ◌≢◌, ◌≤◌, ◌<◌, ◌-◌, ◌/◌, ℕ, List, length, get_or, ◌∙◌, subst, ◌⊎◌}
use Rattle.std.specs.List.{Any, Contains}
use Rattle.cnf_store.specs.Codes.{clause_at}
use Rattle.std.proofs.lemmas.List.{get_or_default}
use Rattle.sat_core.proofs.Concluding.{wrong_below, top_stands, from_le}
use Rattle.sat_core.proofs.solving.on_conflict.Goals as goal

pub refute-requires-clause-wrong : goal.refute-requires-clause-wrong
refute-requires-clause-wrong c =
    let s = c.args.s.now in let t = s.trail in
    let clause : List ℕ = clause_at s.db c.args.conflict in
    let most = subst (λ (cl : List ℕ). (l : ℕ) → Contains cl l → (l ≡ 4294967295) ⊎ (get_or t.at.items (l / 2) 0 ≤ c.top-from.result)) c.get.ensures c.top-from.ensures.most in
    wrong_below (length t.at.items) t.lits.items t.at.items clause c.top-from.result t.placed t.few most c.requires.wrong

pub learn-requires-clause-conflict : goal.learn-requires-clause-conflict
learn-requires-clause-conflict c =
    let s = c.args.s.now in let t = s.trail in
    let clause : List ℕ = clause_at s.db c.args.conflict in
    let most = subst (λ (cl : List ℕ). (l : ℕ) → Contains cl l → (l ≡ 4294967295) ⊎ (get_or t.at.items (l / 2) 0 ≤ c.top-from.result)) c.get.ensures c.top-from.ensures.most in
    let met = subst (λ (cl : List ℕ). (c.top-from.result ≡ 0) ⊎ Any (λ l. (l ≢ 4294967295) × (get_or t.at.items (l / 2) 0 ≡ c.top-from.result)) cl) c.get.ensures c.top-from.ensures.met in
    record {
      within = from_le (length t.at.items) t.lits.items t.at.items clause c.top-from.result t.placed met;
      known = c.requires.conflict;
      wrong = wrong_below (length t.at.items) t.lits.items t.at.items clause c.top-from.result t.placed t.few most c.requires.wrong;
    }

pub learn-requires-clause-top : goal.learn-requires-clause-top
learn-requires-clause-top c =
    let s = c.args.s.now in let t = s.trail in
    let clause : List ℕ = clause_at s.db c.args.conflict in
    let met = subst (λ (cl : List ℕ). (c.top-from.result ≡ 0) ⊎ Any (λ l. (l ≢ 4294967295) × (get_or t.at.items (l / 2) 0 ≡ c.top-from.result)) cl) c.get.ensures c.top-from.ensures.met in
    let level : ℕ = c.level_below-level.result in
    let pos : 0 < level = omega (arith, c.if-level-eq0.false) in
    let below : get_or t.starts.items (level - 1) 0 < c.top-from.result = c.level_below-level.ensures.below pos in
    let within : level ≤ length t.starts.items = c.level_below-level.ensures.within in
    let start : c.index-start.result.now ≡ get_or t.starts.items (level - 1) 0 = c.index-start.ensures ∙ get_or_default t.starts.items (level - 1) c.index-start.result.now 0 (omega arith) in
    top_stands (length t.at.items) t.lits.items t.at.items clause c.top-from.result c.index-start.result.now t.placed (omega arith) met c.requires.wrong
