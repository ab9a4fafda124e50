use Rattle.std.proofs.Common.{arith, ◌≡◌, ◌≢◌, ◌≤◌, ◌<◌, ◌-◌, ◌*◌, ◌/◌, ◌++◌, ◌∷◌, [], ℕ, List, length, take, get_or, refl, sym, ◌∙◌, ap, subst, ◌⊎◌, append_assoc}
use Rattle.std.specs.List.{All, Any, Contains}
use Rattle.std.proofs.lemmas.List.{get_or_default, length-take-le, length_push}
use Rattle.std.proofs.lemmas.List.Elements.{All-push}
use Rattle.sat_log.specs.Derivations.{AllFollow, clauses_of}
use Rattle.sat_core.specs.Signed.{signed_clauses}
use Rattle.cnf_store.specs.Codes.{neg, AreWithin}
use Rattle.sat_core.specs.Derivations.{Follows}
use Rattle.sat_trail.specs.Trail.{IsPlaced, AreReasoned}
use Rattle.sat_trail.specs.Rank.{rank}
use Rattle.cnf_store.proofs.Lits.{neg_var}
use Rattle.sat_trail.proofs.Ranks.{rank_replace}
use Rattle.sat_core.proofs.Signing.{line_follows, line_logged}
use Rattle.sat_trail.proofs.Upkeep.{are_reasoned_db, are_reasoned_take, are_reasoned_push, freed}
use Rattle.sat_core.proofs.Concluding.{learned_small, learned_follows, second_le, cut_below, cut_start, learned_reasoned}
use Rattle.sat_core.proofs.solving.backjump.Goals as goal

pub top-second-requires : goal.top-second-requires
top-second-requires c =
    let s = c.args.s.now in let t = s.trail in
    let small = learned_small (length t.at.items) s.db t.lits.items t.at.items (get_or t.starts.items (c.args.level - 1) 0) c.args.limit c.args.first s.analysis.learned.items s.analysis.hints.items t.placed c.requires.learned c.requires.limit in
    record { within = subst (λ (xs : List ℕ). All (λ l. l < 2 * length t.at.items) xs) (sym c.deref.ensures.value) small }

pub keep_learned-requires-clause-literals : goal.keep_learned-requires-clause-literals
keep_learned-requires-clause-literals c =
    let s = c.args.s.now in let t = s.trail in
    let small = learned_small (length t.at.items) s.db t.lits.items t.at.items (get_or t.starts.items (c.args.level - 1) 0) c.args.limit c.args.first s.analysis.learned.items s.analysis.hints.items t.placed c.requires.learned c.requires.limit in
    λ k d lt. let w = small k d lt in omega (arith, t.few)

pub keep_learned-requires-clause-hints : goal.keep_learned-requires-clause-hints
keep_learned-requires-clause-hints c = λ k d lt. (c.requires.learned.known k d lt).0

pub back_to-requires : goal.back_to-requires
back_to-requires c =
    let s = c.args.s.now in let t = s.trail in
    let is = c.requires.learned in
    let start : ℕ = get_or t.starts.items (c.args.level - 1) 0 in
    let lit : c.complement-lit.result ≡ neg (get_or t.lits.items c.args.first 0) = c.complement-lit.ensures ∙ ap neg (c.index.ensures ∙ get_or_default t.lits.items c.args.first c.index.result.now 0 (omega (arith, is.below, c.requires.limit))) in
    let met = subst (λ (cl : List ℕ). (c.top-second.result ≡ 0) ⊎ Any (λ l. (l ≢ c.complement-lit.result) × (get_or t.at.items (l / 2) 0 ≡ c.top-second.result)) cl) c.deref.ensures.value c.top-second.ensures.met in
    let le = second_le (length t.at.items) s.db t.lits.items t.at.items start c.args.limit c.args.first s.analysis.learned.items s.analysis.hints.items c.complement-lit.result c.top-second.result t.placed is c.requires.limit lit met in
    let cut : ℕ = c.level_below-cut.result in
    let within : cut ≤ length t.starts.items = c.level_below-cut.ensures.within in
    let below : 0 < cut → get_or t.starts.items (cut - 1) 0 < c.top-second.result = c.level_below-cut.ensures.below in
    let lt = cut_below t.reasons.items t.starts.items c.args.level cut c.top-second.result t.levels c.requires.level.0 c.requires.level.1 within le below in
    omega (arith, lt, c.requires.level.1)

pub imply-requires-clause-free : goal.imply-requires-clause-free
imply-requires-clause-free c =
    let s = c.args.s.now in let t = s.trail in
    let is = c.requires.learned in
    let start : ℕ = get_or t.starts.items (c.args.level - 1) 0 in
    let lit : c.complement-lit.result ≡ neg (get_or t.lits.items c.args.first 0) = c.complement-lit.ensures ∙ ap neg (c.index.ensures ∙ get_or_default t.lits.items c.args.first c.index.result.now 0 (omega (arith, is.below, c.requires.limit))) in
    let met = subst (λ (cl : List ℕ). (c.top-second.result ≡ 0) ⊎ Any (λ l. (l ≢ c.complement-lit.result) × (get_or t.at.items (l / 2) 0 ≡ c.top-second.result)) cl) c.deref.ensures.value c.top-second.ensures.met in
    let le = second_le (length t.at.items) s.db t.lits.items t.at.items start c.args.limit c.args.first s.analysis.learned.items s.analysis.hints.items c.complement-lit.result c.top-second.result t.placed is c.requires.limit lit met in
    let cut : ℕ = c.level_below-cut.result in
    let within : cut ≤ length t.starts.items = c.level_below-cut.ensures.within in
    let below : 0 < cut → get_or t.starts.items (cut - 1) 0 < c.top-second.result = c.level_below-cut.ensures.below in
    let lt = cut_below t.reasons.items t.starts.items c.args.level cut c.top-second.result t.levels c.requires.level.0 c.requires.level.1 within le below in
    let at_start = cut_start t.reasons.items t.starts.items c.args.level cut t.levels lt c.requires.level.1 in
    let e = c.back_to.ensures in
    let now : List ℕ = c.back_to.new.self.at.items in
    let placed : IsPlaced (length t.at.items) (take (get_or t.starts.items cut 0) t.lits.items) now = subst (λ (xs : List ℕ). IsPlaced (length t.at.items) xs now) e.lits (subst (λ (n : ℕ). IsPlaced n c.back_to.new.self.lits.items now) e.size c.back_to.new.self.placed) in
    let f = freed (length t.at.items) t.lits.items t.at.items now (get_or t.starts.items cut 0) c.args.first t.placed placed (omega (arith, at_start, is.above)) (omega (arith, is.below, c.requires.limit)) in
    subst (λ (v : ℕ). get_or now v 0 ≡ 0) (sym (ap (λ (x : ℕ). x / 2) lit ∙ neg_var (get_or t.lits.items c.args.first 0))) f

pub returns : goal.returns
returns c =
    let s = c.args.s.now in let t = s.trail in
    let k = c.requires.keeps in
    let is = c.requires.learned in
    let vars : ℕ = length t.at.items in
    let start : ℕ = get_or t.starts.items (c.args.level - 1) 0 in
    let learned : List ℕ = s.analysis.learned.items in
    let second : ℕ = c.top-second.result in
    let lit : ℕ = c.complement-lit.result in
    let lit_is : lit ≡ neg (get_or t.lits.items c.args.first 0) = c.complement-lit.ensures ∙ ap neg (c.index.ensures ∙ get_or_default t.lits.items c.args.first c.index.result.now 0 (omega (arith, is.below, c.requires.limit))) in
    let met = subst (λ (cl : List ℕ). (second ≡ 0) ⊎ Any (λ l. (l ≢ lit) × (get_or t.at.items (l / 2) 0 ≡ second)) cl) c.deref.ensures.value c.top-second.ensures.met in
    let most = subst (λ (cl : List ℕ). (l : ℕ) → Contains cl l → (l ≡ lit) ⊎ (get_or t.at.items (l / 2) 0 ≤ second)) c.deref.ensures.value c.top-second.ensures.most in
    let le = second_le vars s.db t.lits.items t.at.items start c.args.limit c.args.first learned s.analysis.hints.items lit second t.placed is c.requires.limit lit_is met in
    let level : ℕ = c.level_below-cut.result in
    let within : level ≤ length t.starts.items = c.level_below-cut.ensures.within in
    let below : 0 < level → get_or t.starts.items (level - 1) 0 < second = c.level_below-cut.ensures.below in
    let above : level < length t.starts.items → second ≤ get_or t.starts.items level 0 = c.level_below-cut.ensures.above in
    let lt = cut_below t.reasons.items t.starts.items c.args.level level second t.levels c.requires.level.0 c.requires.level.1 within le below in
    let room : level < length t.starts.items = omega (arith, lt, c.requires.level.1) in
    let cut : ℕ = get_or t.starts.items level 0 in
    let opens = t.levels.each level room in
    let cut_le : cut ≤ length t.lits.items = omega (arith, opens.0, t.same) in
    let add = c.in_ok-keep_learned.ensures in
    let all_db : List (List ℕ) = s.db ++ learned ∷ [] in
    let number : ℕ = c.len.result in
    let n : number ≡ length all_db = c.len.ensures ∙ ap (λ (d : List (List ℕ)). length d) add.db in
    let new = learned_reasoned vars s.db t.lits.items t.at.items start c.args.limit c.args.first learned s.analysis.hints.items lit second cut number t.placed is c.requires.limit lit_is most (above room) cut_le n in
    let size = length_push s.db learned in
    let mid : List ℕ = take cut t.lits.items in
    let midr : List ℕ = take cut t.reasons.items in
    let len : length midr ≡ length mid = length-take-le cut t.reasons.items (omega (arith, opens.0)) ∙ sym (length-take-le cut t.lits.items cut_le) in
    let all = are_reasoned_push (s.db ++ learned ∷ []) mid midr lit number len (are_reasoned_take (s.db ++ learned ∷ []) t.lits.items t.reasons.items cut cut_le (are_reasoned_db s.db learned t.lits.items t.reasons.items k.reasoned)) (λ pos. new) in
    let e = c.imply.ensures in
    let b = c.back_to.ensures in
    let lits : c.imply.new.self.lits.items ≡ mid ++ lit ∷ [] = e.lits ∙ ap (λ (xs : List ℕ). xs ++ lit ∷ []) b.lits in
    let reasons : c.imply.new.self.reasons.items ≡ midr ++ number ∷ [] = e.reasons ∙ ap (λ (xs : List ℕ). xs ++ number ∷ []) b.reasons in
    let f = learned_follows vars s.db t.lits.items t.at.items start c.args.limit c.args.first learned s.analysis.hints.items t.placed is c.requires.limit in
    let g : Follows s.vars s.db learned s.analysis.hints.items = subst (λ (v : ℕ). Follows v s.db learned s.analysis.hints.items) k.size f in record {
      keeps = record {
        learned = k.learned ++ learned ∷ [];
        clauses = add.db ∙ ap (λ (d : List (List ℕ)). d ++ learned ∷ []) k.clauses ∙ append_assoc s.formula k.learned (learned ∷ []);
        logged = ap clauses_of add.log ∙ line_logged k.learned s.log learned s.analysis.hints.items k.logged;
        follow = subst (AllFollow s.vars (signed_clauses s.formula)) (sym add.log) (line_follows s.vars s.formula k.learned s.db s.log learned s.analysis.hints.items k.clauses k.logged k.follow g);
        within = subst (AreWithin s.vars) (sym add.db) (All-push (λ (cl : List ℕ). All (λ l. l < 2 * s.vars) cl) s.db learned k.within g.within);
        size = e.size ∙ b.size ∙ k.size;
        reasoned = subst (λ (d : List (List ℕ)). AreReasoned d c.imply.new.self.lits.items c.imply.new.self.reasons.items) (sym add.db)
            (subst (λ (xs : List ℕ). AreReasoned all_db xs c.imply.new.self.reasons.items) (sym lits) (subst (AreReasoned all_db (mid ++ lit ∷ [])) (sym reasons) all));
      };
      rank = subst (λ (xs : List ℕ). rank s.vars t.reasons.items < rank s.vars xs) (sym reasons)
          (rank_replace s.vars cut t.reasons.items number opens.0 (omega (arith, t.placed.count, k.size, opens.0, t.same)) opens.1 (omega arith));
      vars = refl;
      formula = refl;
    }
