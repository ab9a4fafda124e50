use Rattle.std.proofs.Common.{◌∙◌, sym, ap, Some, List, ℕ, get_or, []}
use Rattle.std.proofs.lemmas.List.{get_or_default}
use Rattle.sec_base.proofs.Names.{first_at, missing_at, file_first, file_missing}
use Rattle.sec_base.proofs.files.Files.get.Goals as goal

pub returns-in_default : goal.returns-in_default
returns-in_default c = sym (file_missing c.args.self.now c.args.name.now (missing_at _ _ (sym c.place_of.ensures ∙ c.in_default.is)))

pub returns : goal.returns
returns c =
    let place = c.in-Some.place in
    let first = first_at c.args.self.now c.args.name.now place (sym c.place_of.ensures ∙ c.in-Some.is) in
    let file = c.index.ensures ∙ ap (λ files. get_or files place c.index.result.now) c.self.view_is ∙ get_or_default c.args.self.now place c.index.result.now ([], []) first.within in
    ap Some (c.deref.ensures.value ∙ ap (λ (f : List ℕ × List ℕ). f.1) (c.behind-self.view_is ∙ file)) ∙ sym (file_first c.args.self.now c.args.name.now place first)
