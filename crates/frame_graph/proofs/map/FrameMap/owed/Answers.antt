use Rattle.std.proofs.Common.{◌∙◌, ◌<◌, ◌+◌, ◌/◌, ℕ, List, length, get_or, ap, sym, subst, arith}
use Rattle.std.proofs.lemmas.List.{get_or_default}
use Rattle.frame_graph.specs.Frames.{frame_of}
use Rattle.frame_graph.specs.Maps.{Mapping}
use Rattle.frame_graph.proofs.Mapped.{owed_index, owed_read}
use Rattle.frame_graph.proofs.map.FrameMap.owed.Goals as goal

pub returns-clause-within : goal.returns-clause-within
returns-clause-within c =
    let m : Mapping = c.args.self.now in
    let site = c.frame_at-site.result in
    let at = site.begin + c.args.place in
    let index = owed_index m (frame_of site) c.args.frame c.args.place site.begin c.requires.frame c.requires.place c.requires.before c.frame_at-site.ensures site.begins in
    let below = index.1 in
    let within = c.requires.within.at at below in
    let size = c.own_literal_again.ensures.on.size in
    let here = c.index.ensures ∙ ap (λ (xs : List ℕ). get_or xs at c.index.result.now) (ap (λ (x : Mapping). x.literals) c.self.view_is) ∙ sym (get_or_default m.literals at 0 c.index.result.now below) in
    (subst (λ (x : ℕ). x / 2 < length c.own_literal_again.new.graph) (sym here) (omega arith), c.in_ok-own.ensures.within)

pub returns-clause-owed : goal.returns-clause-owed
returns-clause-owed c classes is =
    let site = c.frame_at-site.result in
    owed_read c.args.graph.now c.own_literal_again.new.graph c.args.self.now classes (frame_of site) c.as_slice.result.now c.self.inside.literals.items c.args.frame c.args.place site.begin c.index.result.now c.in_ok-own.own
    c.own_literal_again.ensures.on c.requires.frame c.requires.place c.requires.before c.frame_at-site.ensures site.begins (ap (λ (x : Mapping). x.literals) c.self.view_is) c.as_slice.ensures.value c.index.ensures c.in_ok-own.ensures.value is
