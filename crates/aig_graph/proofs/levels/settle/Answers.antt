use Rattle.std.proofs.Common.{◌≡◌, ◌++◌, ◌∷◌, [], refl, ap, ◌∙◌}
use Rattle.aig_graph.proofs.Walks.{first_met}
use Rattle.aig_graph.proofs.levels.settle.Goals as goal

pub turns-init : goal.turns-init
turns-init c =
    let one : c.push.new.self.items ≡ c.args.number ∷ [] = c.in_ok-push.ensures.items ∙ ap (λ s. s ++ c.args.number ∷ []) c.requires.empty in
    let m = first_met c.args.defs.now c.args.gates.now c.args.level.now c.push.new.self.items c.args.number c.gate_of.result.var c.gate_of.result c.requires.index c.requires.between c.requires.number c.gate_of.ensures refl c.if-level-var-lt-ON_WAY.false one in
    record { walk = m.0; keeps = m.1; met = m.2 }
