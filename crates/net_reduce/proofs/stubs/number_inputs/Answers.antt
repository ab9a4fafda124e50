use Rattle.std.proofs.Common.{◌∙◌, ◌+◌, ◌++◌, ◌∷◌, [], ℕ, List, ap, sym, append_assoc}
use Rattle.std.specs.List.{range_with_len}
use Rattle.circ_model.specs.Netlist.{Netlist}
use Rattle.net_reduce.proofs.Numbering.{numbers_more}
use Rattle.net_reduce.proofs.stubs.number_inputs.Goals as goal

pub loop-i-preserved : goal.loop-i-preserved
loop-i-preserved c =
    let first : Netlist = c.args.builder.now in
    let i : ℕ = c.loop-i.i in
    c.in_ok-push_input.ensures ∙ ap (λ (b : Netlist). record b { inputs = b.inputs ++ (1 + i) ∷ [] }) c.loop-i.invariant
    ∙ ap (λ (is : List ℕ). record first { inputs = is }) (append_assoc first.inputs (range_with_len 1 i) ((1 + i) ∷ []) ∙ ap (λ (is : List ℕ). first.inputs ++ is) (sym (numbers_more 1 i)))
