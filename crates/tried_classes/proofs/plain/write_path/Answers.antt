use Rattle.std.proofs.Common.{◌≡◌, ◌∙◌, ◌==◌, ◌+◌, ℕ, List, Bool, length, ap, ap₂, sym, arith}
use Rattle.std.specs.Int.{bit_at}
use Rattle.circ_model.specs.Meaning.{row, next_state, inputs_at}
use Rattle.tried_classes.specs.Plain.{numbered_path}
use Rattle.tried_classes.proofs.Trying.{start_is, first_inputs_are, second_inputs_are, first_row_is, second_row_is}
use Rattle.tried_classes.proofs.plain.write_path.Goals as goal

pub returns-clause-start : goal.returns-clause-start
returns-clause-start c = start_is c.args.product.now c.args.number c.write_bits.new.row (c.write_bits.ensures.size ∙ c.requires.size.start_size) (λ k lt. c.write_bits.ensures.bits k (omega (arith, lt, c.requires.size.start_size)))

inputs_first : (c : goal.After-eval-2) → c.write_bits-2.new.row ≡ inputs_at (numbered_path c.args.product.now c.args.number) 0
inputs_first c = first_inputs_are c.args.product.now c.args.number c.write_bits-2.new.row (c.write_bits-2.ensures.size ∙ c.requires.size.input_size)
    (λ k lt. c.write_bits-2.ensures.bits k (omega (arith, lt, c.requires.size.input_size)) ∙ ap (λ (l : ℕ). bit_at c.args.number (l + k) == 1) c.latches-latches.ensures)

inputs_second : (c : goal.After-eval-2) → c.write_bits-3.new.row ≡ inputs_at (numbered_path c.args.product.now c.args.number) 1
inputs_second c =
    let size : length c.write_bits-2.new.row ≡ length c.args.product.now.left.inputs = c.write_bits-2.ensures.size ∙ c.requires.size.input_size in
    second_inputs_are c.args.product.now c.args.number c.write_bits-3.new.row (c.write_bits-3.ensures.size ∙ size)
    (λ k lt. c.write_bits-3.ensures.bits k (omega (arith, lt, size)) ∙ ap₂ (λ (l i : ℕ). bit_at c.args.number (l + i + k) == 1) c.latches-latches.ensures c.inputs.ensures)

state_next : (c : goal.After-eval-2) → c.next_state.new.state ≡ next_state c.args.product.now c.write_bits.new.row c.write_bits-2.new.row
state_next c =
    let inputs : List Bool = c.write_bits-2.new.row in
    c.next_state.ensures.next inputs (record { state_length = ap length c.copy_from.ensures ∙ c.write_bits.ensures.size ∙ c.requires.size.start_size; input_length = c.write_bits-2.ensures.size ∙ c.requires.size.input_size }) (c.eval.ensures ∙ ap (λ (s : List Bool). row c.args.product.now s inputs) (sym c.copy_from.ensures))
    ∙ ap (λ (s : List Bool). next_state c.args.product.now s inputs) c.copy_from.ensures

pub returns-clause-first : goal.returns-clause-first
returns-clause-first c = c.eval.ensures ∙ first_row_is c.args.product.now (numbered_path c.args.product.now c.args.number) c.write_bits.new.row c.write_bits-2.new.row (returns-clause-start c) (inputs_first c)

pub returns-clause-second : goal.returns-clause-second
returns-clause-second c =
    c.eval-2.ensures ∙ second_row_is c.args.product.now (numbered_path c.args.product.now c.args.number) c.write_bits.new.row c.write_bits-2.new.row c.next_state.new.state c.write_bits-3.new.row (returns-clause-start c) (inputs_first c) (state_next c) (inputs_second c)
