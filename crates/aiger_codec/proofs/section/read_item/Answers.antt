use Rattle.std.proofs.Common.{◌≡◌, ℕ, List, Ok, take, subst}
use Rattle.aiger_codec.specs.Lines.{line_at}
use Rattle.aiger_codec.specs.Sections.{least, most}
use Rattle.aiger_codec.proofs.Loops.{item_fails}
use Rattle.aiger_codec.proofs.section.read_item.Goals as goal

pub returns-in-Err : goal.returns-in-Err
returns-in-Err c =
    let x : List ℕ × ℕ = (take c.in_ok-count.count c.read_line.new.into, c.in_ok-count.end) in
    let a : line_at (least c.args.section) c.most.result c.args.bytes.now c.args.at ≡ Ok x = subst (λ (k : ℕ). line_at k c.most.result c.args.bytes.now c.args.at ≡ Ok x) c.least.ensures c.in_ok-count.ensures.1 in
    let b : line_at (least c.args.section) (most c.args.section) c.args.bytes.now c.args.at ≡ Ok x = subst (λ (k : ℕ). line_at (least c.args.section) k c.args.bytes.now c.args.at ≡ Ok x) c.most.ensures a in
    item_fails c.args.section c.args.bytes.now (c.args.builder.now, c.args.at) x c.in-Err.fault c.error_of.result b c.in-Err.ensures.1 c.error_of.ensures
