use Rattle.std.proofs.Common.{◌≡◌, ◌++◌}
use Rattle.std.specs.List.{flat_map, range_with_len}
use Rattle.class_text.specs.ClassLines.{class_line}
use Rattle.class_text.proofs.lines.push_class_lines.Given as goal

abbrev pub invariant-loop-first : goal.invariant-loop-first
invariant-loop-first l = l.text.items ≡ l.initial.text.items ++ flat_map (class_line l.product l.classes) (range_with_len 0 l.first)
