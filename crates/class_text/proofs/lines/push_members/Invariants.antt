use Rattle.std.proofs.Common.{◌≡◌, ◌++◌, ◌≤◌, ◌<◌, ◌-◌}
use Rattle.circ_model.specs.Meaning.{places_of}
use Rattle.class_partition.specs.Classes.{least_of}
use Rattle.class_text.specs.ClassLines.{members_text}
use Rattle.class_text.proofs.lines.push_members.Given as goal

abbrev pub invariant-members : goal.invariant-members
invariant-members l = (l.text.items ++ members_text l.product l.classes l.first l.place ≡ l.initial.text.items ++ members_text l.product l.classes l.first l.first) × (l.place ≤ places_of l.product) × (l.place < places_of l.product → least_of l.classes l.place ≡ l.first)

abbrev pub decreases-members : goal.decreases-members
decreases-members l = l.n - l.place
