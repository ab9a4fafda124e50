use Rattle.std.proofs.Common.{◌≡◌, ◌∙◌, length, arith, ℕ, List, ap, sym, subst}
use Rattle.class_partition.specs.Classes.{Classes, HoldIn, IsSplit, split_of}
use Rattle.class_partition.specs.Steps.{classes_of}
use Rattle.class_partition.proofs.Kept.{split_kept, split_none}
use Rattle.class_partition.proofs.Splitting.{split_is}
use Rattle.class_partition.proofs.ClassCount.{count_most}
use Rattle.class_partition.proofs.classes.Classes.split_by.Goals as goal

pub overflow_add-self : goal.overflow_add-self
overflow_add-self c =
    let i = c.self.inside in
    let most = count_most (length i.least.items) (classes_of c.split_places-added.new.least.items i.phase) in
    omega (arith, c.self.invariant.1, c.split_places-added.ensures.count, c.self.invariant.0.phase_len, c.len-places.ensures, c.len-places.type_inv)

pub invariant_of-self : goal.invariant_of-self
invariant_of-self c =
    let i = c.self.inside in
    split_kept (length i.least.items) i.least.items i.phase c.args.row.now c.split_places-added.new.least.items i.count c.split_places-added.result c.self.invariant.0 c.split_places-added.ensures.split c.self.invariant.1 c.split_places-added.ensures.count

pub returns-clause-none : goal.returns-clause-none
returns-clause-none c z =
    let i = c.self.inside in
    let n : ℕ = length i.least.items in
    let before : Classes = classes_of i.least.items i.phase in
    let after : Classes = classes_of c.split_places-added.new.least.items i.phase in
    let h = split_none n i.least.items i.phase c.args.row.now c.split_places-added.new.least.items c.split_places-added.result c.self.invariant.0 c.split_places-added.ensures.split c.split_places-added.ensures.count z in
    let view : before ≡ c.args.self.now = c.self.view_is in
    (h.0 ∙ view, subst (λ (old : Classes). HoldIn (length old.least) old c.args.row.now) view h.1)

pub returns-clause-splits : goal.returns-clause-splits
returns-clause-splits c =
    let i = c.self.inside in
    let before : Classes = classes_of i.least.items i.phase in
    let same : classes_of c.split_places-added.new.least.items i.phase ≡ split_of (length i.least.items) before c.args.row.now = ap (λ (l : List ℕ). classes_of l i.phase) c.split_places-added.ensures.split in
    let view : before ≡ c.args.self.now = c.self.view_is in
    subst (λ (old : Classes). IsSplit (length old.least) old c.args.row.now (classes_of c.split_places-added.new.least.items i.phase)) view
    (subst (IsSplit (length i.least.items) before c.args.row.now) (sym same) (split_is (length i.least.items) before c.args.row.now c.self.invariant.0))
