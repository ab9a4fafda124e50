use Rattle.std.proofs.Common.{◌≡◌, ◌∙◌, ◌+◌, ℕ, length, sym, subst, arith}
use Rattle.circ_model.specs.Meaning.{Pair, places_of}
use Rattle.class_partition.specs.Classes.{Classes, HoldIn, KeepsGreatest, class_count}
use Rattle.class_partition.proofs.ClassCount.{count_most}
use Rattle.tried_classes.proofs.Trying.{first_may, second_may, whole_is}
use Rattle.tried_classes.proofs.plain.try_path.Goals as goal

middle_size : (c : goal.After-split_by_second-second) → length c.split_by_first-first.new.classes.least ≡ places_of c.args.product.now
middle_size c = c.split_by_first-first.ensures.size ∙ c.requires.places

pub overflow_add-result : goal.overflow_add-result
overflow_add-result c =
    let n : ℕ = places_of c.args.product.now in
    let middle : Classes = c.split_by_first-first.new.classes in
    let last : Classes = c.split_by_second-second.new.classes in
    let one = subst (λ (m : ℕ). class_count m middle ≡ class_count m c.args.classes.now + c.split_by_first-first.result) c.requires.places c.split_by_first-first.ensures.count in
    let two = subst (λ (m : ℕ). class_count m last ≡ class_count m middle + c.split_by_second-second.result) (middle_size c) c.split_by_second-second.ensures.count in
    omega (arith, one, two, count_most n last, c.len-places.ensures.few, c.len-places.ensures.places)

middle_keeps : (c : goal.After-split_by_second-second) → KeepsGreatest c.args.product.now 1 c.split_by_first-first.new.classes
middle_keeps c =
    let w = c.write_path.new.frames in
    c.split_by_first-first.ensures.keeps c.requires.places (λ starts. first_may c.args.product.now c.args.number w.start w.first c.write_path.ensures.start c.write_path.ensures.first starts) c.requires.keeps

pub returns-clause-keeps : goal.returns-clause-keeps
returns-clause-keeps c =
    let pair : Pair = c.args.product.now in
    let w = c.write_path.new.frames in
    let middle : Classes = c.split_by_first-first.new.classes in
    c.split_by_second-second.ensures.keeps pair (middle_size c)
    (λ hold. second_may pair c.args.number middle w.first w.second c.write_path.ensures.first c.write_path.ensures.second (middle_keeps c) (subst (λ (m : ℕ). HoldIn m middle w.first) (middle_size c) hold)) (middle_keeps c)

pub returns-clause-whole : goal.returns-clause-whole
returns-clause-whole c z =
    let pair : Pair = c.args.product.now in
    let w = c.write_path.new.frames in
    let old : Classes = c.args.classes.now in
    let middle : Classes = c.split_by_first-first.new.classes in
    let same : middle ≡ old = c.split_by_first-first.ensures.none (omega arith) in
    whole_is pair c.args.number old w.start w.first w.second c.write_path.ensures.start c.write_path.ensures.first c.write_path.ensures.second
    (λ starts. subst (λ (m : ℕ). HoldIn m old w.first) c.requires.places (c.split_by_first-first.ensures.whole (omega arith) starts))
    (λ hold. subst (λ (k : Classes). HoldIn (places_of pair) k w.second) same
    (subst (λ (m : ℕ). HoldIn m middle w.second) (middle_size c)
    (c.split_by_second-second.ensures.whole (omega arith) (subst (λ (m : ℕ). HoldIn m middle w.first) (sym (middle_size c)) (subst (λ (k : Classes). HoldIn (places_of pair) k w.first) (sym same) hold)))))
