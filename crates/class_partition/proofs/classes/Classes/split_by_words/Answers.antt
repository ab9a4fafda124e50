use Rattle.std.proofs.Common.{◌≡◌, ◌∙◌, ◌<◌, ◌+◌, ℕ, List, length, ap, subst, arith}
use Rattle.std.proofs.lemmas.List.{with_items_is}
use Rattle.class_partition.specs.Classes.{Classes, HoldIn, class_count}
use Rattle.class_partition.specs.Steps.{classes_of}
use Rattle.class_partition.specs.Words.{bits_of, rows_of, split_of_words, splits_of, IsSplitByWords}
use Rattle.class_partition.proofs.WordKept.{word_split_kept, word_split_splits, word_split_rows, word_split_none}
use Rattle.class_partition.proofs.classes.Classes.split_by_words.Goals as goal

module _ (c : goal.After-self-1) where
  after_is : c.replace.new.dest.items ≡ c.split_places.new.after
  after_is = ap (λ v. v.items) c.replace.ensures.after ∙ with_items_is c.in_ok-after.after c.split_places.new.after (omega (arith, c.in_ok-more.ensures.size, c.in_ok-after.after.ok.0))

  split : c.replace.new.dest.items ≡ (split_of_words (length c.self.inside.least.items) (classes_of c.self.inside.least.items c.self.inside.phase) c.args.words.now).least
  split = after_is ∙ c.in_ok-more.ensures.split ∙ ap (λ (l : List ℕ). (split_of_words (length l) (classes_of l c.self.inside.phase) c.args.words.now).least) c.as_slice-least.ensures.value

  more : class_count (length c.self.inside.least.items) (classes_of c.replace.new.dest.items c.self.inside.phase) ≡ class_count (length c.self.inside.least.items) (classes_of c.self.inside.least.items c.self.inside.phase) + c.in_ok-more.more
  more =
      ap (λ (l : List ℕ). class_count (length c.self.inside.least.items) (classes_of l c.self.inside.phase)) after_is
      ∙ subst (λ (l : List ℕ). class_count (length l) (classes_of c.split_places.new.after c.self.inside.phase) ≡ class_count (length l) (classes_of l c.self.inside.phase) + c.in_ok-more.more) c.as_slice-least.ensures.value c.in_ok-more.ensures.count

pub invariant_of-self : goal.invariant_of-self
invariant_of-self c =
    let i = c.self.inside in
    word_split_kept (length i.least.items) i.least.items i.phase c.args.words.now c.replace.new.dest.items c.self.invariant.0 (split c) i.count c.in_ok-more.more c.self.invariant.1 (more c)

pub returns-clause-splits : goal.returns-clause-splits
returns-clause-splits c =
    let i = c.self.inside in
    subst (λ (old : Classes). IsSplitByWords (length old.least) old c.args.words.now (classes_of c.replace.new.dest.items i.phase)) c.self.view_is
    (word_split_splits (length i.least.items) i.least.items i.phase c.args.words.now c.replace.new.dest.items c.self.invariant.0 (split c))

pub returns-clause-rows : goal.returns-clause-rows
returns-clause-rows c =
    let i = c.self.inside in
    subst (λ (old : Classes). classes_of c.replace.new.dest.items i.phase ≡ splits_of (length old.least) old (rows_of c.args.words.now)) c.self.view_is
    (word_split_rows (length i.least.items) i.least.items i.phase c.args.words.now c.replace.new.dest.items c.self.invariant.0 (split c) (λ p. omega (arith, c.type_inv.words p)))

pub returns-clause-none : goal.returns-clause-none
returns-clause-none c z =
    let i = c.self.inside in
    let h = word_split_none (length i.least.items) i.least.items i.phase c.args.words.now c.replace.new.dest.items c.self.invariant.0 (split c) (λ p. omega (arith, c.type_inv.words p)) c.in_ok-more.more (more c) z in
    (h.0 ∙ c.self.view_is, subst (λ (old : Classes). (b : ℕ) → b < 64 → HoldIn (length old.least) old (bits_of b c.args.words.now)) c.self.view_is h.1)
