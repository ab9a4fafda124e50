use Rattle.std.proofs.Common.{◌≡◌, ◌∙◌, ◌+◌, ℕ, List, ◌∷◌, ap, drop, length, subst, sym, arith}
use Rattle.std.proofs.lemmas.List.{drop_more}
use Rattle.circ_model.specs.Meaning.{Pair, places_of}
use Rattle.class_partition.specs.Classes.{Classes, ArePartition}
use Rattle.refine_board.specs.declared.journal.Entry.{Entry}
use Rattle.refine_board.specs.Replays.{HasRow, IsReplayed, replayed}
use Rattle.refine_board.proofs.Replaying.{replay_more}
use Rattle.refine_board.proofs.history.replay.Goals as goal

pub loop-i-preserved : goal.loop-i-preserved
loop-i-preserved c =
    let pair : Pair = c.args.first.now.pair in
    let before : Classes = c.loop-i.classes in
    let after : Classes = c.replay_step.new.classes in
    let entries : List Entry = c.args.journal.now.entries in
    let entry : Entry = c.entry.result.now in
    let rest : List Entry = drop (c.loop-i.i + 1) entries in
    let places : length before.least ≡ places_of pair = c.loop-i.invariant.places in
    let partition : ArePartition (places_of pair) before = subst (λ (n : ℕ). ArePartition n before) places c.replay_step.ensures.partition in
    let made : HasRow (places_of pair) entry.step → after ≡ replayed entry.step before = subst (λ (n : ℕ). HasRow n entry.step → after ≡ replayed entry.step before) places c.in_ok-replay_step.ensures.split in
    let is : drop c.loop-i.i entries ≡ entry ∷ rest = drop_more entries c.loop-i.i entry (omega arith) ∙ ap (λ (e : Entry). e ∷ rest) (sym c.entry.ensures) in
    record {
      places = c.replay_step.ensures.places ∙ places;
      replayed = λ state leads. replay_more pair c.args.first.now.k before after entry rest state partition made (subst (λ (l : List Entry). IsReplayed pair c.args.first.now.k before l state) is (c.loop-i.invariant.replayed state leads));
    }
