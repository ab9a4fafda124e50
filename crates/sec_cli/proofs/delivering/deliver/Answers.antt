use Rattle.std.proofs.Common.{◌≡◌, ◌∙◌, ℕ, List, Option, Some, option_map, ap, sym, subst}
use Rattle.command_line.specs.Asked.{asked_of}
use Rattle.sec_cli.specs.Reports.{World, IsDelivery, store_name, world_of}
use Rattle.sec_cli.proofs.delivering.deliver.Goals as goal

pub returns-in-Some-clause-delivered : goal.returns-in-Some-clause-delivered
returns-in-Some-clause-delivered g c =
    let named : Some c.in-Some.name.now ≡ store_name (asked_of c.args.command) c.args.answer.now.status = ap (option_map (λ n. n.now)) (sym c.in-Some.is) ∙ c.store_name.ensures in
    let before : World = world_of (g.S.Shelf.file c.args.shelf.now) (g.S.Shelf.store_faults c.args.shelf.now) (g.O.Sink.taken c.args.out.now) (g.O.Sink.faults c.args.out.now) (g.E.Sink.taken c.args.err.now) (g.E.Sink.faults c.args.err.now) in
    let s = c.store_and_print.new in
    let after : World = world_of (g.S.Shelf.file s.shelf) (g.S.Shelf.store_faults s.shelf) (g.O.Sink.taken s.out) (g.O.Sink.faults s.out) (g.E.Sink.taken s.err) (g.E.Sink.faults s.err) in
    subst (λ (n : Option (List ℕ)). IsDelivery g.S.Shelf.tells n c.args.answer.now before after c.store_and_print.result) named c.store_and_print.ensures.delivered
