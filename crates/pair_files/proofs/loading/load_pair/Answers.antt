use Rattle.std.proofs.Common.{ℕ, List, Option, refl, subst}
use Rattle.std.proofs.lemmas.Result.{IfErr-weaker}
use Rattle.circ_model.specs.Meaning.{Pair}
use Rattle.pair_files.specs.Files.{IsAccepted}
use Rattle.pair_files.proofs.Pairing.{no_pair}
use Rattle.pair_files.proofs.loading.load_pair.Goals as goal

pub returns-in-Ok-load_netlist-clause-none : goal.returns-in-Ok-load_netlist-clause-none
returns-in-Ok-load_netlist-clause-none g c told =
    let left = g.S.Shelf.file c.args.shelf.now c.args.left.now in
    let right = g.S.Shelf.file c.args.shelf.now c.args.right.now in
    let pair : Pair = record { left = c.in-Ok.net; right = c.in-Ok-load_netlist.second; tied = c.args.tied } in
    IfErr-weaker c.pair_of.result _ _ (λ u h. no_pair c.args.tied left right pair (record {
      is_left = c.in-Ok.ensures.read told;
      is_right = subst (λ (f : List ℕ → Option (List ℕ)). IsAccepted (f c.args.right.now) c.in-Ok-load_netlist.second) c.in-Ok.ensures.files (c.in-Ok-load_netlist.ensures.read told);
      ties = refl;
    }) u h) c.pair_of.ensures.apart
