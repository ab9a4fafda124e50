use Rattle.std.proofs.Common.{List, subst₂, sym}
use Rattle.circ_model.specs.Meaning.{Pair}
use Rattle.batch_run.specs.declared.loading.Loaded.{Loaded}
use Rattle.batch_run.specs.Loads.{AreLoaded}
use Rattle.batch_run.proofs.batch.answer_all.Goals as goal

pub returns-clause-batch : goal.returns-clause-batch
returns-clause-batch g c = λ file are.
    c.write_answers.ensures.batch file
    (subst₂ (λ (pairs : List Pair) (loaded : List Loaded). AreLoaded file pairs c.args.list.now loaded) (sym c.as_slice-products.ensures.value) (sym c.as_slice-2.ensures.value) are)
