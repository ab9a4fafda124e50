use Rattle.std.proofs.Common.{rules}
use Rattle.pair_pool.proofs.running.run_workers.Goals as goal

pub returns-clause-found : goal.returns-clause-found
returns-clause-found g c = c.gather.ensures.found c.args.products.now c.args.k (λ i d lt. search rules)
