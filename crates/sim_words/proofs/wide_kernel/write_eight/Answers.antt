use Rattle.std.proofs.Common.{◌*◌, arith}
use Rattle.std.proofs.lemmas.Simd.{get_or-put_chunk_below, get_or-put_chunk_at, get_or-put_chunk_above}
use Rattle.sim_words.proofs.wide_kernel.write_eight.Goals as goal

pub returns-clause-written : goal.returns-clause-written
returns-clause-written c j small =
    get_or-put_chunk_at (8 * c.args.place) c.args.words.now c.args.eight j 0 (omega (arith, c.requires.eight)) (omega (arith, c.requires.eight, c.requires.place))

pub returns-clause-below : goal.returns-clause-below
returns-clause-below c k lt = get_or-put_chunk_below (8 * c.args.place) c.args.words.now c.args.eight k 0 lt

pub returns-clause-above : goal.returns-clause-above
returns-clause-above c k le = get_or-put_chunk_above (8 * c.args.place) c.args.words.now c.args.eight k 0 (omega (arith, c.requires.eight))
