use Rattle.std.proofs.Common.{◌≡◌, ℕ, List, true, length, All}
use Rattle.circ_model.specs.Meaning.{Pair}
use Rattle.claim_word.specs.Words.{version_of}
use Rattle.pair_pool.specs.Claims.{AreFound, HasFound, IsSeated, claimed_at, places}
use Rattle.pair_pool.proofs.crew.gather.Given as goal

abbrev pub invariant-loop-done : goal.invariant-loop-done
invariant-loop-done l = record {
  own : l.board.word ≡ l.word;
  first : l.board.board ≡ true;
  written : version_of l.board.written ≡ 0;
  listed : claimed_at l.board ≡ places l.all.items;
  seated : All (IsSeated l.word) l.told.items;
  found : (pairs : List Pair) (k : ℕ) → All (HasFound pairs k) l.fn.told.items → AreFound pairs k l.all.items × All (HasFound pairs k) l.told.items;
}

abbrev pub decreases-loop-done : goal.decreases-loop-done
decreases-loop-done l = length l.told.items
