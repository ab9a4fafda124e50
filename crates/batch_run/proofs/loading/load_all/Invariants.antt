use Rattle.std.proofs.Common.{◌≡◌, ◌≤◌, length, IsTrue}
use Rattle.batch_run.specs.Loads.{AreLoaded, AreWithinProducts}
use Rattle.batch_run.proofs.loading.load_all.Given as goal

abbrev pub invariant-loop-at : goal.invariant-loop-at
invariant-loop-at g l =
    (g.S.Shelf.file l.shelf ≡ g.S.Shelf.file l.initial.shelf) × (g.S.Shelf.failed l.shelf ≡ g.S.Shelf.failed l.initial.shelf) × (g.S.Shelf.load_faults l.initial.shelf ≤ g.S.Shelf.load_faults l.shelf)
    × (g.S.Shelf.store_faults l.shelf ≡ g.S.Shelf.store_faults l.initial.shelf) × (length l.loaded.items ≡ l.at) × (length l.products.items ≤ l.at) × AreWithinProducts l.products.items l.loaded.items
    × (IsTrue g.S.Shelf.tells → AreLoaded (g.S.Shelf.file l.initial.shelf) l.products.items l.list l.loaded.items)
