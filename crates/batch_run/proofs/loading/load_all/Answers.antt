use Rattle.std.proofs.Common.{◌≡◌, ◌∙◌, ◌<◌, ◌+◌, ◌++◌, ◌∷◌, [], ℕ, List, Option, false, length, slice_index_or, length-append, ap, sym, subst, arith}
use Rattle.std.proofs.lemmas.List.{get_or_default}
use Rattle.sec_base.proofs.Pieces.{appended_none}
use Rattle.pair_files.specs.Pairs.{IsNoPair}
use Rattle.batch_run.specs.declared.loading.Loaded.{Loaded}
use Rattle.batch_run.specs.Loads.{AreLoaded, AreWithinProducts, IsLoaded}
use Rattle.batch_run.proofs.Extending.{all_loaded, all_within}
use Rattle.batch_run.proofs.Stopping.{all_answerable}
use Rattle.batch_run.proofs.loading.load_all.Goals as goal

pub returns-in_default-clause-stopped : goal.returns-in_default-clause-stopped
returns-in_default-clause-stopped g c told =
    let l = c.loop-at in
    let (files, names, load, store, counted, few, within, loaded) = l.invariant in
    (all_answerable (g.S.Shelf.file c.args.shelf.now) l.products.items c.args.list.now l.loaded.items l.at (sym counted) (loaded told), λ d. tt)

pub returns-in-Err-clause-stopped : goal.returns-in-Err-clause-stopped
returns-in-Err-clause-stopped g c told =
    let l = c.loop-at in
    let file : List ℕ → Option (List ℕ) = g.S.Shelf.file c.args.shelf.now in
    let list : List (List ℕ × List ℕ) = c.args.list.now in
    let pair : List ℕ × List ℕ = c.index-list-at.result in
    let lt : l.at < length list = omega arith in
    let (files, names, load, store, counted, few, within, loaded) = l.invariant in
    let none = subst (λ (f : List ℕ → Option (List ℕ)). IsNoPair false (f pair.0) (f pair.1) c.in-Err.why) files (c.in-Err.ensures.stopped told) in (
      all_answerable file l.products.items list l.loaded.items l.at (sym counted) (loaded told),
      λ d. subst (λ (n : List ℕ × List ℕ). IsNoPair false (file n.0) (file n.1) c.in-Err.why) (c.index-list-at.is ∙ get_or_default list l.at pair d lt) none,
    )

pub loop-at-preserved : goal.loop-at-preserved
loop-at-preserved g c =
    let l = c.loop-at in
    let e = c.in-Ok.ensures in
    let file : List ℕ → Option (List ℕ) = g.S.Shelf.file c.args.shelf.now in
    let list : List (List ℕ × List ℕ) = c.args.list.now in
    let pair : List ℕ × List ℕ = c.index-list-at.result in
    let one : Loaded = c.in-Ok.one in
    let products = c.load_one.new.products.items in
    let lt : l.at < length list = omega arith in
    let (files, names, load, store, counted, few, within, loaded) = l.invariant in
    let more : c.push.new.self.items ≡ l.loaded.items ++ one ∷ [] = c.in-Ok-push.ensures.items in
    let grown : length c.push.new.self.items ≡ length l.loaded.items + 1 = ap (λ (xs : List Loaded). length xs) more ∙ length-append l.loaded.items (one ∷ []) in (
      e.files ∙ files,
      e.names ∙ appended_none _ ∙ names,
      omega (arith, load, e.load_count),
      e.store_count ∙ store,
      omega (arith, grown, counted),
      omega (arith, few, e.few),
      subst (AreWithinProducts products) (sym more) (all_within l.products.items products l.loaded.items one e.extends within e.within),
      λ told. subst (AreLoaded file products list) (sym more) (all_loaded file l.products.items products list l.loaded.items one e.extends (loaded told) (λ d.
          let here = subst (λ (f : List ℕ → Option (List ℕ)). IsLoaded f products pair one) files (e.loaded told) in
          let named = subst (λ (n : List ℕ × List ℕ). IsLoaded file products n one) (c.index-list-at.is ∙ get_or_default list l.at pair d lt) here in
          subst (λ (j : ℕ). IsLoaded file products (slice_index_or list j d) one) (sym counted) named)),
    )
