use Rattle.std.proofs.Common.{◌≡◌, ◌∙◌, ◌+◌, ◌++◌, ◌∷◌, [], ℕ, List, map, get_or, ap, ap₂, sym, arith, append_assoc, zero-add, if◌then◌else◌}
use Rattle.std.specs.Prelude.{slice_get}
use Rattle.std.specs.List.{range_with_len}
use Rattle.std.proofs.lemmas.List.{length-map, get_or-map, get_or_default}
use Rattle.std.proofs.lemmas.List.FromFn.{map-range_with_len_more}
use Rattle.circ_model.specs.declared.netlist.Latch.{Latch}
use Rattle.circ_model.specs.declared.netlist.Reset.{Reset}
use Rattle.circ_model.specs.declared.netlist.Reset.TheVariants.{Free}
use Rattle.circ_model.specs.Meaning.{is_free, literal_by}
use Rattle.circ_model.proofs.FreeLatches.{count_more}
use Rattle.product_machine.specs.declared.cell.Cell.{Cell}
use Rattle.product_machine.specs.declared.cell.Cell.TheVariants.{Held}
use Rattle.product_machine.specs.Cells.{no_latch, latch_cell, start_by}
use Rattle.product_machine.specs.Tables.{says}
use Rattle.product_machine.proofs.build.push_latches.Goals as goal

pub loop-k-preserved : goal.loop-k-preserved
loop-k-preserved c =
    let latches : List Latch = c.args.latches.now in
    let k : ℕ = c.loop-k.k in
    let lt = c.loop-k-test.true in
    let l : Latch = c.index-latches-k.result in
    let rs : List Reset = map (λ (x : Latch). x.reset) latches in
    let latch : l ≡ get_or latches k no_latch = c.index-latches-k.is ∙ get_or_default latches k l no_latch lt in
    let reset : l.reset ≡ get_or rs k Free = ap (λ (x : Latch). x.reset) latch ∙ sym (get_or-map (λ (x : Latch). x.reset) latches k no_latch Free lt) in
    let f : ℕ → Cell = latch_cell (literal_by (says c.args.table.now)) c.args.partners.now latches in
    let cell : Held c.start_of-start.result c.translated.result ≡ f k =
    ap₂ Held (c.start_of-start.ensures ∙ ap₂ (λ (r : Reset) (n : ℕ). start_by r (slice_get c.args.partners.now n)) reset c.loop-k.invariant.1)
    (c.translated.ensures ∙ ap (λ (x : Latch). literal_by (says c.args.table.now) x.next) latch) in (
      c.in_ok-push.ensures.items ∙ ap₂ (λ (xs : List Cell) (x : Cell). xs ++ x ∷ []) c.loop-k.invariant.0 cell
          ∙ append_assoc c.args.cells.now.items (map f (range_with_len 0 k)) (f k ∷ []) ∙ ap (λ (xs : List Cell). c.args.cells.now.items ++ xs) (sym (map-range_with_len_more f 0 k k (zero-add k))),
      ap₂ (λ (x y : ℕ). x + y) c.loop-k.invariant.1 (c.free_number-used.ensures ∙ ap (λ (r : Reset). if◌then◌else◌ {A = ℕ} (is_free r) 1 0) reset) ∙ sym (count_more rs k (omega (arith, length-map latches (λ (x : Latch). x.reset)))),
    )
