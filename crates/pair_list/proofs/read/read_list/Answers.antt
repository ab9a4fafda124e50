use Rattle.std.proofs.Common.{ℕ, List, ◌∙◌, ◌<◌, ◌++◌, ◌∷◌, [], length, ap, sym, subst, arith}
use Rattle.pair_list.specs.Readings.{Begins}
use Rattle.pair_list.proofs.Texts.{begins_more}
use Rattle.pair_list.proofs.read.read_list.Goals as goal

pub loop-rest-preserved : goal.loop-rest-preserved
loop-rest-preserved c =
    let bytes : List ℕ = c.args.bytes.now in
    let pairs : List (List ℕ × List ℕ) = c.loop-rest.pairs.items in
    let few : length pairs < 10000 = omega (arith, c.len-line.ensures, c.if-line-gt-MOST_PAIRS.false) in
    let p : List ℕ × List ℕ = (c.in-Some-names_in.left.now, c.in-Some-names_in.right.now) in
    let more = begins_more bytes c.loop-rest.rest.now c.in-Some.text.now c.in-Some.after.now pairs p c.loop-rest.invariant few c.in-Some.ensures.1 c.in-Some-names_in.ensures.0 c.in-Some-names_in.ensures.1 in
    let same = c.in-Ok-push.ensures.items ∙ ap (λ (q : List ℕ × List ℕ). pairs ++ q ∷ []) c.in-Ok.ensures in
    subst (λ (ps : List (List ℕ × List ℕ)). Begins bytes ps c.in-Some.after.now) (sym same) more
