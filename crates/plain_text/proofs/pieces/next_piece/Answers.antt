use Rattle.std.proofs.Common.{◌≡◌, ◌+◌, ◌-◌, take, drop, length, suc, ℕ, List, arith, add-one}
use Rattle.std.proofs.lemmas.List.{length-take-le, length-drop, take_all}
use Rattle.plain_text.proofs.Splits.{none_left, first_piece}
use Rattle.plain_text.proofs.pieces.next_piece.Goals as goal

pub returns-in_default : goal.returns-in_default
returns-in_default c = none_left c.args.separator c.args.bytes.now c.in_default.ensures

pub returns : goal.returns
returns c =
    let e = c.in-Some.ensures in
    let bs : List ℕ = c.args.bytes.now in
    let at : ℕ = c.in-Some.at in
    let f = first_piece c.args.separator bs at e.0 e.1 e.2 in
    let n : length (drop (suc at) bs) ≡ length bs - suc at = length-drop (suc at) bs in
    let w : take (length bs - (at + 1)) (drop (at + 1) bs) ≡ drop (at + 1) bs = take_all (length bs - (at + 1)) (drop (at + 1) bs) (let m = length-drop (at + 1) bs in omega arith) in
    rw (w, add-one) (f.0, f.1, let m = length-take-le at bs (omega (arith, e.0)) in omega (arith, e.0, n))
