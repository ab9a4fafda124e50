use Rattle.std.proofs.Common.{rules, arith, ◌≡◌, ◌/◌, ℕ, List, length}
use Rattle.sat_trail.proofs.Placing.{placed_push}
use Rattle.sat_trail.proofs.Upkeep.{has_room}
use Rattle.sat_trail.proofs.Valuing.{values_push}
use Rattle.sat_trail.proofs.trail.assign.Goals as goal

pub push_reserved-requires : goal.push_reserved-requires
push_reserved-requires c =
    let at : List ℕ = c.args.at.now.items in
    let r = has_room (length at) c.args.lits.now.items at (c.args.lit / 2) c.requires.placed c.requires.within c.requires.free in
    omega (arith, c.requires.room, c.args.lits.now.ok)

pub returns-clause-placed : goal.returns-clause-placed
returns-clause-placed c =
    let at : List ℕ = c.args.at.now.items in
    let lits : List ℕ = c.args.lits.now.items in
    let place : c.len.result ≡ length lits = search rules in
    rw (c.push_reserved.ensures.items, place) (placed_push (length at) lits at c.args.lit c.requires.placed c.requires.within c.requires.free)

pub returns-clause-valued : goal.returns-clause-valued
returns-clause-valued c =
    let at : List ℕ = c.args.at.now.items in
    let lits : List ℕ = c.args.lits.now.items in
    let place : c.len.result ≡ length lits = search rules in
    rw (c.push_reserved.ensures.items, place, c.complement.ensures) (values_push (length at) lits at c.args.values.now.items c.args.lit c.requires.placed c.requires.valued c.requires.within c.requires.free)
