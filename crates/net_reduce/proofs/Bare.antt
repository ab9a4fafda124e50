-- A pair whose right side is a stub has the left side's places and latches alone.
use Rattle.std.proofs.Common.{◌≡◌, length, ap, arith}
use Rattle.circ_model.specs.Netlist.{Netlist, variables, own}
use Rattle.circ_model.specs.Meaning.{Pair, Path, StartsTied, places_of, latches_of, free_latches}
use Rattle.net_reduce.specs.Stub.{stub_of}

pub bare_places : (pair : Pair) → pair.right ≡ stub_of pair.left → places_of pair ≡ length (variables pair.left)
bare_places pair e = let none = ap (λ (n : Netlist). length (own n)) e in omega arith

pub bare_latches : (pair : Pair) → pair.right ≡ stub_of pair.left → latches_of pair ≡ length pair.left.latches
bare_latches pair e = let none = ap (λ (n : Netlist). length n.latches) e in omega arith

-- there is nothing to tie
pub bare_ties : (pair : Pair) (path : Path) → pair.right ≡ stub_of pair.left → StartsTied pair path
bare_ties pair path e j left right = let none = ap (λ (n : Netlist). length (free_latches n)) e in absurd (omega arith)
