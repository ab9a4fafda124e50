-- The stub of a netlist: a second side for a pair that is to have the signals of one netlist alone.
use Rattle.std.specs.Prelude.{[], length, replicate}
use Rattle.std.specs.List.{range_with_len}
use Rattle.circ_model.specs.Netlist.{Netlist}

-- as many inputs, which are the variables from 1 up, and as many outputs, which are all 0; no latches and no gates
abbrev pub stub_of : Netlist → Netlist
stub_of net = record { max_var = length net.inputs; inputs = range_with_len 1 (length net.inputs); latches = []; outputs = replicate (length net.outputs) 0; gates = [] }
