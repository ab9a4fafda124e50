use Rattle.aiger_file.proofs.OneReading.{has_one_reading, one_file, one_fault, never_both}
use Rattle.aiger_file.proofs.laws.one_reading.Goals as goal

pub returns-clause-comes : goal.returns-clause-comes
returns-clause-comes c = has_one_reading

pub returns-clause-one_netlist : goal.returns-clause-one_netlist
returns-clause-one_netlist c = one_file

pub returns-clause-one_fault : goal.returns-clause-one_fault
returns-clause-one_fault c = one_fault

pub returns-clause-never_both : goal.returns-clause-never_both
returns-clause-never_both c = never_both
