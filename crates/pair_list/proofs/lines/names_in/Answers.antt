use Rattle.pair_list.proofs.Cuts.{no_left_no_pair, no_right_no_pair, no_space_no_pair, none_left, none_right}
use Rattle.pair_list.proofs.lines.names_in.Goals as goal

pub returns-in_default : goal.returns-in_default
returns-in_default c = no_space_no_pair c.args.line.now c.in_default.ensures

pub name_in-requires : goal.name_in-requires
name_in-requires c = none_left 10 32 c.args.line.now c.in-Some.before.now c.in-Some.after.now c.in-Some.ensures.1 c.requires

pub returns-in_default-name_in : goal.returns-in_default-name_in
returns-in_default-name_in c = no_left_no_pair c.args.line.now c.in-Some.before.now c.in-Some.after.now c.in-Some.ensures.1 c.in-Some.ensures.0 c.in_default-name_in.ensures

pub name_in-requires-2 : goal.name_in-requires-2
name_in-requires-2 c = none_right 10 32 c.args.line.now c.in-Some.before.now c.in-Some.after.now c.in-Some.ensures.1 c.requires

pub returns-in_default-name_in-2 : goal.returns-in_default-name_in-2
returns-in_default-name_in-2 c = no_right_no_pair c.args.line.now c.in-Some.before.now c.in-Some.after.now c.in-Some.ensures.1 c.in-Some.ensures.0 c.in_default-name_in-2.ensures
