-- The lines of the usage text are those of the commands that are given to clap: all of this computes.
use Rattle.std.proofs.Common.{refl, arith, codes}
use Rattle.clap.proofs.OnLiterals.{clap_on_literals}
use Rattle.command_line.specs.Asked.{most_depth, most_search_depth, most_size, most_workers}
use Rattle.command_line.specs.App.{sec_app, check_app, replay_app, verify_app, demo_app, climb_app, reduce_app, batch_app, batch_line, check_line, climb_line, reduce_line, replay_line, verify_line, demo_line, depth, most, search_depth, workers, file, flag, name, size}
use Rattle.command_line.proofs.Decimals.{number_passes}
use Rattle.command_line.proofs.Leaves.{sub, rule}
use Rattle.command_line.proofs.Standing.{IsFlagOption, IsValueOption, IsPositional}
use Rattle.command_line.proofs.PlainLevel.{IsLineOf}

pub check_is : IsLineOf (sub 0) check_line
unfolding clap_on_literals sec_app check_app replay_app verify_app demo_app climb_app reduce_app batch_app
check_is =
    let left_is : IsPositional (sub 0) 1 (name (codes "LEFT")) = record { rule = rule 0 0; taker = record { own = refl; same = refl; action = refl; range = refl; several = refl; most = refl; passes = λ t h. refl }; at = refl; last = refl } in
    let right_is : IsPositional (sub 0) 2 (name (codes "RIGHT")) = record { rule = rule 0 1; taker = record { own = refl; same = refl; action = refl; range = refl; several = refl; most = refl; passes = λ t h. refl }; at = refl; last = refl } in
    let depth_is : IsValueOption (sub 0) depth = record { rule = rule 0 2; taker = record { own = refl; same = refl; action = refl; range = refl; several = refl; most = refl; passes = λ t h. number_passes 1 most_depth t (omega arith) h }; met = λ p rows pending. refl; fine = λ p rows pending h. rw h refl } in
    let search_depth_is : IsValueOption (sub 0) search_depth = record { rule = rule 0 3; taker = record { own = refl; same = refl; action = refl; range = refl; several = refl; most = refl; passes = λ t h. number_passes 1 most_search_depth t (omega arith) h }; met = λ p rows pending. refl; fine = λ p rows pending h. rw h refl } in
    let workers_is : IsValueOption (sub 0) workers = record { rule = rule 0 4; taker = record { own = refl; same = refl; action = refl; range = refl; several = refl; most = refl; passes = λ t h. number_passes 1 most_workers t (omega arith) h }; met = λ p rows pending. refl; fine = λ p rows pending h. rw h refl } in
    let classes_is : IsFlagOption (sub 0) (flag (codes "classes")) = record { rule = rule 0 5; setter = record { own = refl; same = refl; action = refl; range = refl; missing = refl; passes = refl }; met = λ p rows pending. refl; fine = λ p rows pending h. rw h refl } in
    let stats_is : IsFlagOption (sub 0) (flag (codes "stats")) = record { rule = rule 0 6; setter = record { own = refl; same = refl; action = refl; range = refl; missing = refl; passes = refl }; met = λ p rows pending. refl; fine = λ p rows pending h. rw h refl } in
    let trace_is : IsValueOption (sub 0) (file (codes "trace")) = record { rule = rule 0 7; taker = record { own = refl; same = refl; action = refl; range = refl; several = refl; most = refl; passes = λ t h. refl }; met = λ p rows pending. refl; fine = λ p rows pending h. rw h refl } in
    let cert_is : IsValueOption (sub 0) (file (codes "cert")) = record { rule = rule 0 8; taker = record { own = refl; same = refl; action = refl; range = refl; several = refl; most = refl; passes = λ t h. refl }; met = λ p rows pending. refl; fine = λ p rows pending h. rw h refl } in
    let tie_is : IsFlagOption (sub 0) (flag (codes "tie")) = record { rule = rule 0 9; setter = record { own = refl; same = refl; action = refl; range = refl; missing = refl; passes = refl }; met = λ p rows pending. refl; fine = λ p rows pending h. rw h refl } in
    let least_is : IsFlagOption (sub 0) (flag (codes "least")) = record { rule = rule 0 10; setter = record { own = refl; same = refl; action = refl; range = refl; missing = refl; passes = refl }; met = λ p rows pending. refl; fine = λ p rows pending h. rw h refl } in
    record {
      options = (depth_is, (search_depth_is, (workers_is, (classes_is, (stats_is, (trace_is, (cert_is, (tie_is, (least_is, tt)))))))));
      names = (left_is, (right_is, tt));
      distinct = refl;
      defaults = refl;
      required = refl;
      no_help = refl;
      no_subcommand = refl;
      negates = refl;
    }

pub replay_is : IsLineOf (sub 1) replay_line
unfolding clap_on_literals sec_app check_app replay_app verify_app demo_app climb_app reduce_app batch_app
replay_is =
    let left_is : IsPositional (sub 1) 1 (name (codes "LEFT")) = record { rule = rule 1 0; taker = record { own = refl; same = refl; action = refl; range = refl; several = refl; most = refl; passes = λ t h. refl }; at = refl; last = refl } in
    let right_is : IsPositional (sub 1) 2 (name (codes "RIGHT")) = record { rule = rule 1 1; taker = record { own = refl; same = refl; action = refl; range = refl; several = refl; most = refl; passes = λ t h. refl }; at = refl; last = refl } in
    let trace_is : IsPositional (sub 1) 3 (name (codes "TRACE")) = record { rule = rule 1 2; taker = record { own = refl; same = refl; action = refl; range = refl; several = refl; most = refl; passes = λ t h. refl }; at = refl; last = refl } in
    let tie_is : IsFlagOption (sub 1) (flag (codes "tie")) = record { rule = rule 1 3; setter = record { own = refl; same = refl; action = refl; range = refl; missing = refl; passes = refl }; met = λ p rows pending. refl; fine = λ p rows pending h. rw h refl } in
    record {
      options = (tie_is, tt);
      names = (left_is, (right_is, (trace_is, tt)));
      distinct = refl;
      defaults = refl;
      required = refl;
      no_help = refl;
      no_subcommand = refl;
      negates = refl;
    }

pub verify_is : IsLineOf (sub 2) verify_line
unfolding clap_on_literals sec_app check_app replay_app verify_app demo_app climb_app reduce_app batch_app
verify_is =
    let left_is : IsPositional (sub 2) 1 (name (codes "LEFT")) = record { rule = rule 2 0; taker = record { own = refl; same = refl; action = refl; range = refl; several = refl; most = refl; passes = λ t h. refl }; at = refl; last = refl } in
    let right_is : IsPositional (sub 2) 2 (name (codes "RIGHT")) = record { rule = rule 2 1; taker = record { own = refl; same = refl; action = refl; range = refl; several = refl; most = refl; passes = λ t h. refl }; at = refl; last = refl } in
    let cert_is : IsPositional (sub 2) 3 (name (codes "CERT")) = record { rule = rule 2 2; taker = record { own = refl; same = refl; action = refl; range = refl; several = refl; most = refl; passes = λ t h. refl }; at = refl; last = refl } in
    let tie_is : IsFlagOption (sub 2) (flag (codes "tie")) = record { rule = rule 2 3; setter = record { own = refl; same = refl; action = refl; range = refl; missing = refl; passes = refl }; met = λ p rows pending. refl; fine = λ p rows pending h. rw h refl } in
    record {
      options = (tie_is, tt);
      names = (left_is, (right_is, (cert_is, tt)));
      distinct = refl;
      defaults = refl;
      required = refl;
      no_help = refl;
      no_subcommand = refl;
      negates = refl;
    }

pub demo_is : IsLineOf (sub 3) demo_line
unfolding clap_on_literals sec_app check_app replay_app verify_app demo_app climb_app reduce_app batch_app
demo_is =
    let size_is : IsPositional (sub 3) 1 size = record { rule = rule 3 0; taker = record { own = refl; same = refl; action = refl; range = refl; several = refl; most = refl; passes = λ t h. number_passes 0 most_size t (omega arith) h }; at = refl; last = refl } in
    let depth_is : IsValueOption (sub 3) depth = record { rule = rule 3 1; taker = record { own = refl; same = refl; action = refl; range = refl; several = refl; most = refl; passes = λ t h. number_passes 1 most_depth t (omega arith) h }; met = λ p rows pending. refl; fine = λ p rows pending h. rw h refl } in
    let workers_is : IsValueOption (sub 3) workers = record { rule = rule 3 2; taker = record { own = refl; same = refl; action = refl; range = refl; several = refl; most = refl; passes = λ t h. number_passes 1 most_workers t (omega arith) h }; met = λ p rows pending. refl; fine = λ p rows pending h. rw h refl } in
    record {
      options = (depth_is, (workers_is, tt));
      names = (size_is, tt);
      distinct = refl;
      defaults = refl;
      required = refl;
      no_help = refl;
      no_subcommand = refl;
      negates = refl;
    }

pub climb_is : IsLineOf (sub 4) climb_line
unfolding clap_on_literals sec_app check_app replay_app verify_app demo_app climb_app reduce_app batch_app
climb_is =
    let left_is : IsPositional (sub 4) 1 (name (codes "LEFT")) = record { rule = rule 4 0; taker = record { own = refl; same = refl; action = refl; range = refl; several = refl; most = refl; passes = λ t h. refl }; at = refl; last = refl } in
    let right_is : IsPositional (sub 4) 2 (name (codes "RIGHT")) = record { rule = rule 4 1; taker = record { own = refl; same = refl; action = refl; range = refl; several = refl; most = refl; passes = λ t h. refl }; at = refl; last = refl } in
    let most_is : IsValueOption (sub 4) most = record { rule = rule 4 2; taker = record { own = refl; same = refl; action = refl; range = refl; several = refl; most = refl; passes = λ t h. number_passes 1 most_depth t (omega arith) h }; met = λ p rows pending. refl; fine = λ p rows pending h. rw h refl } in
    let workers_is : IsValueOption (sub 4) workers = record { rule = rule 4 3; taker = record { own = refl; same = refl; action = refl; range = refl; several = refl; most = refl; passes = λ t h. number_passes 1 most_workers t (omega arith) h }; met = λ p rows pending. refl; fine = λ p rows pending h. rw h refl } in
    let least_is : IsFlagOption (sub 4) (flag (codes "least")) = record { rule = rule 4 4; setter = record { own = refl; same = refl; action = refl; range = refl; missing = refl; passes = refl }; met = λ p rows pending. refl; fine = λ p rows pending h. rw h refl } in
    record {
      options = (most_is, (workers_is, (least_is, tt)));
      names = (left_is, (right_is, tt));
      distinct = refl;
      defaults = refl;
      required = refl;
      no_help = refl;
      no_subcommand = refl;
      negates = refl;
    }

pub reduce_is : IsLineOf (sub 5) reduce_line
unfolding clap_on_literals sec_app check_app replay_app verify_app demo_app climb_app reduce_app batch_app
reduce_is =
    let net_is : IsPositional (sub 5) 1 (name (codes "NET")) = record { rule = rule 5 0; taker = record { own = refl; same = refl; action = refl; range = refl; several = refl; most = refl; passes = λ t h. refl }; at = refl; last = refl } in
    let out_is : IsPositional (sub 5) 2 (name (codes "OUT")) = record { rule = rule 5 1; taker = record { own = refl; same = refl; action = refl; range = refl; several = refl; most = refl; passes = λ t h. refl }; at = refl; last = refl } in
    let depth_is : IsValueOption (sub 5) depth = record { rule = rule 5 2; taker = record { own = refl; same = refl; action = refl; range = refl; several = refl; most = refl; passes = λ t h. number_passes 1 most_depth t (omega arith) h }; met = λ p rows pending. refl; fine = λ p rows pending h. rw h refl } in
    let workers_is : IsValueOption (sub 5) workers = record { rule = rule 5 3; taker = record { own = refl; same = refl; action = refl; range = refl; several = refl; most = refl; passes = λ t h. number_passes 1 most_workers t (omega arith) h }; met = λ p rows pending. refl; fine = λ p rows pending h. rw h refl } in
    let binary_is : IsFlagOption (sub 5) (flag (codes "binary")) = record { rule = rule 5 4; setter = record { own = refl; same = refl; action = refl; range = refl; missing = refl; passes = refl }; met = λ p rows pending. refl; fine = λ p rows pending h. rw h refl } in
    record {
      options = (depth_is, (workers_is, (binary_is, tt)));
      names = (net_is, (out_is, tt));
      distinct = refl;
      defaults = refl;
      required = refl;
      no_help = refl;
      no_subcommand = refl;
      negates = refl;
    }

pub batch_is : IsLineOf (sub 6) batch_line
unfolding clap_on_literals sec_app check_app replay_app verify_app demo_app climb_app reduce_app batch_app
batch_is =
    let list_is : IsPositional (sub 6) 1 (name (codes "LIST")) = record { rule = rule 6 0; taker = record { own = refl; same = refl; action = refl; range = refl; several = refl; most = refl; passes = λ t h. refl }; at = refl; last = refl } in
    let depth_is : IsValueOption (sub 6) depth = record { rule = rule 6 1; taker = record { own = refl; same = refl; action = refl; range = refl; several = refl; most = refl; passes = λ t h. number_passes 1 most_depth t (omega arith) h }; met = λ p rows pending. refl; fine = λ p rows pending h. rw h refl } in
    let workers_is : IsValueOption (sub 6) workers = record { rule = rule 6 2; taker = record { own = refl; same = refl; action = refl; range = refl; several = refl; most = refl; passes = λ t h. number_passes 1 most_workers t (omega arith) h }; met = λ p rows pending. refl; fine = λ p rows pending h. rw h refl } in
    record {
      options = (depth_is, (workers_is, tt));
      names = (list_is, tt);
      distinct = refl;
      defaults = refl;
      required = refl;
      no_help = refl;
      no_subcommand = refl;
      negates = refl;
    }
