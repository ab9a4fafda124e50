use Rattle.std.proofs.Common.{◌≡◌, ◌∙◌, false, sym}
use Rattle.command_line.specs.Meant.{is_taken, taken_command}
use Rattle.command_line.specs.Plain.{texts}
use Rattle.command_line.proofs.Taking.{taken, has_command, refused, refused_asks, command_there, command_is}
use Rattle.command_line.proofs.taken.taken_command.Goals as goal

pub unwrap-requires : goal.unwrap-requires
unwrap-requires c =
    let m = c.in-Ok-try_get_matches_from in
    command_there c.matched.result _ c.matched.ensures.command (has_command (texts c.args.words.now) _ m.matches c.in-Ok.ensures.same m.ensures.kinds m.ensures.matches)

pub returns-in-Ok-try_get_matches_from-clause-read : goal.returns-in-Ok-try_get_matches_from-clause-read
returns-in-Ok-try_get_matches_from-clause-read c =
    let m = c.in-Ok-try_get_matches_from in
    let words = texts c.args.words.now in
    let read = taken words _ m.matches c.in-Ok.ensures.same m.ensures.kinds m.ensures.matches in
    command_is c.matched.result c.unwrap.result (taken_command words) (c.matched.ensures.command ∙ sym read) c.unwrap.ensures

pub returns : goal.returns
returns c =
    let e = c.in-Err in
    let words = texts c.args.words.now in
    let none : is_taken words ≡ false = refused words _ e.error c.in-Ok.ensures.same e.ensures.kinds (λ h. c.in_default-kind.not-OutOfMemory (c.kind.ensures ∙ h)) in
    record { read = λ _. refused_asks words none; refused = λ _. none; taken = λ is. cc; within = tt }
