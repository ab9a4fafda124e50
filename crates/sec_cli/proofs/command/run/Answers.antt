use Rattle.std.proofs.Common.{◌≡◌, ◌≢◌, ◌⊎◌, ◌∙◌, ℕ, List, Option, Some, MatchBool, is_some, sym, subst, arith}
use Rattle.command_line.specs.Asked.{Asked, asked_of}
use Rattle.command_line.specs.Meant.{meant}
use Rattle.command_line.specs.Plain.{texts}
use Rattle.run_texts.specs.Told.{IsTold}
use Rattle.sec_base.specs.Faults.{Rose}
use Rattle.sec_cli.specs.Endings.{Ending}
use Rattle.sec_cli.specs.Reports.{World, IsReport, world_of}
use Rattle.sec_cli.specs.Runs.{IsJournalOfWords}
use Rattle.sec_cli.proofs.OneAnswer.{only_answer}
use Rattle.sec_cli.proofs.Concluding.{answered, moved, quiet, refused, unread, is_load, unwritten, no_journal, told_memory, out_stays, names_stay, files_stay, within, some_and, no_memory_journal}
use Rattle.sec_cli.proofs.command.run.Goals as goal

pub returns-in-Ok : goal.returns-in-Ok
returns-in-Ok g c =
    let words : List (List ℕ) = texts c.args.words.now in
    let command : Asked = asked_of c.in-Ok.command in
    let is : meant words ≡ Some command = c.in-Ok.ensures.meant in
    let d = c.decide-ending in
    let p = c.conclude in
    let tells = g.S.Shelf.tells in
    let e : Ending = d.result in
    let ended = d.ensures.ending in
    let low = d.ensures.status in
    let has = d.ensures.journal in
    let from = p.ensures.journal in
    let named = p.ensures.names ∙ d.ensures.names in
    let after : World = world_of (g.S.Shelf.file p.new.shelf) (g.S.Shelf.store_faults p.new.shelf) (g.O.Sink.taken p.new.out) (g.O.Sink.faults p.new.out) (g.E.Sink.taken p.new.err) (g.E.Sink.faults p.new.err) in
    let report = moved (λ (before : World). IsReport tells command e before after p.result.status) _ _ _ _ _ _ _ _ d.ensures.files d.ensures.store_count p.ensures.report in
    let bounds = within tells command e _ _ p.result.status low report in
    record {
      usage = subst (λ (o : Option Asked). MatchBool (is_some o) (p.result.status ≢ 3) ((p.result.status ≡ 3) ⊎ (p.result.status ≡ 7))) (sym is) bounds.1;
      no_command = λ three. absurd (bounds.1 three);
      told_usage = λ three. absurd (bounds.1 three);
      status = bounds.0;
      answered = λ le. some_and (meant words) command _ is (answered tells command e p.result.journal _ _ p.result.status low has from ended report le);
      one_answer = λ le. some_and (meant words) command _ is (only_answer tells command p.result.status p.result.journal _ _ (answered tells command e p.result.journal _ _ p.result.status low has from ended report le));
      refused = λ four. some_and (meant words) command _ is (refused tells command e p.result.journal _ _ p.result.status low has from ended report four);
      load_rose = λ five. subst (Rose (g.S.Shelf.load_faults c.args.shelf.now)) (sym p.ensures.load_count) (d.ensures.failed (is_load tells command e _ _ p.result.status low report five));
      unread = λ five. some_and (meant words) command _ is (unread tells command e _ _ _ _ p.result.status low ended named report five);
      unwritten = λ six. some_and (meant words) command _ is (unwritten tells command e p.result.journal _ _ p.result.status low has from ended report six);
      no_journal = λ high le. no_journal tells command e p.result.journal _ _ p.result.status low has from report high le;
      last_journal = λ seven. subst (λ (o : Option Asked). IsJournalOfWords tells (g.S.Shelf.file c.args.shelf.now) o p.result.journal) (sym is) (e, ended, from);
      told_memory = λ seven. told_memory tells command e _ _ p.result.status low report seven;
      out_stays = λ high not_four not_six. out_stays tells command e _ _ p.result.status low report high not_four not_six;
      err_stays = λ le. quiet tells command e _ _ p.result.status report le;
      names = λ not_five. names_stay tells command e _ _ _ _ p.result.status named report not_five;
      files = λ high not_six. files_stay tells command e _ _ p.result.status report high not_six;
      load_count = omega (arith, d.ensures.load_count, p.ensures.load_count);
      store_count = omega (arith, d.ensures.store_count, p.ensures.store_count);
      out_count = p.ensures.out_count;
      err_count = p.ensures.err_count;
    }

pub returns-in-Err-NotACommand-clause-told_usage : goal.returns-in-Err-NotACommand-clause-told_usage
returns-in-Err-NotACommand-clause-told_usage g c three =
    let t = c.tell in
    subst (λ (text : List ℕ). IsTold (g.E.Sink.taken c.args.err.now) (g.E.Sink.faults c.args.err.now) text (g.E.Sink.taken t.new.err) (g.E.Sink.faults t.new.err)) c.as_bytes.ensures.value t.ensures.told

pub returns-in-Err-Memory-clause-last_journal : goal.returns-in-Err-Memory-clause-last_journal
returns-in-Err-Memory-clause-last_journal g c = λ seven. no_memory_journal g.S.Shelf.tells (g.S.Shelf.file c.args.shelf.now) (meant (texts c.args.words.now))
