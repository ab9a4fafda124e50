use Rattle.std.proofs.Common.{◌++◌, ◌∷◌, [], ◌∙◌, ◌<◌, ◌≤◌, ◌^◌, length, ℕ, ℤ, List, ap, arith, subst}
use Rattle.std.specs.List.{All}
use Rattle.sat_log.specs.Derivations.{line_at}
use Rattle.sat_log.specs.Texts.{step_text, log_text}
use Rattle.sat_log.proofs.Again.{log_read}
use Rattle.sat_log.proofs.Written.{text_more, small_more, text_all, small_all}
use Rattle.sat_log.proofs.text.write_log.Goals as goal

pub loop-i-preserved : goal.loop-i-preserved
loop-i-preserved c =
    let lines = c.args.log.now in
    let i : ℕ = c.loop-i.i in
    let test = c.loop-i-test.true in
    let lt : i < length lines = omega (arith, test, c.len-i-end.ensures.value) in
    let e = c.in_ok-push_step.ensures in
    let written = e.text ∙ ap (λ (ls : List ℤ). c.loop-i.into.items ++ (step_text ls c.hints.result.now ++ 10 ∷ [])) c.clause.ensures.value
    ∙ ap (λ (hs : List ℕ). c.loop-i.into.items ++ (step_text (line_at lines i).literals hs ++ 10 ∷ [])) c.hints.ensures.value in
    record {
      text = text_more lines i c.loop-i.into.items (c.args.into.now.items ++ log_text lines) c.push_step.new.into.items lt c.loop-i.invariant.text written;
      small = small_more lines i lt c.loop-i.invariant.small (subst (All (λ (h : ℕ). h < 2 ^ 64)) c.hints.ensures.value e.small);
    }

pub returns-clause-text : goal.returns-clause-text
returns-clause-text c =
    let test = c.loop-i-test.false in
    let le : length c.args.log.now ≤ c.loop-i.i = omega (arith, test, c.len-i-end.ensures.value) in
    text_all c.args.log.now c.loop-i.i c.loop-i.into.items (c.args.into.now.items ++ log_text c.args.log.now) le c.loop-i.invariant.text

pub returns-clause-again : goal.returns-clause-again
returns-clause-again c =
    let test = c.loop-i-test.false in
    let le : length c.args.log.now ≤ c.loop-i.i = omega (arith, test, c.len-i-end.ensures.value) in
    log_read c.args.log.now c.len-i-end.ensures.lines (small_all c.args.log.now c.loop-i.i le c.loop-i.invariant.small)

pub returns-clause-hints : goal.returns-clause-hints
returns-clause-hints c =
    let test = c.loop-i-test.false in
    let le : length c.args.log.now ≤ c.loop-i.i = omega (arith, test, c.len-i-end.ensures.value) in
    small_all c.args.log.now c.loop-i.i le c.loop-i.invariant.small
