use Rattle.std.proofs.Common.{◌≡◌, ℕ, List, Option, Some, None, subst, sym}
use Rattle.std.specs.Result.{MatchResult}
use Rattle.std.proofs.lemmas.Result.{IfErr-weaker}
use Rattle.command_line.specs.declared.command.WordsFault.TheVariants.{NotACommand}
use Rattle.command_line.specs.Asked.{Asked, asked_of}
use Rattle.command_line.specs.Plain.{texts}
use Rattle.command_line.proofs.PlainTaken.{plain_agrees, plain_is_taken, refused_is_not_plain, meant_is_taken}
use Rattle.command_line.proofs.read.read_words.Goals as goal

pub returns : goal.returns
returns c =
    let words : List (List ℕ) = texts c.args.words.now in
    let t = c.taken_command in
    record {
      meant = subst (λ (m : Option Asked). MatchResult t.result (λ x. m ≡ Some (asked_of x)) (λ e. e ≡ NotACommand → m ≡ None)) (sym (meant_is_taken words)) t.ensures.read;
      plain = λ some. t.ensures.taken (plain_is_taken words some);
      agree = plain_agrees words;
      refused = IfErr-weaker t.result _ _ (λ e h no. record { plain = refused_is_not_plain words (h no); taken = h no }) t.ensures.refused;
      taken = t.ensures.taken;
      within = t.ensures.within;
    }
