use Rattle.std.proofs.Common.{◌∙◌, List, Option, ℕ, ap₂, sym}
use Rattle.sec_base.specs.Faults.{appended}
use Rattle.sec_base.proofs.Pieces.{appended_none}
use Rattle.sec_cli.proofs.Concluding.{third_name_failed}
use Rattle.sec_cli.proofs.command.verify_files.Goals as goal

pub returns-clause-names : goal.returns-clause-names
returns-clause-names g c =
    let a = c.args in
    let done = c.verify_file in
    done.ensures.names
    ∙ ap₂ (λ (names : Option (List (List ℕ))) (more : List (List ℕ)). appended names more) (c.in_ok-product.ensures.names ∙ appended_none _)
    (sym (third_name_failed a.left.now a.right.now a.cert.now done.result done.ensures.no_pair))
