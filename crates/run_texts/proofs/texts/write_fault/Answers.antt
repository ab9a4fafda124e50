use Rattle.std.proofs.Common.{◌≡◌, ◌∙◌, ◌++◌, ℕ, List, codes, decimal, subst}
use Rattle.sec_base.specs.Faults.{IsCutShort}
use Rattle.aiger_codec.specs.Names.{name_of}
use Rattle.run_texts.specs.Texts.{about}
use Rattle.run_texts.proofs.CutShort.{cut_first, cut_then, on_err, on_err_map}
use Rattle.run_texts.proofs.texts.write_fault.Goals as goal

pub returns-in_err-write_about-clause-cut_short : goal.returns-in_err-write_about-clause-cut_short
returns-in_err-write_about-clause-cut_short g c = on_err _ _ (cut_first _ _ _ _ c.in_err-write_about.ensures.cut_short)

pub returns-clause-cut_short : goal.returns-clause-cut_short
returns-clause-cut_short g c =
    let kind : c.as_bytes.result.now ≡ name_of c.args.fault.kind = c.as_bytes.ensures.value ∙ c.name.ensures in
    on_err_map _ _ _
    (λ cut. subst (λ (k : List ℕ). IsCutShort (g.K.Sink.taken c.args.sink.now) (about c.args.name.now ++ ((k ++ codes " at byte ") ++ (decimal c.args.fault.at ++ codes "\n"))) (g.K.Sink.taken c.write_kind_and_place.new.sink)) kind
    (cut_then _ _ _ _ _ c.in_ok-write_about.ensures.ok cut)) c.write_kind_and_place.ensures.cut_short
