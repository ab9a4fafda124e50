use Rattle.run_texts.proofs.CutShort.{cut_first, cut_then, on_err, on_err_map}
use Rattle.run_texts.proofs.texts.write_about_file.Goals as goal

pub returns-in_err-write_about-clause-cut_short : goal.returns-in_err-write_about-clause-cut_short
returns-in_err-write_about-clause-cut_short g c = on_err _ _ (cut_first _ _ _ _ c.in_err-write_about.ensures.cut_short)

pub returns-clause-cut_short : goal.returns-clause-cut_short
returns-clause-cut_short g c = on_err_map _ _ _ (cut_then _ _ _ _ _ c.in_ok-write_about.ensures.ok) c.write_text.ensures.cut_short
