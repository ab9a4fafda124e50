use Rattle.run_texts.proofs.CutShort.{cut_first, cut_then, on_err, on_err_map}
use Rattle.run_texts.proofs.texts.write_kind_and_place.Goals as goal

pub returns-in_err-write_both-clause-cut_short : goal.returns-in_err-write_both-clause-cut_short
returns-in_err-write_both-clause-cut_short g c = on_err _ _ (cut_first _ _ _ _ c.in_err-write_both.ensures.cut_short)

pub returns-clause-cut_short : goal.returns-clause-cut_short
returns-clause-cut_short g c = on_err_map _ _ _ (cut_then _ _ _ _ _ c.in_ok-write_both.ensures.ok) c.write_number_and.ensures.cut_short
