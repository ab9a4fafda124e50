use Rattle.std.proofs.Common.{◌∙◌, sym}
use Rattle.sec_base.proofs.Names.{put_found, put_new}
use Rattle.sec_base.proofs.files.Files.put.Goals as goal

pub returns-in-Some-clause-ok : goal.returns-in-Some-clause-ok
returns-in-Some-clause-ok c =
    put_found _ _ _ _ _ c.args.bytes.now _ c.self.view_is c.in_ok-from_str.ensures.ok c.in_ok-from_slice.ensures.items (sym c.place_of.ensures ∙ c.in-Some.is)

pub returns-in_ok-push-in-None-clause-ok : goal.returns-in_ok-push-in-None-clause-ok
returns-in_ok-push-in-None-clause-ok c =
    c.in_ok-push-in-None.ensures.items ∙ put_new _ _ _ _ _ c.args.bytes.now c.self.view_is c.in_ok-from_str.ensures.ok c.in_ok-from_slice.ensures.items (sym c.place_of.ensures ∙ c.in-None.is)
