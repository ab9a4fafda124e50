use Rattle.std.proofs.Common.{◌∙◌, ◌++◌, ℕ, ap, codes, decimal, Bool}
use Rattle.circ_model.specs.Meaning.{places_of}
use Rattle.cert_writer.specs.Writing.{tie_text}
use Rattle.cert_writer.proofs.Adding.{head_is}
use Rattle.cert_writer.proofs.writing.push_head.Goals as goal

pub returns : goal.returns
returns c =
    head_is c.args.text.now.items c.push_field.new.text.items c.push_field-2.new.text.items c.push_tie.new.text.items (codes "seccert 2 k=" ++ decimal c.args.k) (codes " signals=" ++ decimal (places_of c.args.product.now)) (tie_text c.args.product.now.tied)
    c.in_ok-push_field.ensures (c.in_ok-push_field-2.ensures ∙ ap (λ (n : ℕ). c.push_field.new.text.items ++ (codes " signals=" ++ decimal n)) c.len.ensures.places) (c.in_ok-push_tie.ensures ∙ ap (λ (b : Bool). c.push_field-2.new.text.items ++ tie_text b) c.is_tied.ensures)
