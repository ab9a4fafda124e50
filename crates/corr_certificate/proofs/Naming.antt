-- What the place of a name's signal is.
use Rattle.std.proofs.Common.{◌≡◌, ◌∙◌, ◌<◌, ℕ, List, sym, ap, Contains}
use Rattle.std.specs.Prelude.{Option, Some, None, IfSome, IfNone}
use Rattle.circ_model.specs.declared.netlist.Signal.{Signal}
use Rattle.circ_model.specs.Meaning.{Pair, IsSoundPair, places_of}
use Rattle.product_machine.specs.Cells.{signals}
use Rattle.product_machine.specs.Signals.{signal_at}
use Rattle.corr_certificate.specs.Names.{signal_of, place_of, named}
use Rattle.corr_certificate.proofs.Places.{placed, unplaced}

pub named_by : (pair : Pair) (name : List ℕ) (s : Signal) (r : Option ℕ) → IsSoundPair pair → signal_of name ≡ Some s
    → IfSome r (λ (p : ℕ). p < places_of pair) → IfSome r (λ (p : ℕ). signal_at pair p ≡ s) → IfNone r (Contains (signals pair) s → ⊥) → r ≡ named pair name
named_by pair name s None sound e within found none = sym (unplaced pair s none) ∙ sym (ap (place_of pair) e)
named_by pair name s (Some p) sound e within found none = sym (placed pair s p sound within found) ∙ sym (ap (place_of pair) e)
