-- New numbers for the variables of a sound netlist: what the table says, and that each gate's own is the greatest.
use Rattle.std.proofs.Common.{◌≡◌, ◌≢◌, ◌∙◌, ◌<◌, ◌+◌, ⊎_elim, ℕ, List, length, get_or, set, arith}
use Rattle.std.proofs.lemmas.Bool.{cases_eq}
use Rattle.std.proofs.lemmas.List.{length-set, get_or-set_same, get_or-set_other}
use Rattle.std.proofs.lemmas.List.Elements.{All-set}
use Rattle.circ_model.specs.Netlist.{Netlist, IsSound, variables}
use Rattle.aiger_codec.specs.Renumbering.{IsNumbering}

-- one variable more
pub numbering_more : (net : Netlist) (q : ℕ) (table : List ℕ) → IsSound net → q < length (variables net) → q < 2147483648 → IsNumbering net q table → IsNumbering net (q + 1) (set table (get_or (variables net) q 0) q)
numbering_more net q table sound lt low h = record {
  small = All-set (λ p. p < 2147483648) table (get_or (variables net) q 0) q low h.small;
  size = length-set table (get_or (variables net) q 0) q ∙ h.size;
  at = λ r less within. ⊎_elim
      (λ (s : r ≡ q). let room = sound.in_range q 0 lt in rw s (get_or-set_same table (get_or (variables net) q 0) q 0 (let z = h.size in omega arith)))
      (λ (n : r ≢ q). get_or-set_other table (get_or (variables net) q 0) (get_or (variables net) r 0) q 0 (λ z. sound.once r q 0 (omega arith) lt z) ∙ h.at r (omega arith) within)
      (cases_eq r q);
}
