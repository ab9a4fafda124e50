-- A file that is accepted is spelled so, and a file that is spelled so is accepted.
use Rattle.std.proofs.Common.{◌≡◌, ◌∙◌, ℕ, ◌+◌, Bool, true, false, List, ◌++◌, length, drop, Result, Ok, Err, refl, sym, ap, subst, arith}
use Rattle.std.proofs.lemmas.List.{drop-drop}
use Rattle.std.proofs.Math.Seq.{drop-append_seam}
use Rattle.circ_model.specs.Netlist.{Netlist}
use Rattle.aig_graph.specs.Finish.{IsFinished}
use Rattle.aiger_codec.specs.declared.fault.NetFault.{NetFault}
use Rattle.aiger_codec.specs.declared.header.Header.{Header}
use Rattle.aiger_codec.specs.Header.{header_at, IsWithinLimits}
use Rattle.aiger_codec.specs.Symbols.{symbols_at}
use Rattle.aiger_codec.proofs.HeaderLaws.{header_spelled}
use Rattle.aiger_codec.proofs.HeaderAgain.{header_is_read}
use Rattle.aiger_codec.proofs.SymbolsLaws.{symbols_spelled, symbols_read}
use Rattle.aiger_codec.proofs.Room.{bind_is}
use Rattle.aiger_text.proofs.Bodies.{body_take}
use Rattle.aiger_text.proofs.Again.{body_again}
use Rattle.aiger_binary.proofs.Bodies.{binary_take}
use Rattle.aiger_binary.proofs.Again.{binary_again}
use Rattle.aiger_file.specs.Files.{counts_of, in_form, after_symbols, IsNetlistFile}
use Rattle.aiger_file.specs.Grammar.{SpellsForm, SpellsFile, AreBytes}

form_take : (b : Bool) (h : Header) (bytes : List ℕ) (t : Netlist × ℕ) → IsWithinLimits h → AreBytes bytes → in_form b h bytes ≡ Ok t → (text : List ℕ) × SpellsForm b h text t.0 × (drop h.end bytes ≡ text ++ drop t.1 bytes) × (t.1 ≡ h.end + length text)
form_take true h bytes t limits are e = binary_take h bytes t limits.variables limits.outputs limits.sections are e
form_take false h bytes t limits are e = body_take h bytes t limits.variables limits.outputs e

form_again : (b : Bool) (h : Header) (bytes text rest : List ℕ) (given : Netlist) → IsWithinLimits h → SpellsForm b h text given → drop h.end bytes ≡ text ++ rest → in_form b h bytes ≡ Ok (given, h.end + length text)
form_again true h bytes text rest given limits s stands = binary_again h bytes text rest given limits.variables limits.sections s stands
form_again false h bytes text rest given limits s stands = body_again h bytes text rest given s stands

after_is : (g n : Netlist) (r : Result ℕ NetFault) → after_symbols g r ≡ Ok n → (end : ℕ) × (r ≡ Ok end) × (g ≡ n)
after_is g n (Ok end) e = (end, refl, cc)
after_is g n (Err f) e = absurd cc

pub file_spelled : (bytes : List ℕ) (net : Netlist) → AreBytes bytes → IsNetlistFile bytes net → SpellsFile bytes net
file_spelled bytes net are file =
    let a = bind_is (header_at bytes) _ file.0 file.1 in
    let h : Header = a.0 in
    let c = bind_is (in_form h.binary h bytes) _ file.0 a.2 in
    let head = header_spelled bytes h a.1 in
    let body = form_take h.binary h bytes c.0 head.1.limits are c.1 in
    let d = after_is c.0.0 file.0 (symbols_at (length bytes) (counts_of h) bytes c.0.1) c.2 in
    let s = symbols_spelled (counts_of h) bytes c.0.1 d.0 d.1 in
    record {
      head = head.0;
      body = body.0;
      symbols = s.1;
      unread = drop d.0 bytes;
      is = head.2.is ∙ ap (λ (l : List ℕ). head.0 ++ l) (body.2 ∙ ap (λ (l : List ℕ). body.0 ++ l) s.3.is);
      header = h;
      header_line = head.1;
      header_end = omega (arith, head.2.ends);
      given = c.0.0;
      sections = body.1;
      symbol_count = s.0;
      symbol_lines = s.2;
      comment = s.4;
      finished = subst (λ (g : Netlist). IsFinished g net) (sym d.2) file.2;
    }

pub after : (bytes : List ℕ) (at : ℕ) (text rest : List ℕ) → drop at bytes ≡ text ++ rest → drop (at + length text) bytes ≡ rest
after bytes at text rest is = sym (drop-drop (length text) at bytes) ∙ ap (λ (l : List ℕ). drop (length text) l) is ∙ drop-append_seam text rest

pub file_read : (bytes : List ℕ) (net : Netlist) → SpellsFile bytes net → IsNetlistFile bytes net
file_read bytes net f =
    let h : Header = f.header in
    let rest : List ℕ = f.body ++ (f.symbols ++ f.unread) in
    let at : ℕ = h.end + length f.body in
    let from : h.end ≡ 0 + length f.head = omega (arith, f.header_end) in
    let past : drop h.end bytes ≡ rest = ap (λ (k : ℕ). drop k bytes) from ∙ after bytes 0 f.head rest f.is in
    let head = header_is_read bytes h f.head rest f.header_line (record { is = f.is; ends = from }) in
    let body = form_again h.binary h bytes f.body (f.symbols ++ f.unread) f.given f.header_line.limits f.sections past in
    let symbols = symbols_read (counts_of h) bytes at (at + length f.symbols) f.symbol_count f.symbols f.unread f.symbol_lines (record { is = after bytes h.end f.body (f.symbols ++ f.unread) past; ends = refl }) f.comment in
    (f.given, rw (head, body, symbols) refl, f.finished)
