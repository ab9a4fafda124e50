-- Symbol lines one after the other, both ways.
use Rattle.std.proofs.Common.{◌≡◌, ℕ, zero, suc, ◌+◌, ◌≤◌, ◌⊎◌, inl, inr, Bool, true, false, cond, eqb, ltb, ◌&&◌, List, [], ◌∷◌, ◌++◌, length, drop, get_or, Result, Ok, Err, refl, sym, ap, subst, ◌∙◌, arith, append_assoc, length-append, length-drop}
use Rattle.std.proofs.lemmas.Bool.{eqb-true, ltb-true, ltb-false}
use Rattle.std.proofs.lemmas.List.{drop_all, drop-drop}
use Rattle.std.proofs.Math.Seq.{drop-append_seam}
use Rattle.aiger_codec.specs.Symbols.{symbol_at, next_symbol, symbols_at}
use Rattle.aiger_codec.specs.Grammar.{SpellsSymbol, SpellsSymbols, IsUnread}
use Rattle.aiger_codec.specs.Laws.{StandsAt}
use Rattle.aiger_codec.specs.declared.fault.NetFault.{NetFault}
use Rattle.aiger_codec.specs.declared.symbols.Counts.{Counts}
use Rattle.plain_text.proofs.Choices.{chosen}
use Rattle.aiger_codec.proofs.Spelled.{and_both}
use Rattle.aiger_codec.proofs.DeltaSteps.{first_byte}
use Rattle.aiger_codec.proofs.DeltaLaws.{byte_at}
use Rattle.aiger_codec.proofs.SymbolSteps.{symbol_after, closed, opened}
use Rattle.aiger_codec.proofs.SymbolLaws.{symbol_spelled, symbol_read}

-- what was read of the symbols
record Read (counts : Counts) (bytes : List ℕ) (at end : ℕ) : Type 0 where
  n : ℕ
  text : List ℕ
  spelled : SpellsSymbols counts n text
  stands : StandsAt bytes at text end (drop end bytes)
  unread : IsUnread (drop end bytes)

unread_past : (bytes : List ℕ) (at : ℕ) → length bytes ≤ at → IsUnread (drop at bytes)
unread_past bytes at le = subst IsUnread (sym (drop_all at bytes le)) tt

-- a place where reading stops
unread_at : (bytes : List ℕ) (at : ℕ) (b c : Bool) → ltb at (length bytes) ≡ b → eqb (get_or bytes at 0) 99 ≡ c → (b && cond c false true) ≡ false → IsUnread (drop at bytes)
unread_at bytes at false c e f h = unread_past bytes at (ltb-false _ _ e)
unread_at bytes at true false e f h = absurd cc
unread_at bytes at true true e f h = subst IsUnread (sym (byte_at bytes at (ltb-true _ _ e))) (eqb-true _ _ f)

stops : (counts : Counts) (bytes : List ℕ) (at end : ℕ) → at ≡ end → IsUnread (drop at bytes) → Read counts bytes at end
stops counts bytes at end e unread =
    record {
      n = 0;
      text = [];
      spelled = refl;
      stands = record { is = ap (λ (k : ℕ). drop k bytes) e; ends = omega (arith, e) };
      unread = subst (λ (k : ℕ). IsUnread (drop k bytes)) e unread;
    }

abbrev found : ℕ → Result ℕ NetFault
found at = Ok at

place_is : (x y : ℕ) → found x ≡ found y → x ≡ y
place_is x y e = cc

next_is : (others : ℕ → Result ℕ NetFault) (r : Result ℕ NetFault) (end : ℕ) → next_symbol others r ≡ Ok end → (after : ℕ) × (r ≡ Ok after) × (others after ≡ Ok end)
next_is others (Ok after) end e = (after, refl, e)
next_is others (Err f) end e = absurd cc

-- a byte that begins no comment
no_comment : (c : Bool) → cond c false true ≡ true → c ≡ false
no_comment true e = absurd cc
no_comment false e = refl

joined : (counts : Counts) (bytes : List ℕ) (at after end : ℕ) (t : List ℕ) → SpellsSymbol counts t → StandsAt bytes at t after (drop after bytes) → Read counts bytes after end → Read counts bytes at end
joined counts bytes at after end t spelled stands r =
    record {
      n = suc r.n;
      text = t ++ r.text;
      spelled = (t, r.text, spelled, r.spelled, refl);
      stands = record {
        is = stands.is ∙ ap (λ (l : List ℕ). t ++ l) r.stands.is ∙ sym (append_assoc t r.text (drop end bytes));
        ends = omega (arith, stands.ends, r.stands.ends, length-append t r.text);
      };
      unread = r.unread;
    }

read_of : (fuel : ℕ) (counts : Counts) (bytes : List ℕ) (at end : ℕ) → length bytes ≤ at + fuel → symbols_at fuel counts bytes at ≡ Ok end → Read counts bytes at end
unfolding symbols_at
read_of zero counts bytes at end enough e = stops counts bytes at end (place_is at end e) (unread_past bytes at (omega arith))
read_of (suc fuel) counts bytes at end enough e =
    elim (chosen (ltb at (length bytes) && cond (eqb (get_or bytes at 0) 99) false true) _ _ (found end) e) [
      | inl p ↦
          let both = and_both _ _ p.0 in
          let next = next_is (symbols_at fuel counts bytes) (symbol_at counts bytes at) end p.1 in
          let after = symbol_after counts bytes at next.0 next.1 in
          let first = symbol_spelled counts bytes at next.0 (ltb-true _ _ both.0) next.1 in
          joined counts bytes at next.0 end first.0 first.1 first.2 (read_of fuel counts bytes next.0 end (omega arith) next.2)
      | inr p ↦ stops counts bytes at end (place_is at end p.1) (unread_at bytes at _ _ refl refl p.0)
    ]

pub symbols_spelled : (counts : Counts) (bytes : List ℕ) (at end : ℕ) → symbols_at (length bytes) counts bytes at ≡ Ok end
    → (n : ℕ) × (text : List ℕ) × SpellsSymbols counts n text × StandsAt bytes at text end (drop end bytes) × IsUnread (drop end bytes)
symbols_spelled counts bytes at end e = let r = read_of (length bytes) counts bytes at end (omega arith) e in (r.n, r.text, r.spelled, r.stands, r.unread)

-- ---- and back

stop_at : (bytes rest : List ℕ) (at : ℕ) → drop at bytes ≡ rest → IsUnread rest → (length bytes ≤ at) ⊎ (get_or bytes at 0 ≡ 99)
stop_at bytes [] at e unread = inl (omega (arith, ap length e, length-drop at bytes))
stop_at bytes (b ∷ rest) at e unread = let h = first_byte bytes at b rest e in inr (h.1 ∙ unread)

rest_of : (bytes : List ℕ) (at : ℕ) (t rest : List ℕ) → drop at bytes ≡ t ++ rest → drop (at + length t) bytes ≡ rest
rest_of bytes at t rest e = sym (drop-drop (length t) at bytes) ∙ ap (λ (l : List ℕ). drop (length t) l) e ∙ drop-append_seam t rest

read_again : (n fuel : ℕ) (counts : Counts) (bytes : List ℕ) (at end : ℕ) (text rest : List ℕ) → length bytes ≤ at + fuel → SpellsSymbols counts n text → StandsAt bytes at text end rest → IsUnread rest
    → symbols_at fuel counts bytes at ≡ Ok end
read_again zero fuel counts bytes at end text rest enough s stands unread =
    let is : drop at bytes ≡ rest = stands.is ∙ ap (λ (l : List ℕ). l ++ rest) s in
    let place : at ≡ end = omega (arith, stands.ends, ap length s) in
    closed counts bytes at fuel (stop_at bytes rest at is unread) ∙ ap found place
read_again (suc n) zero counts bytes at end text rest enough s stands unread =
    let is : drop at bytes ≡ s.0 ++ (s.1 ++ rest) = stands.is ∙ ap (λ (l : List ℕ). l ++ rest) s.4 ∙ append_assoc s.0 s.1 rest in
    let first = symbol_read counts bytes at (at + length s.0) s.0 (s.1 ++ rest) s.2 (record { is = is; ends = refl }) in
    absurd (omega (arith, first.0))
read_again (suc n) (suc fuel) counts bytes at end text rest enough s stands unread =
    let is : drop at bytes ≡ s.0 ++ (s.1 ++ rest) = stands.is ∙ ap (λ (l : List ℕ). l ++ rest) s.4 ∙ append_assoc s.0 s.1 rest in
    let first = symbol_read counts bytes at (at + length s.0) s.0 (s.1 ++ rest) s.2 (record { is = is; ends = refl }) in
    let after = symbol_after counts bytes at (at + length s.0) first.2 in
    let ends : end ≡ at + length s.0 + length s.1 = omega (arith, stands.ends, ap length s.4, length-append s.0 s.1) in
    opened counts bytes at fuel (Ok (at + length s.0)) first.0 first.1 first.2
    ∙ read_again n fuel counts bytes (at + length s.0) end s.1 rest (omega arith) s.3 (record { is = rest_of bytes at s.0 (s.1 ++ rest) is; ends = ends }) unread

pub symbols_read : (counts : Counts) (bytes : List ℕ) (at end n : ℕ) (text rest : List ℕ) → SpellsSymbols counts n text → StandsAt bytes at text end rest → IsUnread rest
    → symbols_at (length bytes) counts bytes at ≡ Ok end
symbols_read counts bytes at end n text rest s stands unread = read_again n (length bytes) counts bytes at end text rest (omega arith) s stands unread
