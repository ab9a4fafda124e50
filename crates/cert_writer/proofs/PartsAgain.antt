-- Parts of members that are written are read again.
use Rattle.std.proofs.Common.{◌≡◌, ◌≢◌, ◌∙◌, ◌<◌, ◌≤◌, ◌+◌, ℕ, zero, suc, Bool, true, false, List, [], ◌∷◌, ◌++◌, length, Some, None, Option, refl, sym, ap, subst, arith, codes, append_assoc, inl}
use Rattle.std.specs.List.{AllByRecursion, range_with_len}
use Rattle.std.proofs.lemmas.Bool.{eq-eqb}
use Rattle.circ_model.specs.Meaning.{Pair, IsSoundPair, places_of}
use Rattle.class_partition.specs.Classes.{Classes, is_least}
use Rattle.cnf_store.specs.Clauses.{Formula}
use Rattle.product_machine.specs.Signals.{signal_at}
use Rattle.sat_log.specs.Derivations.{Line}
use Rattle.plain_text.specs.Pieces.{pieces}
use Rattle.sat_log.specs.Texts.{log_text}
use Rattle.sat_log.specs.Parts.{Part, part, part_from, starts_log}
use Rattle.sat_log.specs.declared.part.Stop.TheVariants as stops
use Rattle.plain_text.proofs.Again.{piece_again}
use Rattle.sat_log.proofs.Again.{part_again}
use Rattle.class_text.specs.ClassLines.{name_of}
use Rattle.corr_certificate.specs.declared.fault.Checked.TheVariants.{Yes}
use Rattle.corr_certificate.specs.Names.{stripped}
use Rattle.corr_certificate.specs.Parts.{Either, More, AfterLog, ReadsLog, is_member, begins, Begins, ReadsPart, ReadsMember, ReadsMembers, ReadsEnd, base_formula, step_formula}
use Rattle.cert_writer.specs.Writing.{part_text, Derives, IsMember, AreMembers}
use Rattle.cert_writer.proofs.NamesAgain.{small_at, named_again, name_plain}

-- a text that begins with a whole line that is of no log and no class
pub record Follows (text : List ℕ) : Type 0 where
  pub line : List ℕ
  pub rest : List ℕ
  pub is : text ≡ line ++ 10 ∷ rest
  pub plain : AllByRecursion (λ b. b ≢ 10) line
  pub no_log : starts_log line ≡ false
  pub no_class : stripped (codes "class ") line ≡ None

-- the line that begins a part, and what stands behind it
pub part_split : (pair : Pair) (keyword : List ℕ) (p : ℕ) (log : List Line) (rest : List ℕ) → part_text pair keyword p log ++ rest ≡ (keyword ++ name_of (signal_at pair p)) ++ 10 ∷ (log_text log ++ rest)
part_split pair keyword p log rest =
    let name : List ℕ = name_of (signal_at pair p) in
    append_assoc keyword (name ++ 10 ∷ log_text log) rest
    ∙ ap (λ (l : List ℕ). keyword ++ l) (append_assoc name (10 ∷ log_text log) rest)
    ∙ sym (append_assoc keyword name (10 ∷ (log_text log ++ rest)))

base_plain : (pair : Pair) (p : ℕ) → IsSoundPair pair → p < places_of pair → AllByRecursion (λ b. b ≢ 10) (codes "base " ++ name_of (signal_at pair p))
base_plain pair p sound lt =
    ((λ e. omega arith), ((λ e. omega arith), ((λ e. omega arith), ((λ e. omega arith), ((λ e. omega arith), name_plain 10 (signal_at pair p) (omega arith) (small_at pair p sound lt))))))

step_plain : (pair : Pair) (p : ℕ) → IsSoundPair pair → p < places_of pair → AllByRecursion (λ b. b ≢ 10) (codes "step " ++ name_of (signal_at pair p))
step_plain pair p sound lt =
    ((λ e. omega arith), ((λ e. omega arith), ((λ e. omega arith), ((λ e. omega arith), ((λ e. omega arith), name_plain 10 (signal_at pair p) (omega arith) (small_at pair p sound lt))))))

base_begins : (pair : Pair) (p : ℕ) → IsSoundPair pair → p < places_of pair → begins pair (codes "base ") p (codes "base " ++ name_of (signal_at pair p)) ≡ Some true
base_begins pair p sound lt = ap (is_member p) (named_again pair p sound lt) ∙ ap (λ (b : Bool). Some b) (eq-eqb p p refl)

step_begins : (pair : Pair) (p : ℕ) → IsSoundPair pair → p < places_of pair → begins pair (codes "step ") p (codes "step " ++ name_of (signal_at pair p)) ≡ Some true
step_begins pair p sound lt = ap (is_member p) (named_again pair p sound lt) ∙ ap (λ (b : Bool). Some b) (eq-eqb p p refl)

-- a log ends where another line follows
log_ends : (log : List Line) (n : ℕ) (rest : List ℕ) → Follows rest → part_from log n (pieces 10 rest) ≡ part stops.Ends n log (pieces 10 rest)
unfolding part_from
log_ends log n rest f =
    let p : pieces 10 rest ≡ f.line ∷ pieces 10 f.rest = ap (pieces 10) f.is ∙ piece_again 10 f.line f.rest f.plain in
    let t = f.no_log in
    rw (p, t) refl

pub part_reads : (pair : Pair) (keyword : List ℕ) (p : ℕ) (formula : Formula) (log : List Line) (text rest : List ℕ) (more : More) (n : ℕ) → text ≡ part_text pair keyword p log ++ rest
    → AllByRecursion (λ b. b ≢ 10) (keyword ++ name_of (signal_at pair p)) → begins pair keyword p (keyword ++ name_of (signal_at pair p)) ≡ Some true
    → Derives formula log → Follows rest → more (n + 1 + length log) (pieces 10 rest) → ReadsPart pair keyword p formula Yes more n (pieces 10 text)
part_reads pair keyword p formula log text rest more n is plain begin derives follows then =
    let line : List ℕ = keyword ++ name_of (signal_at pair p) in
    let after : List (List ℕ) = pieces 10 (log_text log ++ rest) in
    let ls : pieces 10 text ≡ line ∷ after = ap (pieces 10) (is ∙ part_split pair keyword p log rest) ∙ piece_again 10 line (log_text log ++ rest) plain in
    let e : part_from [] (n + 1) after ≡ part stops.Ends (n + 1 + length log) log (pieces 10 rest) = part_again [] log (n + 1) rest derives.lines derives.hints ∙ log_ends log (n + 1 + length log) rest follows in
    subst (λ (l : List (List ℕ)). ReadsPart pair keyword p formula Yes more n l) (sym ls)
    (subst (λ (b : Option Bool). Begins b Yes n (ReadsLog formula Yes more (n + 1) after)) (sym begin)
    (subst (λ (x : Part). AfterLog formula (n + 1) Yes more x.line x.log x.rest x.stop) (sym e) (inl (derives.accepted, then))))

-- what a step's part begins with
step_follows : (pair : Pair) (p : ℕ) (log : List Line) (rest : List ℕ) → IsSoundPair pair → p < places_of pair → Follows (part_text pair (codes "step ") p log ++ rest)
step_follows pair p log rest sound lt = record {
  line = codes "step " ++ name_of (signal_at pair p);
  rest = log_text log ++ rest;
  is = part_split pair (codes "step ") p log rest;
  plain = step_plain pair p sound lt;
  no_log = refl;
  no_class = refl;
}

-- and what the parts begin with
pub members_follow : (pair : Pair) (k : ℕ) (classes : Classes) (from count : ℕ) (text : List ℕ) → IsSoundPair pair → from + count ≤ places_of pair → AreMembers pair k classes (range_with_len from count) text → Follows text
members_follow pair k classes from zero text sound le h = record {
  line = codes "end";
  rest = [];
  is = h;
  plain = ((λ e. omega arith), ((λ e. omega arith), ((λ e. omega arith), tt)));
  no_log = refl;
  no_class = refl;
}
members_follow pair k classes from (suc count) text sound le h = by (is_least classes from) (λ t x. members_follow pair k classes (from + 1) count t sound (omega arith) x) h
  where
    by : (b : Bool) → ((t : List ℕ) → AreMembers pair k classes (range_with_len (from + 1) count) t → Follows t) → Either b (AreMembers pair k classes (range_with_len (from + 1) count) text) ((rest : List ℕ) × IsMember pair k classes from text rest × AreMembers pair k classes (range_with_len (from + 1) count) rest) → Follows text
    by true then h = then text h
    by false then (rest, m, more) = record {
      line = codes "base " ++ name_of (signal_at pair from);
      rest = log_text m.base ++ (part_text pair (codes "step ") from m.step ++ rest);
      is = m.is ∙ part_split pair (codes "base ") from m.base (part_text pair (codes "step ") from m.step ++ rest);
      plain = base_plain pair from sound (omega arith);
      no_log = refl;
      no_class = refl;
    }

end_reads : (text : List ℕ) (n : ℕ) → text ≡ codes "end\n" → ReadsEnd true Yes n (pieces 10 text)
unfolding pieces
end_reads text n is = subst (λ (t : List ℕ). ReadsEnd true Yes n (pieces 10 t)) (sym is) refl

pub members_read : (pair : Pair) (k : ℕ) (classes : Classes) (from count : ℕ) (text : List ℕ) (n : ℕ) → IsSoundPair pair → from + count ≤ places_of pair → AreMembers pair k classes (range_with_len from count) text
    → ReadsMembers pair k classes true Yes (range_with_len from count) n (pieces 10 text)
members_read pair k classes from zero text n sound le h = end_reads text n h
members_read pair k classes from (suc count) text n sound le h = by (is_least classes from) (λ t m x. members_read pair k classes (from + 1) count t m sound (omega arith) x) h
  where
    by : (b : Bool) → ((t : List ℕ) (m : ℕ) → AreMembers pair k classes (range_with_len (from + 1) count) t → ReadsMembers pair k classes true Yes (range_with_len (from + 1) count) m (pieces 10 t))
        → Either b (AreMembers pair k classes (range_with_len (from + 1) count) text) ((rest : List ℕ) × IsMember pair k classes from text rest × AreMembers pair k classes (range_with_len (from + 1) count) rest)
        → Either b (ReadsMembers pair k classes true Yes (range_with_len (from + 1) count) n (pieces 10 text)) (ReadsMember pair k classes from Yes (ReadsMembers pair k classes true Yes (range_with_len (from + 1) count)) n (pieces 10 text))
    by true then h = then text n h
    by false then (rest, m, more) =
        let lt : from < places_of pair = omega arith in
        let step : List ℕ = part_text pair (codes "step ") from m.step ++ rest in
        part_reads pair (codes "base ") from (base_formula pair k classes from) m.base text step
        (ReadsPart pair (codes "step ") from (step_formula pair k classes from) Yes (ReadsMembers pair k classes true Yes (range_with_len (from + 1) count))) n
        m.is (base_plain pair from sound lt) (base_begins pair from sound lt) m.base_derives (step_follows pair from m.step rest sound lt)
        (part_reads pair (codes "step ") from (step_formula pair k classes from) m.step step rest (ReadsMembers pair k classes true Yes (range_with_len (from + 1) count)) (n + 1 + length m.base)
        refl (step_plain pair from sound lt) (step_begins pair from sound lt) m.step_derives (members_follow pair k classes (from + 1) count rest sound (omega arith) more)
        (then rest (n + 1 + length m.base + 1 + length m.step) more))

-- they end with an LF
pub members_end : (pair : Pair) (k : ℕ) (classes : Classes) (ps text : List ℕ) → AreMembers pair k classes ps text → (front : List ℕ) × (text ≡ front ++ 10 ∷ [])
members_end pair k classes [] text h = (codes "end", h)
members_end pair k classes (p ∷ ps) text h = by (is_least classes p) (λ t x. members_end pair k classes ps t x) h
  where
    by : (b : Bool) → ((t : List ℕ) → AreMembers pair k classes ps t → (front : List ℕ) × (t ≡ front ++ 10 ∷ [])) → Either b (AreMembers pair k classes ps text) ((rest : List ℕ) × IsMember pair k classes p text rest × AreMembers pair k classes ps rest) → (front : List ℕ) × (text ≡ front ++ 10 ∷ [])
    by true then h = then text h
    by false then (rest, m, more) =
        let (front, e) = then rest more in
        let base : List ℕ = part_text pair (codes "base ") p m.base in
        let step : List ℕ = part_text pair (codes "step ") p m.step in
        (base ++ (step ++ front), m.is ∙ ap (λ (l : List ℕ). base ++ (step ++ l)) e ∙ ap (λ (l : List ℕ). base ++ l) (sym (append_assoc step front (10 ∷ []))) ∙ sym (append_assoc base (step ++ front) (10 ∷ [])))
