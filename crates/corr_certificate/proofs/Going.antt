-- Reading goes on from part to part.
use Rattle.std.proofs.Common.{◌≡◌, ◌<◌, ℕ, ◌+◌, ◌-◌, Bool, true, false, List, [], ◌∷◌, sym, ap₂, subst, inl, inr}
use Rattle.std.specs.Prelude.{Option, Some, None, codes}
use Rattle.std.specs.List.{range_with_len}
use Rattle.circ_model.specs.Meaning.{Pair}
use Rattle.class_partition.specs.Classes.{Classes, is_least}
use Rattle.cnf_store.specs.Clauses.{Formula}
use Rattle.frame_unroll.specs.Unrolled.{Unrolling, formula_of, asks, asking}
use Rattle.sat_log.specs.Derivations.{Line}
use Rattle.sat_log.specs.Parts.{Part, part_from}
use Rattle.sat_log.specs.declared.part.Stop.{Stop}
use Rattle.sat_log.specs.declared.part.Stop.TheVariants as stops
use Rattle.corr_certificate.specs.declared.fault.CertKind.{CertKind}
use Rattle.corr_certificate.specs.declared.fault.Checked.{Checked}
use Rattle.corr_certificate.specs.declared.fault.Checked.TheVariants.{No}
use Rattle.corr_certificate.specs.Parts.{Either, More, AfterLog, ReadsLog, begins, Begins, ReadsPart, ReadsMember, ReadsMembers, base_formula, step_formula, IsOn, IsFault, IsMemberOn, IsMemberFault}
use Rattle.corr_certificate.proofs.Ranges.{range_left}

-- a part is read, and what follows it
pub part_on : (pair : Pair) (keyword : List ℕ) (p : ℕ) (formula : Formula) (r : Checked) (more : More) (n line : ℕ) (ls rest : List (List ℕ))
    → IsOn pair keyword p formula n ls line rest → more line rest → ReadsPart pair keyword p formula r more n ls
part_on pair keyword p formula r more n line [] rest on then = absurd on
part_on pair keyword p formula r more n line (l ∷ ls) rest (t, log, e, ok) then =
    subst (λ (b : Option Bool). Begins b r n (ReadsLog formula r more (n + 1) ls)) (sym t)
    (subst (λ (x : Part). AfterLog formula (n + 1) r more x.line x.log x.rest x.stop) (sym e) (inl (ok, then)))

-- whatever follows
pub part_map : (pair : Pair) (keyword : List ℕ) (p : ℕ) (formula : Formula) (r : Checked) (before after : More) → ((m : ℕ) (ms : List (List ℕ)) → before m ms → after m ms)
    → (n : ℕ) (ls : List (List ℕ)) → ReadsPart pair keyword p formula r before n ls → ReadsPart pair keyword p formula r after n ls
part_map pair keyword p formula r before after f n [] h = h
part_map pair keyword p formula r before after f n (l ∷ ls) h = by (begins pair keyword p l) h
  where
    by_stop : (line : ℕ) (log : List Line) (rest : List (List ℕ)) (stop : Stop) → AfterLog formula (n + 1) r before line log rest stop → AfterLog formula (n + 1) r after line log rest stop
    by_stop line log rest stops.Cut h = h
    by_stop line log rest stops.Wrong h = h
    by_stop line log rest stops.Ends (inl a) = inl (a.0, f line rest a.1)
    by_stop line log rest stops.Ends (inr b) = inr b

    by : (b : Option Bool) → Begins b r n (ReadsLog formula r before (n + 1) ls) → Begins b r n (ReadsLog formula r after (n + 1) ls)
    by None h = h
    by (Some false) h = h
    by (Some true) h = let x = part_from [] (n + 1) ls in by_stop x.line x.log x.rest x.stop h

pub member_on : (pair : Pair) (k : ℕ) (classes : Classes) (p : ℕ) (r : Checked) (more : More) (n line : ℕ) (ls rest : List (List ℕ))
    → IsMemberOn pair k classes p n ls line rest → more line rest → ReadsMember pair k classes p r more n ls
member_on pair k classes p r more n line ls rest (m, ms, base, step) then =
    part_on pair (codes "base ") p (base_formula pair k classes p) r (ReadsPart pair (codes "step ") p (step_formula pair k classes p) r more) n m ls ms base
    (part_on pair (codes "step ") p (step_formula pair k classes p) r more m line ms rest step then)

pub member_map : (pair : Pair) (k : ℕ) (classes : Classes) (p : ℕ) (r : Checked) (before after : More) → ((m : ℕ) (ms : List (List ℕ)) → before m ms → after m ms)
    → (n : ℕ) (ls : List (List ℕ)) → ReadsMember pair k classes p r before n ls → ReadsMember pair k classes p r after n ls
member_map pair k classes p r before after f =
    part_map pair (codes "base ") p (base_formula pair k classes p) r _ _ (λ m ms h. part_map pair (codes "step ") p (step_formula pair k classes p) r before after f m ms h)

-- both parts
pub member_both : (pair : Pair) (k : ℕ) (classes : Classes) (p n m line : ℕ) (ls ms rest : List (List ℕ))
    → IsOn pair (codes "base ") p (base_formula pair k classes p) n ls m ms → IsOn pair (codes "step ") p (step_formula pair k classes p) m ms line rest → IsMemberOn pair k classes p n ls line rest
member_both pair k classes p n m line ls ms rest base step = (m, ms, base, step)

-- a fault of the first part, and of the second
pub base_fault : (pair : Pair) (k : ℕ) (classes : Classes) (p n : ℕ) (ls : List (List ℕ)) (kind : CertKind) (line : ℕ)
    → IsFault pair (codes "base ") p (base_formula pair k classes p) n ls kind line → IsMemberFault pair k classes p n ls kind line
base_fault pair k classes p n ls kind line h =
    part_map pair (codes "base ") p (base_formula pair k classes p) (No (record { kind = kind; line = line })) (λ m ms. ⊥) (ReadsPart pair (codes "step ") p (step_formula pair k classes p) (No (record { kind = kind; line = line })) (λ m ms. ⊥)) (λ m ms x. absurd x) n ls h

pub step_fault : (pair : Pair) (k : ℕ) (classes : Classes) (p n m : ℕ) (ls ms : List (List ℕ)) (kind : CertKind) (line : ℕ)
    → IsOn pair (codes "base ") p (base_formula pair k classes p) n ls m ms → IsFault pair (codes "step ") p (step_formula pair k classes p) m ms kind line → IsMemberFault pair k classes p n ls kind line
step_fault pair k classes p n m ls ms kind line on h =
    part_on pair (codes "base ") p (base_formula pair k classes p) (No (record { kind = kind; line = line })) (ReadsPart pair (codes "step ") p (step_formula pair k classes p) (No (record { kind = kind; line = line })) (λ i is. ⊥)) n m ls ms on h

-- the formula of a question
pub formula_by : (u v : Unrolling) (x y : ℕ × ℕ) (first last : ℕ) → u ≡ v → x ≡ y → formula_of (asking u (asks x.0 x.1 first last)) ≡ formula_of (asking v (asks y.0 y.1 first last))
formula_by u v x y first last e f = ap₂ (λ (w : Unrolling) (z : ℕ × ℕ). formula_of (asking w (asks z.0 z.1 first last))) e f

-- from one place to the next
pub next_place : (pair : Pair) (k : ℕ) (classes : Classes) (whole : Bool) (r : Checked) (p places n : ℕ) (ls : List (List ℕ)) → p < places
    → ReadsMembers pair k classes whole r (p ∷ range_with_len (p + 1) (places - (p + 1))) n ls → ReadsMembers pair k classes whole r (range_with_len p (places - p)) n ls
next_place pair k classes whole r p places n ls lt h = subst (λ (ps : List ℕ). ReadsMembers pair k classes whole r ps n ls) (sym (range_left p places lt)) h

pub skipped : (pair : Pair) (k : ℕ) (classes : Classes) (whole : Bool) (r : Checked) (p places n : ℕ) (ls : List (List ℕ)) → p < places → is_least classes p ≡ true
    → ReadsMembers pair k classes whole r (range_with_len (p + 1) (places - (p + 1))) n ls → ReadsMembers pair k classes whole r (range_with_len p (places - p)) n ls
skipped pair k classes whole r p places n ls lt least h =
    next_place pair k classes whole r p places n ls lt
    (subst (λ (b : Bool). Either b (ReadsMembers pair k classes whole r (range_with_len (p + 1) (places - (p + 1))) n ls) (ReadsMember pair k classes p r (ReadsMembers pair k classes whole r (range_with_len (p + 1) (places - (p + 1)))) n ls)) (sym least) h)

by_member : (pair : Pair) (k : ℕ) (classes : Classes) (whole : Bool) (r : Checked) (p places n : ℕ) (ls : List (List ℕ)) → p < places → is_least classes p ≡ false
    → ReadsMember pair k classes p r (ReadsMembers pair k classes whole r (range_with_len (p + 1) (places - (p + 1)))) n ls → ReadsMembers pair k classes whole r (range_with_len p (places - p)) n ls
by_member pair k classes whole r p places n ls lt least h =
    next_place pair k classes whole r p places n ls lt
    (subst (λ (b : Bool). Either b (ReadsMembers pair k classes whole r (range_with_len (p + 1) (places - (p + 1))) n ls) (ReadsMember pair k classes p r (ReadsMembers pair k classes whole r (range_with_len (p + 1) (places - (p + 1)))) n ls)) (sym least) h)

pub went_on : (pair : Pair) (k : ℕ) (classes : Classes) (whole : Bool) (r : Checked) (p places n line : ℕ) (ls rest : List (List ℕ)) → p < places → is_least classes p ≡ false
    → IsMemberOn pair k classes p n ls line rest → ReadsMembers pair k classes whole r (range_with_len (p + 1) (places - (p + 1))) line rest → ReadsMembers pair k classes whole r (range_with_len p (places - p)) n ls
went_on pair k classes whole r p places n line ls rest lt least on h =
    by_member pair k classes whole r p places n ls lt least (member_on pair k classes p r (ReadsMembers pair k classes whole r (range_with_len (p + 1) (places - (p + 1)))) n line ls rest on h)

pub faulted : (pair : Pair) (k : ℕ) (classes : Classes) (whole : Bool) (p places n line : ℕ) (ls : List (List ℕ)) (kind : CertKind) → p < places → is_least classes p ≡ false
    → IsMemberFault pair k classes p n ls kind line → ReadsMembers pair k classes whole (No (record { kind = kind; line = line })) (range_with_len p (places - p)) n ls
faulted pair k classes whole p places n line ls kind lt least h =
    by_member pair k classes whole (No (record { kind = kind; line = line })) p places n ls lt least
    (member_map pair k classes p (No (record { kind = kind; line = line })) (λ m ms. ⊥) (ReadsMembers pair k classes whole (No (record { kind = kind; line = line })) (range_with_len (p + 1) (places - (p + 1)))) (λ m ms x. absurd x) n ls h)
