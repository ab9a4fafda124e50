-- With `--least` and without `--stats` all answers to the same files and words are the same.
use Rattle.std.proofs.Common.{◌≡◌, ◌∙◌, ◌<◌, ℕ, Bool, true, false, List, [], ◌++◌, Option, Some, None, IsSomeAnd, MatchBool, refl, ap, ap₂, sym, subst, arith}
use Rattle.sec_base.specs.Faults.{appended}
use Rattle.circ_model.specs.Netlist.{Netlist}
use Rattle.circ_model.specs.Meaning.{Pair, places_of}
use Rattle.circ_model.specs.Verdict.{Verdict, Equivalent, Different, Undecided}
use Rattle.circ_model.proofs.OneVerdict.{one_verdict}
use Rattle.class_partition.specs.Classes.{Classes, ArePartition, AreOfGreatest}
use Rattle.class_text.specs.ClassLines.{class_lines}
use Rattle.aiger_file.proofs.OneReading.{one_file}
use Rattle.induction_base.proofs.Fixing.{one_least}
use Rattle.trace_witness.specs.Texts.{trace_text}
use Rattle.refine_board.specs.declared.journal.Entry.{Entry}
use Rattle.refine_board.specs.Running.{Written}
use Rattle.command_line.specs.Asked.{Asked, OptionsAsked, ClimbAsked, ForCheck, ForReplay, ForVerify, ForDemo, ForClimb, ForReduce, ForBatch}
use Rattle.sec_cli.specs.declared.ending.Reply.{Reply}
use Rattle.run_texts.specs.Lines.{different_line}
use Rattle.run_texts.specs.Verdicts.{status_of_verdict}
use Rattle.sec_cli.specs.Answers.{IsCheckAnswer, IsRefinedText, IsVerdictText, stats_lines}
use Rattle.pair_files.specs.Files.{IsAccepted}
use Rattle.pair_files.specs.Pairs.{ArePair}
use Rattle.sec_cli.specs.Climbs.{IsClimbAnswer, IsLastTried, check_of_climb}
use Rattle.sec_cli.specs.Reports.{World, IsStored, store_name}
use Rattle.sec_cli.specs.Runs.{IsAnswered}
use Rattle.sec_cli.specs.OneAnswer.{AreSame, OneAnswer, OneClimb, IsOneAnswer}
use Rattle.sec_cli.proofs.SameLines.{lines_same}

-- a file is accepted as one netlist
accepted_same : (file : Option (List ℕ)) (m n : Netlist) → IsAccepted file m → IsAccepted file n → m ≡ n
accepted_same None m n a b = absurd a
accepted_same (Some bytes) m n a b = one_file bytes m n a.1 b.1

pair_same : (tied : Bool) (left right : Option (List ℕ)) (p q : Pair) → ArePair tied left right p → ArePair tied left right q → p ≡ q
pair_same tied left right p q a b =
    ap (λ (t : Bool). record { left = p.left; right = p.right; tied = t }) (a.accepted.ties ∙ sym b.accepted.ties)
    ∙ ap₂ (λ (l r : Netlist). record { left = l; right = r; tied = q.tied }) (accepted_same left p.left q.left a.accepted.is_left b.accepted.is_left) (accepted_same right p.right q.right a.accepted.is_right b.accepted.is_right)

lines_one : (pair : Pair) (k : ℕ) (b : Bool) (x y : List ℕ)
    → MatchBool b ((classes : Classes) × ArePartition (places_of pair) classes × AreOfGreatest pair k classes × (x ≡ class_lines pair classes)) (x ≡ [])
    → MatchBool b ((classes : Classes) × ArePartition (places_of pair) classes × AreOfGreatest pair k classes × (y ≡ class_lines pair classes)) (y ≡ [])
    → x ≡ y
lines_one pair k true x y (a, is_a, of_a, left) (b, is_b, of_b, right) = left ∙ lines_same pair k a b is_a is_b of_a of_b ∙ sym right
lines_one pair k false x y left right = left ∙ sym right

refined_one : (pair : Pair) (c : OptionsAsked) (e f : List Entry) (line x y : List ℕ) → c.stats ≡ false → IsRefinedText pair c e line x → IsRefinedText pair c f line y → x ≡ y
refined_one pair c e f line x y quiet r s =
    let none : (g : List Entry) → stats_lines c g ≡ [] = λ g. rw quiet refl in
    r.text_is ∙ ap (λ (l : List ℕ). (line ++ r.lines) ++ l) (none e) ∙ ap (λ (l : List ℕ). (line ++ l) ++ []) (lines_one pair c.k c.classes r.lines s.lines r.are_classes s.are_classes)
    ∙ ap (λ (l : List ℕ). (line ++ s.lines) ++ l) (sym (none f)) ∙ sym s.text_is

journal_one : (pair : Pair) (c : OptionsAsked) (p q : Option Written) (line x y : List ℕ) → c.stats ≡ false
    → IsSomeAnd p (λ j. IsRefinedText pair c j.entries line x) → IsSomeAnd q (λ j. IsRefinedText pair c j.entries line y) → x ≡ y
journal_one pair c None q line x y quiet r s = absurd r
journal_one pair c (Some p) None line x y quiet r s = absurd s
journal_one pair c (Some p) (Some q) line x y quiet r s = refined_one pair c p.entries q.entries line x y quiet r s

texts_one : (pair : Pair) (c : OptionsAsked) (v : Verdict) (x y file other : List ℕ) (p q : Option Written) → c.least ≡ true → c.stats ≡ false → IsVerdictText pair c v x file p → IsVerdictText pair c v y other q
    → (x ≡ y) × (status_of_verdict v ≡ 1 → file ≡ other)
texts_one pair c (Equivalent n) x y file other p q least quiet r s = (journal_one pair c p q _ x y quiet r.1 s.1, λ e. cc)
texts_one pair c (Undecided n u) x y file other p q least quiet r s = (journal_one pair c p q _ x y quiet r s, λ e. cc)
texts_one pair c (Different t j) x y file other p q least quiet (run, shows, is, stored, text) (run2, shows2, is2, stored2, text2) =
    let one : run ≡ run2 = one_least pair t j run run2 (is least) (is2 least) in
    let files : file ≡ other = stored ∙ ap (trace_text j) one ∙ sym stored2 in
    (text ∙ ap (λ (l : List ℕ). different_line c.k t j ++ l) files ∙ sym text2, λ e. files)

answers_one : (pair : Pair) (c : OptionsAsked) (a b : Reply) → c.least ≡ true → c.stats ≡ false → IsCheckAnswer pair c a → IsCheckAnswer pair c b → AreSame a b
answers_one pair c a b least quiet (v, is_v, status_a, text_a) (w, is_w, status_b, text_b) =
    let same : w ≡ v = one_verdict pair c.k c.depth w v is_w is_v in
    let t = texts_one pair c v a.text.items b.text.items a.file.items b.file.items a.journal b.journal least quiet text_a (subst (λ (u : Verdict). IsVerdictText pair c u b.text.items b.file.items b.journal) same text_b) in
    record { status = status_a ∙ ap status_of_verdict (sym same) ∙ sym status_b; text = t.0; trace = λ e. t.1 (sym status_a ∙ e) }

pub one_answer : OneAnswer
one_answer left right c a b least quiet (p, is_p, answer_p) (q, is_q, answer_q) =
    answers_one p c a b least quiet answer_p (subst (λ (x : Pair). IsCheckAnswer x c b) (pair_same c.tied left right q p is_q is_p) answer_q)

-- a depth below which nothing is decided isn't one that decides
not_below : (pair : Pair) (c : ClimbAsked) (j k : ℕ) (a b : Reply) → IsLastTried pair c.most j a.status → IsCheckAnswer pair (check_of_climb c j) a → IsLastTried pair c.most k b.status → j < k → ⊥
not_below pair c j k a b last_a (v, is_v, status_a, text_a) last_b lt =
    let (classes, unpaired, is_open) = last_b.below j last_a.some lt in
    let same : v ≡ Undecided classes unpaired = one_verdict pair j j v (Undecided classes unpaired) is_v is_open in
    let end : j ≡ c.most = last_a.ends (status_a ∙ ap status_of_verdict same) in
    omega (arith, end, lt, last_b.few)

climbs_one : (pair : Pair) (c : ClimbAsked) (a b : Reply) → c.least ≡ true → IsClimbAnswer pair c a → IsClimbAnswer pair c b → AreSame a b
climbs_one pair c a b least (j, last_a, answer_a, journal_a) (k, last_b, answer_b, journal_b) =
    let up = not_below pair c j k a b last_a answer_a last_b in
    let down = not_below pair c k j b a last_b answer_b last_a in
    let same : k ≡ j = omega (arith, up, down) in
    answers_one pair (check_of_climb c j) a b least refl answer_a (subst (λ (n : ℕ). IsCheckAnswer pair (check_of_climb c n) b) same answer_b)

pub one_climb : OneClimb
one_climb left right c a b least (p, is_p, answer_p) (q, is_q, answer_q) =
    climbs_one p c a b least answer_p (subst (λ (x : Pair). IsClimbAnswer x c b) (pair_same false left right q p is_q is_p) answer_q)

-- what was printed and stored is that of each answer
pub only_answer : (tells : Bool) (c : Asked) (status : ℕ) (journal : Option Written) (before after : World) → IsAnswered tells c status journal before after → IsOneAnswer tells c status before after
only_answer tells (ForCheck c) status journal before after given = λ told least quiet other h.
    let one = one_answer (before.files c.left) (before.files c.right) c.options given.answer other least quiet (given.ended told) h in
    record {
      status_is = sym one.status ∙ given.status_is;
      printed = given.printed ∙ ap (appended before.out) one.text;
      stored = λ is.
          let difference : given.answer.status ≡ 1 = given.status_is ∙ is in
          let named : IsStored tells before.files after.files c.options.trace given.answer.file.items = subst (λ (s : ℕ). IsStored tells before.files after.files (store_name (ForCheck c) s) given.answer.file.items) difference given.stored in
          subst (IsStored tells before.files after.files c.options.trace) (one.trace difference) named;
    }
only_answer tells (ForReplay c) status journal before after given = tt
only_answer tells (ForVerify c) status journal before after given = tt
only_answer tells (ForDemo d) status journal before after given = tt
only_answer tells (ForClimb c) status journal before after given = λ told least other h.
    let one = one_climb (before.files c.left) (before.files c.right) c given.answer other least (given.ended told) h in
    record { status_is = sym one.status ∙ given.status_is; printed = given.printed ∙ ap (appended before.out) one.text }
only_answer tells (ForReduce r) status journal before after given = tt
only_answer tells (ForBatch b) status journal before after given = tt
