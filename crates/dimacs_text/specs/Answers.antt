-- The texts of answers, and what they say of a formula.
use Rattle.std.specs.Prelude.{◌≡◌, ℕ, ℤ, ◌+◌, Bool, true, false, List, [], ◌∷◌, ◌++◌, Result, Ok, Err, length, decimal, codes}
use Rattle.cnf_store.specs.Clauses.{Formula, satisfies}
use Rattle.sat_log.specs.Derivations.{Line, IsAccepted}
use Rattle.sat_log.specs.Texts.{step_text}
use Rattle.dimacs_text.specs.Texts.{state, text_of}
use Rattle.dimacs_text.specs.declared.answer.Solution.{Solution}
use Rattle.dimacs_text.specs.declared.fault.DimacsError.{DimacsError}
use Rattle.dimacs_text.specs.declared.fault.DimacsError.TheVariants as errors

abbrev pub sign : Bool → List ℕ
sign true = codes "v "
sign false = codes "v -"

-- the literal of a variable that is true
abbrev pub value_line : ℕ → Bool → List ℕ
value_line variable value = sign value ++ (decimal variable ++ 10 ∷ [])

-- the values of the variables after so many
abbrev pub values_text : ℕ → List Bool → List ℕ
values_text n [] = []
values_text n (b ∷ bs) = value_line (n + 1) b ++ values_text (n + 1) bs

abbrev pub sat_text : List Bool → List ℕ
sat_text row = codes "s SATISFIABLE\n" ++ (values_text 0 row ++ codes "v 0\n")

-- a line of a log, with its own number
abbrev pub lrat_line : ℕ → List ℤ → List ℕ → List ℕ
lrat_line n literals hints = decimal n ++ 32 ∷ (step_text literals hints ++ 10 ∷ [])

-- lines numbered from n on
abbrev pub lrat_text : ℕ → List Line → List ℕ
lrat_text n [] = []
lrat_text n (l ∷ ls) = lrat_line n l.literals l.hints ++ lrat_text (n + 1) ls

-- lines are numbered after the formula's clauses
abbrev pub unsat_text : Bool → ℕ → List Line → List ℕ
unsat_text true clauses log = codes "s UNSATISFIABLE\n" ++ lrat_text (clauses + 1) log
unsat_text false clauses log = codes "s UNSATISFIABLE\n"

-- an assignment to each variable that satisfies, or an accepted log, and then none does
abbrev pub IsSolution : Bool → Formula → Bool → List ℕ → Type 0
IsSolution true formula with_log text = (row : List Bool) × (length row ≡ formula.vars) × (satisfies row formula.clauses ≡ true) × (text ≡ sat_text row)
IsSolution false formula with_log text =
    (log : List Line) × IsAccepted formula log × ((row : List Bool) → satisfies row formula.clauses ≡ false) × (text ≡ unsat_text with_log (length formula.clauses) log)

-- the answer on the formula that a text is, or the text's fault; want of memory says nothing
abbrev pub IsSolved : List ℕ → Bool → Result Solution DimacsError → Type 0
IsSolved text with_log (Ok s) = (formula : Formula) × (text_of text ≡ Ok (state formula [])) × IsSolution s.is_satisfiable formula with_log s.text.items
IsSolved text with_log (Err (errors.Refused f)) = text_of text ≡ Err f
IsSolved text with_log (Err errors.Memory) = Unit {0}
