-- The lines that a run prints.
use Rattle.std.specs.Prelude.{ℕ, ◌*◌, List, [], ◌∷◌, ◌++◌, codes, decimal}
use Rattle.std.specs.List.{flat_map}

abbrev pub equivalent_line : ℕ → ℕ → ℕ → List ℕ
equivalent_line k signals classes = codes "equivalent k=" ++ (decimal k ++ (codes " signals=" ++ (decimal signals ++ (codes " classes=" ++ (decimal classes ++ codes "\n")))))

abbrev pub undecided_head : ℕ → ℕ → ℕ → List ℕ
undecided_head k signals classes = codes "undecided k=" ++ (decimal k ++ (codes " signals=" ++ (decimal signals ++ (codes " classes=" ++ (decimal classes ++ codes " unpaired=")))))

-- numbers with commas between them
abbrev pub with_commas : List ℕ → List ℕ
with_commas [] = []
with_commas (n ∷ ns) = decimal n ++ flat_map (λ m. 44 ∷ decimal m) ns

abbrev pub undecided_line : ℕ → ℕ → ℕ → List ℕ → List ℕ
undecided_line k signals classes unpaired = (undecided_head k signals classes ++ with_commas unpaired) ++ codes "\n"

abbrev pub different_line : ℕ → ℕ → ℕ → List ℕ
different_line k frame output = codes "different k=" ++ (decimal k ++ (codes " frame=" ++ (decimal frame ++ (codes " output=" ++ (decimal output ++ codes "\n")))))

abbrev pub differs_line : ℕ → ℕ → List ℕ
differs_line frame output = codes "differs frame=" ++ (decimal frame ++ (codes " output=" ++ (decimal output ++ codes "\n")))

abbrev pub agrees_line : ℕ → List ℕ
agrees_line frames = codes "agrees frames=" ++ (decimal frames ++ codes "\n")

-- what a demo has: n inputs, latches and outputs, and six times as many gates
abbrev pub demo_line : ℕ → List ℕ
demo_line n =
    codes "demo n=" ++ (decimal n ++ (codes " inputs=" ++ (decimal n ++ (codes " latches=" ++ (decimal n
    ++ (codes " gates=" ++ (decimal (6 * n) ++ (codes " outputs=" ++ (decimal n ++ codes "\n")))))))))

-- a reduced netlist, with the signals and classes of the pair with its stub, and the latches and gates that stay
abbrev pub reduced_line : ℕ → ℕ → ℕ → ℕ → ℕ → List ℕ
reduced_line k signals classes latches gates =
    codes "reduced k=" ++ (decimal k ++ (codes " signals=" ++ (decimal signals ++ (codes " classes=" ++ (decimal classes
    ++ (codes " latches=" ++ (decimal latches ++ (codes " gates=" ++ (decimal gates ++ codes "\n")))))))))
