-- One place of a split by words.
use Rattle.std.specs.Prelude.{◌==◌, ℕ, List, Bool, Option, Some, unwrap_or, ◌&&◌, if◌then◌else◌}
use Rattle.class_partition.specs.Classes.{Classes, least_of}
use Rattle.class_partition.specs.Words.{relative_word}

-- a part of a class: the class's least place, and the word of the part's places
abbrev pub same_part : ℕ × ℕ → ℕ × ℕ → Bool
same_part a b = (a.0 == b.0) && (a.1 == b.1)

abbrev pub part_of : Classes → List ℕ → ℕ → ℕ × ℕ
part_of classes words p = (least_of classes p, relative_word classes words p)

-- the place keeps its class where its word is that of the class's least place
abbrev pub stays : Classes → List ℕ → ℕ → Bool
stays classes words p = relative_word classes words p == relative_word classes words (least_of classes p)

-- else its part begins where it is known to begin, or at the place itself
abbrev pub place_of_word : Classes → List ℕ → (ℕ × ℕ → Option ℕ) → ℕ → ℕ
place_of_word classes words begins p = if stays classes words p then least_of classes p else unwrap_or (begins (part_of classes words p)) p

-- and where parts are known to begin afterwards
abbrev pub begins_after : Classes → List ℕ → (ℕ × ℕ → Option ℕ) → ℕ → ℕ × ℕ → Option ℕ
begins_after classes words begins p part =
    if stays classes words p then begins part
    else if same_part (part_of classes words p) part then Some (place_of_word classes words begins p) else begins part
