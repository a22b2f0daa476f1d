-- Files of which each line says one value, or none, by its words.
use Rattle.std.specs.Prelude.{ℕ, ◌+◌, List, [], ◌∷◌, Option, Result, Ok}
use Rattle.std.specs.List.{cons_option}
use Rattle.mach_base.specs.Lines.{words_of}
use Rattle.mach_base.specs.Sequence.{◌>>=◌}

-- the values of the lines in order, of which the first has this number; a line is read by its number and its words
unfoldable pub each_line : {A F : Type 0} → (ℕ → List (List ℕ) → Result (Option A) F) → ℕ → List (List ℕ) → Result (List A) F
each_line line_of number [] = Ok []
each_line line_of number (l ∷ ls) =
    line_of number (words_of l) >>= λ found. each_line line_of (number + 1) ls >>= λ rest. Ok (cons_option found rest)

-- the values that lines say, in the order of the lines, each of which is right by the relation of its words to its value
pub data EachSays {A : Type 0} (IsLine : List (List ℕ) → Option A → Type 0) : List (List ℕ) → List A → Type 0 where
  nothing : EachSays IsLine [] []
  one_more : (l : List ℕ) (ls : List (List ℕ)) (x : Option A) (xs : List A) → IsLine (words_of l) x → EachSays IsLine ls xs → EachSays IsLine (l ∷ ls) (cons_option x xs)
