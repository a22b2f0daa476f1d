-- The same as a relation: which lines match, and which lines are left of a text.
use Rattle.std.specs.Prelude.{◌≡◌, ℕ, ◌==◌, true, not, List, [], ◌∷◌, ◌++◌}
use Rattle.std.specs.List.{list_all}
use Rattle.kdb_grep.specs.Filter.{Pattern}

-- the pattern's text occurs in the line, at its start where marked and at its end where marked
pub record Matches (pattern : Pattern) (line : List ℕ) : Type 0 where
  pub before : List ℕ
  pub after : List ℕ
  pub stands : line ≡ before ++ (pattern.text ++ after)
  pub start : pattern.at_start ≡ true → before ≡ []
  pub end : pattern.at_end ≡ true → after ≡ []

-- bytes without LF
abbrev pub IsLine : List ℕ → Type 0
IsLine line = list_all (λ b. not (b == 10)) line ≡ true

-- the lines of a text that match, in their order and as they are; the last line may lack its LF
pub data Filtered (pattern : Pattern) : List ℕ → List ℕ → Type 0 where
  kept : (line rest out : List ℕ) → IsLine line → Matches pattern line → Filtered pattern rest out → Filtered pattern (line ++ 10 ∷ rest) (line ++ 10 ∷ out)
  dropped : (line rest out : List ℕ) → IsLine line → ¬ (Matches pattern line) → Filtered pattern rest out → Filtered pattern (line ++ 10 ∷ rest) out
  last_kept : (line : List ℕ) → IsLine line → Matches pattern line → Filtered pattern line line
  last_dropped : (line : List ℕ) → IsLine line → ¬ (Matches pattern line) → Filtered pattern line []
