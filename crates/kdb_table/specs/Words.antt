-- The words of a line.
use Rattle.std.specs.Prelude.{ℕ, List, [], slice_index_or}

-- the word at a place of the line; no bytes after the last one
abbrev pub word_at : List (List ℕ) → ℕ → List ℕ
word_at words place = slice_index_or words place []
