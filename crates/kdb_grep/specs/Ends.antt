-- The end of a line in a text.
use Rattle.std.specs.Prelude.{◌≡◌, ℕ, ◌+◌, ◌⊎◌, List, [], ◌∷◌, ◌++◌, length, take}
use Rattle.kdb_grep.specs.Lines.{IsLine}

-- where the first line of a text ends, without and with its LF: at its LF, or at the text's end
pub record EndsLine (text : List ℕ) (line end : ℕ) : Type 0 where
  pub is : IsLine (take line text)
  pub ends : ((end ≡ line + 1) × (take end text ≡ take line text ++ 10 ∷ [])) ⊎ ((line ≡ length text) × (end ≡ length text))
