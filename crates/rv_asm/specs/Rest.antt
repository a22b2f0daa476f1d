-- What follows a text in a line that begins with it.
use Rattle.std.specs.Prelude.{ℕ, ◌==◌, List, [], ◌∷◌, Option, Some, None, if◌then◌else◌}

-- what follows the text, if the line begins with it
abbrev pub after : List ℕ → List ℕ → Option (List ℕ)
after [] line = Some line
after (t ∷ text) [] = None
after (t ∷ text) (b ∷ line) = if b == t then after text line else None
