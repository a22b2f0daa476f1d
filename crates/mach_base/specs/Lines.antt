-- Lines and words, as the files of text have them.
use Rattle.std.specs.Prelude.{ℕ, ◌==◌, ◌&&◌, ◌||◌, not, Bool, false, List, [], ◌∷◌, codes, if◌then◌else◌}
use Rattle.std.specs.Str.{bytes_eq}

-- whether it is a blank or a tab
abbrev pub is_blank : ℕ → Bool
is_blank b = (b == 32) || (b == 9)

-- whether a line feed comes first
abbrev pub begins_with_feed : List ℕ → Bool
begins_with_feed [] = false
begins_with_feed (b ∷ bs) = b == 10

-- whether a byte that is no blank comes first
abbrev pub begins_with_word : List ℕ → Bool
begins_with_word [] = false
begins_with_word (b ∷ bs) = not (is_blank b)

-- the byte set in front of the first of the texts
abbrev pub onto_first : ℕ → List (List ℕ) → List (List ℕ)
onto_first b [] = (b ∷ []) ∷ []
onto_first b (x ∷ xs) = (b ∷ x) ∷ xs

-- The lines: a line feed ends each of them, and the last may lack it. A carriage return directly before a line feed
-- belongs to the line's end.
unfoldable pub lines_of : List ℕ → List (List ℕ)
lines_of [] = []
lines_of (b ∷ bs) =
    if b == 10 then [] ∷ lines_of bs else (if (b == 13) && begins_with_feed bs then lines_of bs else onto_first b (lines_of bs))

-- The words of a line: what stands between blanks and tabs.
unfoldable pub words_of : List ℕ → List (List ℕ)
words_of [] = []
words_of (b ∷ bs) =
    if is_blank b then words_of bs else (if begins_with_word bs then onto_first b (words_of bs) else (b ∷ []) ∷ words_of bs)

-- whether the words are exactly the name of a format and its version, 1, as those of a file's first line are
abbrev pub is_header_of : List ℕ → List (List ℕ) → Bool
is_header_of name [] = false
is_header_of name (a ∷ []) = false
is_header_of name (a ∷ b ∷ []) = bytes_eq a name && bytes_eq b (codes "1")
is_header_of name (a ∷ b ∷ c ∷ more) = false

-- whether the word begins with #, so that its line is skipped
abbrev pub is_comment : List ℕ → Bool
is_comment [] = false
is_comment (b ∷ bs) = b == 35
