-- What the debugger's filter keeps of a text. docs/debugger.md, "Filter", has the rules.
use Rattle.std.specs.Prelude.{ℕ, ◌-◌, ◌==◌, ◌||◌, Bool, false, List, [], ◌∷◌, ◌++◌, length, take, slice_index, nat_eq, if◌then◌else◌}
use Rattle.std.specs.List.{starts_with, ends_with, slice_split}
use Rattle.std.specs.Str.{bytes_eq}
use Rattle.mach_base.specs.Texts.{newline}

-- a pattern: its text, and whether the text must be at the line's start and at the line's end
pub record Pattern : Type 0 where
  pub at_start : Bool
  pub text : List ℕ
  pub at_end : Bool

-- whether the first byte is this one
abbrev pub first_is : ℕ → List ℕ → Bool
first_is b [] = false
first_is b (c ∷ cs) = c == b

-- whether the last byte is this one
abbrev pub last_is : ℕ → List ℕ → Bool
last_is b [] = false
last_is b (c ∷ cs) = slice_index (c ∷ cs) (length cs) == b

-- the bytes after a first ^
abbrev pub behind_mark : List ℕ → List ℕ
behind_mark [] = []
behind_mark (b ∷ bs) = if b == 94 then bs else b ∷ bs

-- the bytes before a last $
abbrev pub before_mark : List ℕ → List ℕ
before_mark bytes = if last_is 36 bytes then take (length bytes - 1) bytes else bytes

-- the pattern that these bytes are: a first ^ and, in what is left, a last $ are marks
abbrev pub pattern_of : List ℕ → Pattern
pattern_of bytes = record {
  at_start = first_is 94 bytes;
  text = before_mark (behind_mark bytes);
  at_end = last_is 36 (behind_mark bytes);
}

-- whether the text occurs in the line
abbrev pub stands_in : List ℕ → List ℕ → Bool
stands_in text [] = starts_with nat_eq [] text
stands_in text (b ∷ bs) = starts_with nat_eq (b ∷ bs) text || stands_in text bs

-- whether the pattern's text occurs in the line, at the ends that are marked
abbrev pub matches : Pattern → List ℕ → Bool
matches pattern line =
    if pattern.at_start
    then (if pattern.at_end then bytes_eq line pattern.text else starts_with nat_eq line pattern.text)
    else (if pattern.at_end then ends_with nat_eq line pattern.text else stands_in pattern.text line)

-- those of the lines that match, each with its LF but for the last one
abbrev pub kept_of : Pattern → List (List ℕ) → List ℕ
kept_of pattern [] = []
kept_of pattern (line ∷ []) = if matches pattern line then line else []
kept_of pattern (line ∷ next ∷ rest) = (if matches pattern line then line ++ newline else []) ++ kept_of pattern (next ∷ rest)

-- the lines of the text that match, in their order and as they are; the last line may lack its LF
unfoldable pub filtered : Pattern → List ℕ → List ℕ
filtered pattern text = kept_of pattern (slice_split (λ b. b == 10) text)
