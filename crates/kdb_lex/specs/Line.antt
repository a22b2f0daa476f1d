-- A line of the debugger: its words, and the pattern of its filter. docs/debugger.md, "Lines", has the rules.
use Rattle.std.specs.Prelude.{◌≡◌, ℕ, ◌%◌, ◌==◌, ◌&&◌, ◌||◌, Bool, true, false, List, [], ◌∷◌, map, filter, length, count_by, Option, Some, None, is_none, nat_lt, codes, if◌then◌else◌}
use Rattle.std.specs.List.{list_any, slice_split, before_first, after_first}
use Rattle.std.specs.Str.{bytes_eq}
use Rattle.mach_base.specs.Lines.{is_blank}
use Rattle.kdb_lex.specs.Mark.{mark_of, is_quoted_after, is_pipe, ends_word}
use Rattle.kdb_lex.specs.declared.line.TheConstants.{MOST_WORDS}
use Rattle.kdb_lex.specs.declared.mark.Mark.{Mark}
use Rattle.kdb_lex.specs.declared.mark.Mark.TheVariants.{Blank, Pipe, Quote, Byte}
use Rattle.kdb_lex.specs.declared.lex_fault.LexFault.{LexFault}
use Rattle.kdb_lex.specs.declared.lex_fault.LexFault.TheVariants.{Unclosed, TooManyWords, BadPipe}

-- whether the first byte after blanks is #
abbrev pub is_comment : List ℕ → Bool
is_comment [] = false
is_comment (b ∷ bs) = if is_blank b then is_comment bs else b == 35

-- what there is to read of a line: nothing of a comment
abbrev pub without_comment : List ℕ → List ℕ
without_comment line = if is_comment line then [] else line

-- what each byte is, where the first one is inside or outside quotes
abbrev pub marks : Bool → List ℕ → List Mark
marks quoted [] = []
marks quoted (b ∷ bs) = mark_of quoted b ∷ marks (is_quoted_after quoted (mark_of quoted b)) bs

-- what each byte of the line is
abbrev pub line_marks : List ℕ → List Mark
line_marks line = marks false (without_comment line)

-- whether there is a word: a byte, or a quote, since "" is a word without bytes
abbrev pub is_word : List Mark → Bool
is_word [] = false
is_word (m ∷ ms) = true

-- the text of a word, without its quotes
abbrev pub word_text : List Mark → List ℕ
word_text [] = []
word_text (Blank ∷ ms) = word_text ms
word_text (Pipe ∷ ms) = word_text ms
word_text (Quote ∷ ms) = word_text ms
word_text (Byte b ∷ ms) = b ∷ word_text ms

-- the words, which are between blanks and pipes
abbrev pub words_of : List Mark → List (List ℕ)
words_of ms = map word_text (filter is_word (slice_split ends_word ms))

-- the pattern, where the words are `grep` and a pattern that isn't empty
abbrev pub pattern_of : List (List ℕ) → Option (List ℕ)
pattern_of [] = None
pattern_of (name ∷ []) = None
pattern_of (name ∷ [] ∷ []) = None
pattern_of (name ∷ (b ∷ bs) ∷ []) = if bytes_eq name (codes "grep") then Some (b ∷ bs) else None
pattern_of (name ∷ pattern ∷ another ∷ rest) = None

-- the pattern of the filter that these bytes after a pipe are, if they are one; there is no second pipe
abbrev pub filter_pattern : List Mark → Option (List ℕ)
filter_pattern ms = if list_any is_pipe ms then None else pattern_of (words_of ms)

-- the words before the first pipe
abbrev pub command_words : List ℕ → List (List ℕ)
command_words line = words_of (before_first is_pipe (line_marks line))

-- what follows the first pipe of these bytes, if they have one
abbrev pub FollowsPipe : List Mark → Option (List ℕ) → Type 0
FollowsPipe ms None = list_any is_pipe ms ≡ false
FollowsPipe ms (Some rest) = (list_any is_pipe ms ≡ true) × (marks false rest ≡ after_first is_pipe ms)

-- whether the line has a pipe
abbrev pub has_pipe : List ℕ → Bool
has_pipe line = list_any is_pipe (line_marks line)

-- the pattern of the line's filter, if there is one after its first pipe
abbrev pub line_pattern : List ℕ → Option (List ℕ)
line_pattern line = if has_pipe line then filter_pattern (after_first is_pipe (line_marks line)) else None

-- whether a quote isn't closed
abbrev pub is_unclosed : List ℕ → Bool
is_unclosed line = count_by (λ b. b == 34) (without_comment line) % 2 == 1

-- whether there is a pipe without a command before it or a filter after it
abbrev pub is_bad_pipe : List ℕ → Bool
is_bad_pipe line = has_pipe line && ((length (command_words line) == 0) || is_none (line_pattern line))

-- the first refusal of the line
abbrev pub refusal_of : List ℕ → Option LexFault
refusal_of line =
    if is_unclosed line then Some Unclosed
    else if nat_lt MOST_WORDS (length (command_words line)) then Some TooManyWords
    else if is_bad_pipe line then Some BadPipe
    else None
