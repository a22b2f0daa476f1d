-- What each byte of a line is.
use Rattle.std.specs.Prelude.{ℕ, ◌==◌, Bool, true, false, not, if◌then◌else◌}
use Rattle.mach_base.specs.Lines.{is_blank}
use Rattle.kdb_lex.specs.declared.mark.Mark.{Mark}
use Rattle.kdb_lex.specs.declared.mark.Mark.TheVariants.{Blank, Pipe, Quote, Byte}

-- what a byte is, inside or outside quotes
abbrev pub mark_of : Bool → ℕ → Mark
mark_of quoted b =
    if b == 34 then Quote
    else if quoted then Byte b
    else if is_blank b then Blank
    else if b == 124 then Pipe
    else Byte b

-- whether the next byte is inside quotes: a quote turns that round
abbrev pub is_quoted_after : Bool → Mark → Bool
is_quoted_after quoted Blank = quoted
is_quoted_after quoted Pipe = quoted
is_quoted_after quoted Quote = not quoted
is_quoted_after quoted (Byte b) = quoted

-- whether it is the pipe
abbrev pub is_pipe : Mark → Bool
is_pipe Blank = false
is_pipe Pipe = true
is_pipe Quote = false
is_pipe (Byte b) = false

-- a blank or the pipe, which end a word
abbrev pub ends_word : Mark → Bool
ends_word Blank = true
ends_word Pipe = true
ends_word Quote = false
ends_word (Byte b) = false
