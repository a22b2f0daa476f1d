-- The line that says why a line is refused. docs/debugger.md, "Diagnostics", has the causes.
use Rattle.std.specs.Prelude.{ℕ, List, [], ◌++◌, codes}
use Rattle.mach_base.specs.Number.{dec_text}
use Rattle.mach_base.specs.Texts.{newline, address_text}
use Rattle.kdb_table.specs.declared.diagnostics.Diagnostic.{Diagnostic}
use Rattle.kdb_table.specs.declared.diagnostics.Diagnostic.TheVariants.{UnknownName, WrongArguments, BadWidth, BadRadix, UnknownCommand, TooManyVariables, TooManyBreakpoints, Duplicate, NoBreakpoint, BadRegister, BadNumber, BadAddress, NotText, BadProcessor, EnteredOn, IsHalted, BadCount, NestedMacro, ReservedName, MacroFull, UnclosedQuote, TooManyWords, BadPipe, BadName}
use Rattle.kdb_table.specs.declared.diagnostics.Detail.{Detail}
use Rattle.kdb_table.specs.declared.diagnostics.Detail.TheVariants.{Nothing, Word, Address, Number, Halted}
use Rattle.kdb_table.specs.Words.{word_at}

-- a diagnostic's number, what is said up to the detail, and what it is about
pub record Message : Type 0 where
  pub number : ℕ
  pub text : List ℕ
  pub detail : Detail

-- the message of this number, text and detail
abbrev pub message_with : ℕ → List ℕ → Detail → Message
message_with number text detail = record { number = number; text = text; detail = detail }

-- the message of each diagnostic
unfoldable pub message_of : Diagnostic → Message
message_of (UnknownName place) = message_with 1 (codes "unknown name ") (Word place)
message_of WrongArguments = message_with 2 (codes "wrong number of arguments") Nothing
message_of BadWidth = message_with 3 (codes "bad width") Nothing
message_of BadRadix = message_with 4 (codes "bad radix") Nothing
message_of UnknownCommand = message_with 5 (codes "unknown command ") (Word 0)
message_of TooManyVariables = message_with 6 (codes "too many variables") Nothing
message_of TooManyBreakpoints = message_with 7 (codes "too many breakpoints") Nothing
message_of Duplicate = message_with 8 (codes "duplicate") Nothing
message_of (NoBreakpoint place) = message_with 9 (codes "no breakpoint ") (Number place)
message_of (BadRegister place) = message_with 10 (codes "bad register ") (Word place)
message_of (BadNumber place) = message_with 11 (codes "bad number ") (Word place)
message_of (BadAddress addr) = message_with 12 (codes "bad address ") (Address addr)
message_of (NotText addr) = message_with 13 (codes "not text ") (Address addr)
message_of (BadProcessor hart) = message_with 14 (codes "bad cpu ") (Number hart)
message_of (EnteredOn hart) = message_with 15 (codes "entered on cpu ") (Number hart)
message_of (IsHalted hart) = message_with 16 (codes "cpu ") (Halted hart)
message_of BadCount = message_with 17 (codes "bad count") Nothing
message_of NestedMacro = message_with 18 (codes "nested macro ") (Word 0)
message_of (ReservedName place) = message_with 19 (codes "reserved name ") (Word place)
message_of MacroFull = message_with 20 (codes "macro is full") Nothing
message_of UnclosedQuote = message_with 21 (codes "unclosed quote") Nothing
message_of TooManyWords = message_with 22 (codes "too many words") Nothing
message_of BadPipe = message_with 23 (codes "bad pipe") Nothing
message_of (BadName place) = message_with 24 (codes "bad name ") (Word place)

-- the detail as it is printed, of a line with these words
unfoldable pub detail_text : List (List ℕ) → Detail → List ℕ
detail_text words Nothing = []
detail_text words (Word place) = word_at words place
detail_text words (Address addr) = address_text addr
detail_text words (Number number) = dec_text number
detail_text words (Halted hart) = dec_text hart ++ codes " is halted"

-- the line of a message about these words
unfoldable pub message_line : List (List ℕ) → Message → List ℕ
message_line words m =
    codes "diag: " ++ (dec_text m.number ++ (codes ": " ++ (m.text ++ (detail_text words m.detail ++ newline))))

-- the line of a diagnostic about these words
abbrev pub diagnostic_text : List (List ℕ) → Diagnostic → List ℕ
diagnostic_text words diagnostic = message_line words (message_of diagnostic)
