-- What is printed of memory.
use Rattle.std.specs.Prelude.{ℕ, zero, suc, ◌+◌, ◌*◌, ◌/◌, ◌%◌, ◌==◌, ◌&&◌, nat_le, List, [], ◌∷◌, ◌++◌, codes, if◌then◌else◌}
use Rattle.mach_base.specs.Number.{hex_text}
use Rattle.mach_base.specs.Texts.{newline, address_text}
use Rattle.mach_base.specs.Machine.{Memory, Symbol}
use Rattle.mach_base.specs.Bytes.{byte_or_zero, number_in}
use Rattle.sym_map.specs.Texts.{name_text}
use Rattle.rv_asm.specs.Spelling.{insn_text}

-- a word after a blank: its value, in two digits a byte
unfoldable pub word_text : Memory → ℕ → ℕ → List ℕ
word_text m addr width = codes " " ++ hex_text (2 * width) (number_in m addr width)

-- this many words from the address on
abbrev pub words_text : Memory → ℕ → ℕ → ℕ → List ℕ
words_text m addr width zero = []
words_text m addr width (suc n) = words_text m addr width n ++ word_text m (addr + n * width) width

-- the character that stands for a byte: itself where it is printable ASCII, else a full stop
abbrev pub character : ℕ → ℕ
character b = if nat_le 32 b && nat_le b 126 then b else 46

-- the characters of this many bytes from the address on
abbrev pub characters : Memory → ℕ → ℕ → List ℕ
characters m addr zero = []
characters m addr (suc n) = characters m addr n ++ character (byte_or_zero m (addr + n)) ∷ []

-- a line: its address, its words, and after two blanks their bytes as characters
unfoldable pub line_text : Memory → ℕ → ℕ → ℕ → List ℕ
line_text m addr width words =
    address_text addr ++ (words_text m addr width words ++ (codes "  " ++ (characters m addr (words * width) ++ newline)))

-- this many lines of 16 bytes each
abbrev pub whole_lines : Memory → ℕ → ℕ → ℕ → List ℕ
whole_lines m addr width zero = []
whole_lines m addr width (suc n) = whole_lines m addr width n ++ line_text m (addr + 16 * n) width (16 / width)

-- a line of the words that are left, if there are any
abbrev pub short_line : Memory → ℕ → ℕ → ℕ → List ℕ
short_line m addr width words = if words == 0 then [] else line_text m addr width words

-- this many words from the address on, 16 bytes on a line; the last line may be shorter
unfoldable pub show_text : Memory → ℕ → ℕ → ℕ → List ℕ
show_text m addr width count =
    whole_lines m addr width (count / (16 / width)) ++ short_line m (addr + 16 * (count / (16 / width))) width (count % (16 / width))

-- this many bytes from the address on, as two digits each
abbrev pub byte_digits : Memory → ℕ → ℕ → List ℕ
byte_digits m addr zero = []
byte_digits m addr (suc n) = byte_digits m addr n ++ hex_text 2 (byte_or_zero m (addr + n))

-- these bytes on one line
abbrev pub raw_text : Memory → ℕ → ℕ → List ℕ
raw_text m addr count = byte_digits m addr count ++ newline

-- a line of one word of 8 bytes: its address, its value, and the symbol that the value is near
unfoldable pub symbol_line : Memory → List Symbol → ℕ → List ℕ
symbol_line m symbols addr =
    address_text addr ++ (word_text m addr 8 ++ (name_text symbols (number_in m addr 8) ++ newline))

-- this many such lines from the address on
abbrev pub syms_text : Memory → List Symbol → ℕ → ℕ → List ℕ
syms_text m symbols addr zero = []
syms_text m symbols addr (suc n) = syms_text m symbols addr n ++ symbol_line m symbols (addr + 8 * n)

-- a line of one instruction: its address, and after a blank its spelling
unfoldable pub instruction_line : Memory → ℕ → List ℕ
instruction_line m addr = address_text addr ++ (codes " " ++ (insn_text (number_in m addr 4) ++ newline))

-- this many such lines from the address on
abbrev pub instructions_text : Memory → ℕ → ℕ → List ℕ
instructions_text m addr zero = []
instructions_text m addr (suc n) = instructions_text m addr n ++ instruction_line m (addr + 4 * n)
