-- The commands that show memory.
use Rattle.std.specs.Prelude.{ℕ, ◌*◌, ◌/◌, List, unwrap_or, Option, Some, None, Result, Ok, Err}
use Rattle.mach_base.specs.Machine.{Memory, Symbol, LineState}
use Rattle.mach_base.specs.Sequence.{◌>>=◌}
use Rattle.kdb_mem.specs.declared.mem_fault.MemFault.{MemFault}
use Rattle.kdb_mem.specs.declared.mem_fault.MemFault.TheVariants.{BadAddr, TooWide, OutOfMemory}
use Rattle.kdb_mem.specs.Range.{first_unmapped, first_refused}
use Rattle.kdb_mem.specs.Shown.{show_text, raw_text, syms_text}
use Rattle.kdb_mem.specs.Shown as shown
use Rattle.kdb_view.specs.declared.arguments.Values.{Values}
use Rattle.kdb_table.specs.declared.diagnostics.Diagnostic.{Diagnostic}
use Rattle.kdb_table.specs.declared.diagnostics.Diagnostic.TheVariants.{BadAddress, BadNumber}
use Rattle.kdb_table.specs.declared.refusals.Refusal.{Refusal}
use Rattle.kdb_table.specs.declared.refusals.Refusal.TheVariants.{Diagnosed, OutOfMemory as NoMemory}
use Rattle.kdb_view.specs.Arguments.{address, count_wanted, count_or_diagnostic, lines_wanted}
use Rattle.kdb_table.specs.Table.{spelled_width, spelled_count}

-- the refusal of a command whose memory isn't shown or changed; the value that is too wide is its second argument
abbrev pub memory_refusal : MemFault → Refusal
memory_refusal (BadAddr addr) = Diagnosed (BadAddress addr)
memory_refusal TooWide = Diagnosed (BadNumber 2)
memory_refusal OutOfMemory = NoMemory

-- the text, unless an address is refused
abbrev pub unless_unmapped : Option ℕ → List ℕ → Result (List ℕ) Diagnostic
unless_unmapped None text = Ok text
unless_unmapped (Some addr) text = Err (BadAddress addr)

-- this many words from the address on
unfoldable pub words_text : Memory → ℕ → ℕ → ℕ → Result (List ℕ) Diagnostic
words_text m addr width count = unless_unmapped (first_unmapped m addr (count * width)) (show_text m addr width count)

-- this many bytes from the address on
unfoldable pub bytes_text : Memory → ℕ → ℕ → Result (List ℕ) Diagnostic
bytes_text m addr count = unless_unmapped (first_unmapped m addr count) (raw_text m addr count)

-- `md E [E]`, `mdW E [E]`: lines of 16 bytes in words of this width
unfoldable pub md_text : LineState → ℕ → Values → Result (List ℕ) Diagnostic
md_text s width v = lines_wanted s v.second >>= λ lines. words_text s.memory (address v) width (lines * 16 / width)

-- `mdWcN E`: N words of W bytes
unfoldable pub md_count_text : LineState → List ℕ → Values → Result (List ℕ) Diagnostic
md_count_text s word v =
    count_or_diagnostic (spelled_count word) >>= λ count. words_text s.memory (address v) (spelled_width word) count

-- `mdr E E`: at most 4,096 bytes as digits
unfoldable pub mdr_text : LineState → Values → Result (List ℕ) Diagnostic
mdr_text s v = count_wanted (unwrap_or v.second 0) 4096 >>= λ count. bytes_text s.memory (address v) count

-- this many words of eight bytes from the address on, with the symbols that they are near
unfoldable pub symbols_text : Memory → List Symbol → ℕ → ℕ → Result (List ℕ) Diagnostic
symbols_text m symbols addr count = unless_unmapped (first_unmapped m addr (count * 8)) (syms_text m symbols addr count)

-- `mds E [E]`: words with the symbols that they are near, a line for each
unfoldable pub mds_text : LineState → Values → Result (List ℕ) Diagnostic
mds_text s v = lines_wanted s v.second >>= λ lines. symbols_text s.memory s.symbols (address v) lines

-- this many instructions from the address on, each on a line
unfoldable pub instructions_text : Memory → ℕ → ℕ → Result (List ℕ) Diagnostic
instructions_text m addr count = unless_unmapped (first_refused m addr (count * 4)) (shown.instructions_text m addr count)

-- `id E [E]`: instructions, a line for each; an address that is no multiple of 4 is refused after the count
unfoldable pub id_text : LineState → Values → Result (List ℕ) Diagnostic
id_text s v = lines_wanted s v.second >>= λ lines. instructions_text s.memory (address v) lines
