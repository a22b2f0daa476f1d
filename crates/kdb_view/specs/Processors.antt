-- The commands about processors.
use Rattle.std.specs.Prelude.{ℕ, zero, suc, ◌==◌, List, [], ◌++◌, length, codes, Result, Ok, Err, if◌then◌else◌}
use Rattle.mach_base.specs.Machine.{Context, LineState}
use Rattle.mach_base.specs.Number.{dec_text, number_of}
use Rattle.mach_base.specs.Texts.{newline}
use Rattle.mach_base.specs.Masks.{has_bit}
use Rattle.mach_base.specs.declared.number.NumFault.{NumFault}
use Rattle.hart_ctx.specs.Context.{context_of}
use Rattle.kdb_bt.specs.Frames.{frames_of}
use Rattle.kdb_bt.specs.Texts.{frames_text}
use Rattle.kdb_table.specs.declared.diagnostics.Diagnostic.{Diagnostic}
use Rattle.kdb_table.specs.declared.diagnostics.Diagnostic.TheVariants.{BadNumber, BadProcessor}
use Rattle.kdb_view.specs.declared.processors.CpuAnswer.{CpuAnswer}
use Rattle.kdb_view.specs.State.{current_context}
use Rattle.mach_base.specs.Sequence.{◌>>=◌}

-- what separates a number from those before it
abbrev pub separator : List ℕ → List ℕ
separator before = if length before == 0 then [] else codes ", "

-- a number after those before it, where its processor is in the session
unfoldable pub number_text : ℕ → ℕ → List ℕ → List ℕ
number_text gathered n before = if has_bit gathered n then separator before ++ dec_text n else []

-- the numbers below n of the processors in the session, ascending
abbrev pub numbers_text : ℕ → ℕ → List ℕ
numbers_text gathered zero = []
numbers_text gathered (suc n) = numbers_text gathered n ++ number_text gathered n (numbers_text gathered n)

-- the line that says which processor is the current one
unfoldable pub current_line : ℕ → List ℕ
current_line n = codes "Currently on cpu " ++ (dec_text n ++ newline)

-- the line of the processors in the session
unfoldable pub available_line : ℕ → ℕ → List ℕ
available_line gathered harts = codes "Available cpus: " ++ (numbers_text gathered harts ++ newline)

-- `cpu`: the current processor, and those in the session
unfoldable pub cpu_text : ℕ → LineState → List ℕ
cpu_text gathered s = current_line s.current ++ available_line gathered (length s.harts)

-- a processor, where it is in the session
abbrev pub processor_or_diagnostic : ℕ → Result ℕ NumFault → Result ℕ Diagnostic
processor_or_diagnostic gathered (Ok n) = if has_bit gathered n then Ok n else Err (BadProcessor n)
processor_or_diagnostic gathered (Err why) = Err (BadNumber 1)

-- the processor that the argument of `cpu N` names by its number, in decimal
unfoldable pub processor_wanted : ℕ → List ℕ → Result ℕ Diagnostic
processor_wanted gathered word = processor_or_diagnostic gathered (number_of 10 word)

-- a processor becomes the current one
abbrev pub answer_of_cpu : ℕ → Result CpuAnswer Diagnostic
answer_of_cpu n = Ok (record { text = current_line n; current = n })

-- `cpu N`, where these processors are in the session
unfoldable pub cpu_answer : ℕ → List ℕ → Result CpuAnswer Diagnostic
cpu_answer gathered word = processor_wanted gathered word >>= answer_of_cpu

-- the frames of a context
abbrev pub context_frames : LineState → Context → List ℕ
context_frames s context = frames_text s.symbols 0 (frames_of s.memory context)

-- `bt`: the frames of the current processor
abbrev pub bt_text : LineState → List ℕ
bt_text s = context_frames s (current_context s)

-- a processor's number, and its frames
unfoldable pub processor_frames : LineState → ℕ → List ℕ
processor_frames s n = codes "cpu " ++ (dec_text n ++ (newline ++ context_frames s (context_of s.harts n)))

-- the frames of the processors below n that are in the session, ascending
abbrev pub frames_below : ℕ → LineState → ℕ → List ℕ
frames_below gathered s zero = []
frames_below gathered s (suc n) = frames_below gathered s n ++ (if has_bit gathered n then processor_frames s n else [])

-- `btc`: the frames of each processor in the session
unfoldable pub btc_text : ℕ → LineState → List ℕ
btc_text gathered s = frames_below gathered s (length s.harts)
