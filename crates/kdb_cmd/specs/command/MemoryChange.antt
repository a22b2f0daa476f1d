-- The command that changes memory.
use Rattle.std.specs.Prelude.{ℕ, ◌+◌, ◌-◌, unwrap_or, Option, Some, None, Result, Ok, Err}
use Rattle.mach_base.specs.Machine.{LineState}
use Rattle.mach_base.specs.Bytes.{with_value}
use Rattle.hart_ctx.specs.Reservation.{granule_of, without_reservations}
use Rattle.kdb_mem.specs.declared.mem_fault.MemFault.{MemFault}
use Rattle.kdb_mem.specs.declared.mem_fault.MemFault.TheVariants.{BadAddr, TooWide, OutOfMemory}
use Rattle.kdb_mem.specs.Changed.{modify_refusal, modify_text}
use Rattle.kdb_view.specs.declared.arguments.Values.{Values}
use Rattle.kdb_table.specs.declared.diagnostics.Diagnostic.{Diagnostic}
use Rattle.kdb_table.specs.declared.diagnostics.Diagnostic.TheVariants.{BadAddress, BadNumber}
use Rattle.kdb_cmd.specs.declared.outcomes.Outcome.TheVariants.{Stay}
use Rattle.kdb_cmd.specs.Answer.{Answer}
use Rattle.kdb_view.specs.Arguments.{address}

-- the state once a value is written in so many bytes from an address on; each reservation on a granule that it touches
-- has ended
abbrev pub with_memory_write : LineState → ℕ → ℕ → ℕ → LineState
with_memory_write s addr width value = record s {
  memory = with_value s.memory addr width value;
  harts = without_reservations (granule_of addr) (granule_of (addr + width - 1)) s.harts;
}

-- the value is written, unless it is refused
abbrev pub write_or_diagnostic : Option MemFault → LineState → ℕ → ℕ → ℕ → Result Answer Diagnostic
write_or_diagnostic None s addr width value = Ok (record { output = modify_text addr value; state = with_memory_write s addr width value; outcome = Stay })
write_or_diagnostic (Some (BadAddr bad)) s addr width value = Err (BadAddress bad)
write_or_diagnostic (Some TooWide) s addr width value = Err (BadNumber 2)
write_or_diagnostic (Some OutOfMemory) s addr width value = Err (BadNumber 2)

-- a value is written in so many bytes from an address on
unfoldable pub write_answer : ℕ → ℕ → ℕ → LineState → Result Answer Diagnostic
write_answer addr width value s = write_or_diagnostic (modify_refusal s.memory addr width value) s addr width value

-- `mm E E`, `mmW E E`, in words of this width
abbrev pub mm_answer : ℕ → Values → LineState → Result Answer Diagnostic
mm_answer width v s = write_answer (address v) width (unwrap_or v.second 0) s
