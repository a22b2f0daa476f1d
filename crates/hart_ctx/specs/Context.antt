-- What a context is at the start, and after a write to a register.
use Rattle.std.specs.Prelude.{◌≡◌, ℕ, ◌==◌, Bool, false, List, Option, None, replicate, slice_index_or, slice_set, if◌then◌else◌}
use Rattle.mach_base.specs.Machine.{Context}

-- x2 is the stack pointer, and every other register is 0
abbrev pub start_context : ℕ → ℕ → Context
start_context pc sp = record {
  registers = slice_set (replicate 32 0) 2 sp;
  pc = pc;
  epc = 0;
  vector = 0;
  masked = false;
  pending = false;
  halted = false;
  reservation = None;
}

-- the context after a write to a register; x0 stays 0
abbrev pub with_register : Context → ℕ → ℕ → Context
with_register c reg value = if reg == 0 then c else record c { registers = slice_set c.registers reg value }

-- the context of a hart by its number; a blank one where there is no such hart
abbrev pub context_of : List Context → ℕ → Context
context_of cs h = slice_index_or cs h (start_context 0 0)

-- the context after is the one before, but for the pending interrupt and the reservation: these are all that another
-- hart can change
pub record IsUnmoved (before after : Context) : Type 0 where
  pub interrupt : Bool
  pub granule : Option ℕ
  pub same : after ≡ record before { pending = interrupt; reservation = granule }
