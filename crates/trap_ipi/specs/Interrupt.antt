-- The taking of interrupts. docs/machine.md, "Harts", has the rule.
use Rattle.std.specs.Prelude.{◌==◌, ◌&&◌, Bool, true, false, not}
use Rattle.mach_base.specs.Machine.{Context}

-- whether the hart's interrupt may be taken: pending, not masked, not halted, and there is a handler
abbrev pub is_takeable : Context → Bool
is_takeable c = c.pending && (not c.masked && (not c.halted && not (c.vector == 0)))

-- the context after the interrupt is taken
abbrev pub after_interrupt : Context → Context
after_interrupt c = record c { epc = c.pc; pc = c.vector; pending = false; masked = true }
