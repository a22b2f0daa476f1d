-- What a machine with one hart finds where the hart's instruction comes next, unless its word faults.
use Rattle.std.specs.Prelude.{◌≡◌, ℕ, ◌<◌, ◌==◌, true, false, None, Ok}
use Rattle.rv_table.specs.declared.table.TheConstants.{EBREAK}
use Rattle.trap_ipi.specs.Interrupt.{is_takeable}
use Rattle.kdb_bp.specs.Breaks.{first_enabled}
use Rattle.atom_mach.specs.declared.step.Mode.TheVariants.{Free}
use Rattle.atom_mach.specs.State.{State, context_at}
use Rattle.atom_mach.specs.Traps.{fetched_at}

-- hart 0 runs in the free machine below the limit, it has no interrupt to take and no breakpoint at its pc, and the word there
-- is this one, which is no ebreak
pub record IsNext (s : State) (word : ℕ) : Type 0 where
  pub mode : s.mode ≡ Free
  pub opened : s.machine.opened ≡ true
  pub awake : (context_at s.machine 0).halted ≡ false
  pub unasked : is_takeable (context_at s.machine 0) ≡ false
  pub below : s.machine.steps < s.machine.limit
  pub no_breakpoint : first_enabled (context_at s.machine 0).pc s.machine.seen.places ≡ None
  pub fetched : fetched_at s.machine 0 ≡ Ok word
  pub no_ebreak : (word == EBREAK) ≡ false
