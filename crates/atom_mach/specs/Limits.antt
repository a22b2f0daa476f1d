-- What every step keeps, and the limits of every state of a run.
use Rattle.std.specs.Prelude.{◌≡◌, ◌+◌, ◌≤◌, List, length, Some}
use Rattle.mach_base.specs.Machine.{AreSegments, Machine}
use Rattle.mach_base.specs.declared.limits.TheConstants.{MOST_HARTS, MOST_SYMBOLS, MOST_LINES, MOST_STEPS}
use Rattle.kdb_cmd.specs.Limits.{WithinLimits as DebuggerLimits}
use Rattle.atom_mach.specs.declared.step.AStep.{AStep}
use Rattle.atom_mach.specs.State.{State, Done, hart_count}
use Rattle.atom_mach.specs.Modes.{owed}
use Rattle.atom_mach.specs.Step.{does}
use Rattle.atom_mach.specs.Run.{run_of}

-- the number of harts, the segments, the symbols, the limit of steps and the number of the script's lines are the same, and
-- what the debugger may hold it holds no more of
pub record IsKept (before after : Machine) : Type 0 where
  pub harts : hart_count after ≡ hart_count before
  pub segments : after.seen.memory.segments ≡ before.seen.memory.segments
  pub symbols : after.seen.symbols ≡ before.seen.symbols
  pub limit : after.limit ≡ before.limit
  pub script : after.lines_read + length after.unread ≡ before.lines_read + length before.unread
  pub debugger : DebuggerLimits before.seen → DebuggerLimits after.seen

-- every allowed step keeps them
abbrev pub StepsKeep : Type 0
StepsKeep = (s : State) (step : AStep) (d : Done) → does s step ≡ Some d → IsKept s.machine d.next.machine

-- There are 1 to 16 harts, segments as an image may have them, at most 500,000 symbols, and what the debugger may hold; the
-- script has at most 4,096 lines, and the limit of steps is at most 4,000,000. A single-step pass is owed only once a line
-- was read, and each line that was read allows one step beyond the limit, the one still owed among them.
pub record WithinLimits (s : State) : Type 0 where
  pub some_hart : 1 ≤ hart_count s.machine
  pub few_harts : hart_count s.machine ≤ MOST_HARTS
  pub segments : AreSegments s.machine.seen.memory.segments
  pub symbols : length s.machine.seen.symbols ≤ MOST_SYMBOLS
  pub debugger : DebuggerLimits s.machine.seen
  pub script : s.machine.lines_read + length s.machine.unread ≤ MOST_LINES
  pub limit : s.machine.limit ≤ MOST_STEPS
  pub pass : owed s.mode ≤ s.machine.lines_read
  pub steps : s.machine.steps + owed s.mode ≤ s.machine.limit + s.machine.lines_read

-- every run from a state within the limits stays within them
abbrev pub RunsKeepTheLimits : Type 0
RunsKeepTheLimits = (s : State) (steps : List AStep) (d : Done) → WithinLimits s → run_of s steps ≡ Some d → WithinLimits d.next
