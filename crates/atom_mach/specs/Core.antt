-- What the fields of the machine from the inside stand for.
use Rattle.std.specs.Prelude.{ℕ, ◌+◌, List, [], drop, slice_index_or}
use Rattle.mach_base.specs.Machine.{Machine}
use Rattle.mach_base.specs.declared.event.Hart.{Hart}
use Rattle.mach_base.specs.Masks.{all_but}
use Rattle.kdb_cmd.specs.Answer.{Answer}
use Rattle.kdb_cmd.specs.Line.{line_said}
use Rattle.kdb_cmd.specs.State.{state_of as seen_of}
use Rattle.atom_mach.specs.State.{State, hart_count}
use Rattle.atom_mach.specs.Session.{Cut, with_read, line_effect}
use Rattle.atom_mach.specs.declared.machine.Core.{Core}

-- its machine record
abbrev pub machine_of : Core → Machine
machine_of c = record {
  seen = seen_of c.contexts.items c.map.memory c.kdb c.names;
  limit = c.limit;
  unread = drop c.read c.script;
  lines_read = c.read;
  steps = c.steps;
  opened = c.opened;
}

-- its state
abbrev pub state_of : Core → State
state_of c = record { machine = machine_of c; mode = c.mode }

-- its next line
abbrev pub next_line : Core → List ℕ
next_line c = slice_index_or c.script c.read []

-- what the next line of a session gives
abbrev pub next_effect : Core → Hart → ℕ → Cut
next_effect c m late = line_effect m late (next_line c) (with_read (machine_of c) (drop (c.read + 1) c.script))

-- what its next line says in a session of all harts but the late ones
abbrev pub next_said : Core → Hart → ℕ → Answer
next_said c m late = line_said (all_but (hart_count (machine_of c)) late) m.0 (next_line c) (machine_of c).seen
