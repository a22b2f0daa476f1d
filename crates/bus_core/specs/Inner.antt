-- The planted machine from the inside: what its fields stand for, and what holds of them.
use Rattle.std.specs.Prelude.{◌≡◌, ℕ, ◌+◌, ◌++◌, ◌&&◌, Bool, true, false, List, [], drop, slice_index_or, is_none, if◌then◌else◌}
use Rattle.mach_base.specs.Masks.{all_but}
use Rattle.mach_base.specs.Machine.{LineState, Machine}
use Rattle.mach_base.specs.declared.event.Entry.{Entry}
use Rattle.mach_base.specs.declared.event.Entry.TheVariants.{Line, Off}
use Rattle.mach_base.specs.declared.event.Ending.{Ending}
use Rattle.mach_base.specs.declared.event.Ending.TheVariants.{ScriptEnd}
use Rattle.kdb_cmd.specs.State.{state_of as seen_of}
use Rattle.kdb_cmd.specs.Answer.{Answer}
use Rattle.kdb_cmd.specs.Line.{line_said}
use Rattle.kdb_cmd.specs.declared.outcomes.Outcome.{Outcome}
use Rattle.kdb_cmd.specs.declared.outcomes.Outcome.TheVariants as outcome
use Rattle.deck_core.specs.declared.plain.notes.Sitting.{Sitting}
use Rattle.deck_core.specs.declared.plain.notes.Stage.{Stage}
use Rattle.deck_core.specs.declared.plain.notes.Stage.TheVariants as stage
use Rattle.atom_mach.specs.State.{hart_count}
use Rattle.atom_mach.specs.Traps.{trap}
use Rattle.atom_mach.specs.Session.{Cut, with_read, with_seen, line_effect, stops_again}
use Rattle.plant_mach.specs.Machine.{PlantedMachine}
use Rattle.plant_mach.specs.Entries.{may, effect}
use Rattle.bus_core.specs.declared.inner.Inner.{Inner}

-- its planted machine
abbrev pub machine_of : Inner → PlantedMachine
machine_of c = record {
  machine = record {
    seen = seen_of c.contexts.items c.memory.planted.memory c.kdb c.names;
    limit = c.limit;
    unread = drop c.read c.script;
    lines_read = c.read;
    steps = c.steps;
    opened = c.opened;
  };
  places = c.memory.planted.places;
  step = c.memory.planted.step;
  calls = c.calls.items;
  session = c.session;
  ending = c.ending;
}

-- its next line
abbrev pub next_line : Inner → List ℕ
next_line c = slice_index_or c.script c.read []

-- the machine record once the next line is read
abbrev pub line_read : Inner → Machine
line_read c = with_read (machine_of c).machine (drop (c.read + 1) c.script)

-- the machine once the next line is read and has left this to be seen
abbrev pub read_on : Inner → LineState → PlantedMachine
read_on c seen = record (machine_of c) { machine = with_seen (line_read c) seen }

-- what the debugger answers to the next line in this session; the processors in it are all but the late ones
abbrev pub next_answer : Inner → Sitting → Answer
next_answer c s = line_said (all_but (hart_count (machine_of c).machine) s.late) s.master.0 (next_line c) (machine_of c).machine.seen

-- what the next line gives in this session
abbrev pub next_effect : Inner → Sitting → Cut
next_effect c s = line_effect s.master s.late (next_line c) (line_read c)

-- the stage once a line has let the machine go on: a pass where the master would stop at once
abbrev pub stage_of_go : Machine → ℕ → Stage
stage_of_go s m = if stops_again (trap s m) then stage.Pass false else stage.Leaving

-- the stage after a line of this outcome
abbrev pub stage_left : Outcome → Machine → ℕ → Stage
stage_left outcome.Stay s m = stage.Lines
stage_left outcome.Go s m = stage_of_go s m
stage_left outcome.Step s m = stage.Pass true

-- whether the entry prints no prompt: all but lines and the script's end
abbrev pub is_quiet : Entry → Bool
is_quiet (Line h) = false
is_quiet (Off ScriptEnd) = false
is_quiet other = true

-- whether the entry is legal
abbrev pub is_legal : PlantedMachine → Entry → Bool
is_legal p e = is_none p.ending && may p e

-- The entry was made on the machine: what it prints was appended to the text, and this is the machine after it.
pub record IsDone (p : PlantedMachine) (e : Entry) (before after : List ℕ) (q : PlantedMachine) : Type 0 where
  pub text : after ≡ before ++ (effect p e).text
  pub next : q ≡ (effect p e).next
