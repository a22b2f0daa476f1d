-- The room that is left to be needed: bytes of the journal, and bytes of text.
use Rattle.std.specs.Prelude.{ℕ, zero, suc, ◌+◌, ◌-◌, ◌*◌, Bool, true, false, List, length, slice_index_or, Option, Some, None, is_some, if◌then◌else◌}
use Rattle.mach_base.specs.Machine.{Machine}
use Rattle.mach_base.specs.declared.limits.TheConstants.{PLACES}
use Rattle.mach_base.specs.declared.event.Entry.{Entry}
use Rattle.mach_base.specs.declared.event.Entry.TheVariants.{Send, Line, PlantStep}
use Rattle.deck_core.specs.declared.plain.notes.Sitting.{Sitting}
use Rattle.deck_core.specs.declared.plain.notes.Stage.{Stage}
use Rattle.deck_core.specs.declared.plain.notes.Stage.TheVariants as stage
use Rattle.atom_mach.specs.State.{hart_count}
use Rattle.plant_mach.specs.Machine.{PlantedMachine}
use Rattle.plant_mach.specs.Entries.{effect}
use Rattle.plant_told.specs.Told.{Counted}

-- Counts of the machine.

-- how many of the first so many numbers pass the test
abbrev pub count_where : (ℕ → Bool) → ℕ → ℕ
count_where test zero = 0
count_where test (suc n) = if test n then suc (count_where test n) else count_where test n

-- how many calls are pending
abbrev pub pending_calls : PlantedMachine → ℕ
pending_calls p = count_where (λ h. slice_index_or p.calls h false) (hart_count p.machine)

-- how many places are planted
abbrev pub planted_count : List (Option ℕ) → ℕ
planted_count places = count_where (λ i. is_some (slice_index_or places i None)) PLACES

-- how many calls may be sent in all: one to each other hart at the start, and one more with each line of the script
abbrev pub most_sends : Machine → ℕ
most_sends s = (hart_count s - 1) * suc (s.lines_read + length s.unread)

-- how many steps may still be made: the limit, and one beyond it for each line that was read
abbrev pub steps_left : Machine → ℕ
steps_left s = s.limit + s.lines_read - s.steps

-- Entries.

-- how many entries a session may have from this stage on before its next line, and with its end before the next session's
-- first line: places are pulled, planted and pulled again; the step word is planted and taken out
abbrev pub stage_left : Stage → ℕ → Bool → ℕ
stage_left stage.Lines planted stepped = planted + 1
stage_left (stage.Pass again) planted stepped = if stepped then 35 else 37
stage_left stage.Back planted stepped = 18
stage_left stage.Leaving planted stepped = 35 - planted

-- the same without a session too
abbrev pub session_left : Option Sitting → ℕ → Bool → ℕ
session_left None planted stepped = planted + 2
session_left (Some s) planted stepped = stage_left s.stage planted stepped

-- one where the step word stands
abbrev pub word_left : Option ℕ → ℕ
word_left step = if is_some step then 1 else 0

-- how many entries but steps there may still be: a call and its taking; 52 with each line; those of the session
abbrev pub entries_left : Counted → ℕ
entries_left c =
    2 * (most_sends c.machine.machine - c.sends) + pending_calls c.machine + 52 * length c.machine.machine.unread
    + session_left c.machine.session (planted_count c.machine.places) c.stepped + word_left c.machine.step

-- How many bytes the journal may still need: a byte for each step, and at most 10 for each other entry.
unfoldable pub bytes_left : Counted → ℕ
bytes_left c = steps_left c.machine.machine + 10 * entries_left c

-- Text.

-- one where another opening comes before the next line
abbrev pub opening_at : Stage → ℕ
opening_at stage.Lines = 0
opening_at other = 1

-- the same without a session too
abbrev pub opening_left : Option Sitting → ℕ
opening_left None = 1
opening_left (Some s) = opening_at s.stage

-- How many bytes of text there may still be besides those of lines: a byte for each step, and 240 for each banner; 240 more
-- are always left.
unfoldable pub text_left : Counted → ℕ
text_left c = steps_left c.machine.machine + 240 * suc (length c.machine.machine.unread + opening_left c.machine.session)

-- Counts after an entry.

-- the number of calls sent
abbrev pub sends_after : Entry → ℕ → ℕ
sends_after (Send k) sends = suc sends
sends_after other sends = sends

-- whether a step word was planted since the last line
abbrev pub stepped_after : Entry → Bool → Bool
stepped_after (Line h) stepped = false
stepped_after (PlantStep addr) stepped = true
stepped_after other stepped = stepped

-- the machine after the entry, with its counts
abbrev pub counted_after : Counted → Entry → Counted
counted_after c e = record {
  machine = (effect c.machine e).next;
  sends = sends_after e c.sends;
  stepped = stepped_after e c.stepped;
  released = c.released;
}
