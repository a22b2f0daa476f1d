-- Sessions: their openings, their lines, and the parts that a run cut off may end in.
use Rattle.std.specs.Prelude.{ℕ, zero, suc, ◌+◌, ◌==◌, ◌&&◌, Bool, true, false, List, [], ◌∷◌, ◌++◌, Option, Some, None, nat_lt, option_map, if◌then◌else◌}
use Rattle.mach_base.specs.Texts.{newline}
use Rattle.mach_base.specs.Masks.{all_but}
use Rattle.mach_base.specs.Machine.{LineState, Machine}
use Rattle.mach_base.specs.declared.event.Hart.{Hart}
use Rattle.mach_base.specs.declared.event.Reason.{Reason}
use Rattle.mach_base.specs.declared.event.Reason.TheVariants.{Breakpoint, Compiled, Step, Fault as FaultReason}
use Rattle.mach_base.specs.declared.event.Ending.TheVariants.{ScriptEnd}
use Rattle.kdb_cmd.specs.declared.outcomes.Outcome.{Outcome}
use Rattle.kdb_cmd.specs.declared.outcomes.Outcome.TheVariants.{Stay, Go, Step as StepOut}
use Rattle.kdb_cmd.specs.Answer.{Answer}
use Rattle.kdb_cmd.specs.Line as debugger
use Rattle.atom_mach.specs.declared.step.Mode.{Mode}
use Rattle.atom_mach.specs.declared.step.Mode.TheVariants.{Free, Pass, Back, Over}
use Rattle.atom_mach.specs.State.{State, Done, prefixed, hart_count, context_at}
use Rattle.atom_mach.specs.Texts.{banner_text, prompt_by}
use Rattle.atom_mach.specs.Traps.{fault_of, trap}
use Rattle.atom_mach.specs.Modes.{after_go}

-- A part of a session from its beginning on: what it printed, the machine then, and the mode in which its last line left
-- the session; none while it is inside.
pub record Cut : Type 0 where
  pub text : List ℕ
  pub machine : Machine
  pub left : Option Mode

-- the text before a part
abbrev pub before_cut : List ℕ → Cut → Cut
before_cut text c = record c { text = text ++ c.text }

-- Openings.

-- whether the hart is one of the machine's
abbrev pub is_hart : Machine → ℕ → Bool
is_hart s h = nat_lt h (hart_count s)

-- the reason for which the hart may open a session with these late harts, if any: its trap in the free machine; after a
-- step in a pass, Step; in a pass, the fault of the instruction that it owes
abbrev pub opening_reason : Mode → Machine → ℕ → ℕ → Option Reason
opening_reason Free s m late = trap s m
opening_reason (Back k was_late) s m late = if (k.0 == m) && (was_late == late) then Some Step else None
opening_reason (Pass k was_late again) s m late =
    if (k.0 == m) && (was_late == late) then option_map FaultReason (fault_of s m) else None
opening_reason mode s m late = None

-- the machine once a session of m is open
abbrev pub entered : Machine → ℕ → Machine
entered s m = record s { seen = record s.seen { current = m }; opened = true }

-- the opening of a session of m with these late harts for this reason: its banner, and m is the current processor
abbrev pub session_opening : Machine → Hart → ℕ → Reason → Cut
session_opening s m late reason = record {
  text = banner_text late m.0 reason (context_at s m.0).pc;
  machine = entered s m.0;
  left = None;
}

-- Lines.

-- the machine once its next line is read
abbrev pub with_read : Machine → List (List ℕ) → Machine
with_read s rest = record s { unread = rest; lines_read = s.lines_read + 1 }

-- the prompt of the machine
abbrev pub prompt_text : Machine → List ℕ
prompt_text s = prompt_by s.seen.variables s.seen.current

-- whether this trap stops a hart that goes on
abbrev pub stops_again : Option Reason → Bool
stops_again (Some (Breakpoint i)) = true
stops_again (Some Compiled) = true
stops_again other = false

-- the mode after go: a pass where the master would stop at once, else free or leaving
abbrev pub mode_of_go : Machine → Hart → ℕ → Mode
mode_of_go s m late = if stops_again (trap s m.0) then Pass m late false else after_go m late

-- the mode in which a line of this outcome leaves the session, none where the session goes on
abbrev pub mode_left : Outcome → Machine → Hart → ℕ → Option Mode
mode_left Stay s m late = None
mode_left Go s m late = Some (mode_of_go s m late)
mode_left StepOut s m late = Some (Pass m late true)

-- the machine in which a line sees this
abbrev pub with_seen : Machine → LineState → Machine
with_seen s t = record s { seen = t }

-- what a line gives to which the debugger answers so
abbrev pub answer_effect : Hart → ℕ → List ℕ → Machine → Answer → Cut
answer_effect m late line s answer = record {
  text = prompt_text s ++ (line ++ (newline ++ answer.output));
  machine = with_seen s answer.state;
  left = mode_left answer.outcome (with_seen s answer.state) m late;
}

-- What one line of a session of m with these late harts gives, once it is read: the prompt, the line and its output; the
-- processors in the session are all but the late ones.
unfoldable pub line_effect : Hart → ℕ → List ℕ → Machine → Cut
line_effect m late line s =
    answer_effect m late line s (debugger.line_said (all_but (hart_count s) late) m.0 line s.seen)

-- Whole sessions with no late harts.

-- what follows a line: the rest of the session, or the mode in which the line left it
abbrev pub after_line : Option Mode → Cut → Done → Done
after_line None c rest = prefixed c.text rest
after_line (Some mode) c rest = record { text = c.text; next = record { machine = c.machine; mode = mode } }

-- The lines of a session of m, up to the first that leaves, or to a prompt that finds none.
unfoldable pub session_lines : Hart → List (List ℕ) → Machine → Done
session_lines m [] s = record { text = prompt_text s ++ newline; next = record { machine = s; mode = Over ScriptEnd } }
session_lines m (line ∷ rest) s =
    after_line (line_effect m 0 line (with_read s rest)).left (line_effect m 0 line (with_read s rest))
    (session_lines m rest (line_effect m 0 line (with_read s rest)).machine)

-- A session of m: its opening, then its lines.
unfoldable pub session : Machine → Hart → Reason → Done
session s m reason = prefixed (session_opening s m 0 reason).text (session_lines m s.unread (session_opening s m 0 reason).machine)

-- Sessions that are cut off, with no late harts.

-- what follows a line when this many lines are left to the cut: a line that leaves is the last
abbrev pub cut_after : Option Mode → ℕ → Cut → Option Cut → Option Cut
cut_after None count c rest = option_map (before_cut c.text) rest
cut_after (Some mode) zero c rest = Some c
cut_after (Some mode) (suc count) c rest = None

-- The first lines of a session of m, so many of them; None where there are fewer, or where one before the last of them
-- leaves.
unfoldable pub cut_lines : Hart → ℕ → List (List ℕ) → Machine → Option Cut
cut_lines m zero lines s = Some (record { text = []; machine = s; left = None })
cut_lines m (suc count) [] s = None
cut_lines m (suc count) (line ∷ rest) s =
    cut_after (line_effect m 0 line (with_read s rest)).left count (line_effect m 0 line (with_read s rest))
    (cut_lines m count rest (line_effect m 0 line (with_read s rest)).machine)

-- the opening of a session for this reason, then its first lines
abbrev pub cut_for : Machine → Hart → ℕ → Option Reason → Option Cut
cut_for s m count None = None
cut_for s m count (Some reason) =
    option_map (before_cut (session_opening s m 0 reason).text) (cut_lines m count s.unread (session_opening s m 0 reason).machine)

-- A session of m that is cut off after so many lines; None where m may not open it, or it has no such cut.
unfoldable pub cut_session : State → Hart → ℕ → Option Cut
cut_session s m count =
    if is_hart s.machine m.0 then cut_for s.machine m count (opening_reason s.mode s.machine m.0 0) else None
