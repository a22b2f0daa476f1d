-- The reading of a journal: the steps of the atomic machine that its entries are.
use Rattle.std.specs.Prelude.{◌≡◌, ℕ, ◌+◌, ◌==◌, Bool, true, false, List, [], ◌∷◌, ◌++◌, Option, Some, None, if◌then◌else◌}
use Rattle.mach_base.specs.Machine.{Symbol}
use Rattle.mach_base.specs.declared.event.Hart.{Hart}
use Rattle.mach_base.specs.declared.event.Ending.{Ending}
use Rattle.mach_base.specs.declared.event.Ending.TheVariants.{ScriptEnd, AllHalted, StepLimit, PlanEnd}
use Rattle.mach_base.specs.declared.event.Entry.{Entry}
use Rattle.mach_base.specs.declared.event.Entry.TheVariants as entry
use Rattle.img_text.specs.Image.{ImageRecord, IsImage}
use Rattle.atom_mach.specs.declared.step.AStep.{AStep}
use Rattle.atom_mach.specs.declared.step.AStep.TheVariants.{Instr, Intr, Session, Enter, Line, End, Off}
use Rattle.atom_mach.specs.State.{State, Done, start_state}
use Rattle.atom_mach.specs.Session.{Cut, cut_session}
use Rattle.atom_mach.specs.Run.{CutAt, run_of, transcript}
use Rattle.atom_mach.specs.Texts.{ending_line}
use Rattle.plant_mach.specs.Machine.{planted_start, mode_shown}
use Rattle.plant_mach.specs.Entries.{Made, made_by}

-- What was read so far: the steps; the session with no late harts that was opened and of which only lines were read since,
-- with the number of these; whether the last session that was opened has late harts and wasn't closed.
pub record Reading : Type 0 where
  pub steps : List AStep
  pub cut : Option CutAt
  pub late : Bool

-- nothing was read
abbrev pub unread : Reading
unread = record { steps = []; cut = None; late = false }

-- a step more
abbrev pub with_step : Reading → AStep → Reading
with_step r step = record r { steps = r.steps ++ (step ∷ []) }

-- The session that was cut off so far is a whole one.
abbrev pub settled_from : Option CutAt → Reading → Reading
settled_from None r = r
settled_from (Some cut) r = record { steps = r.steps ++ (Session cut.master ∷ []); cut = None; late = r.late }

-- what was read so far, where something other than lines follows
abbrev pub settled : Reading → Reading
settled r = settled_from r.cut r

-- an opening: a session with no late harts is to be one step, one with late harts opens by a step
abbrev pub with_opening : Reading → Hart → ℕ → Reading
with_opening r m late =
    if late == 0 then record { steps = r.steps; cut = Some (record { master = m; lines = 0 }); late = false }
    else record { steps = r.steps ++ (Enter m late ∷ []); cut = None; late = true }

-- a line: one more of the session with no late harts, else a step
abbrev pub with_line_in : Option CutAt → Reading → Reading
with_line_in None r = with_step r Line
with_line_in (Some cut) r = record r { cut = Some (record cut { lines = cut.lines + 1 }) }

-- the closing of a session is a step where it has late harts
abbrev pub with_closing : Reading → Reading
with_closing r = if r.late then record { steps = r.steps ++ (End ∷ []); cut = r.cut; late = false } else r

-- the script's end belongs to the session with no late harts; else it is a step
abbrev pub with_script_end : Option CutAt → Reading → Reading
with_script_end None r = with_step r (Off ScriptEnd)
with_script_end (Some cut) r = settled r

-- an ending
abbrev pub with_ending : Reading → Ending → Reading
with_ending r ScriptEnd = with_script_end r.cut r
with_ending r AllHalted = with_step (settled r) (Off AllHalted)
with_ending r StepLimit = with_step (settled r) (Off StepLimit)
with_ending r PlanEnd = with_step (settled r) (Off PlanEnd)

-- What was read, and this entry. Calls and what is planted or pulled are no steps; to plant and to pull step words
-- shows only that the session's lines are over.
abbrev pub with_entry : Reading → Entry → Reading
with_entry r (entry.Step h) = with_step (settled r) (Instr h)
with_entry r (entry.Intr h) = with_step (settled r) (Intr h)
with_entry r (entry.Send h) = settled r
with_entry r (entry.Take h) = settled r
with_entry r (entry.Open m late) = with_opening (settled r) m late
with_entry r (entry.Pull i) = r
with_entry r (entry.Line h) = with_line_in r.cut r
with_entry r (entry.Plant i) = settled r
with_entry r (entry.PlantStep addr) = settled r
with_entry r entry.PullStep = settled r
with_entry r (entry.Close h) = with_closing (settled r)
with_entry r (entry.Off ending) = with_ending r ending

-- what was read, and these entries
abbrev pub with_entries : Reading → List Entry → Reading
with_entries r [] = r
with_entries r (e ∷ es) = with_entries (with_entry r e) es

-- The reading of a list of entries.
unfoldable pub reading : List Entry → Reading
reading es = with_entries unread es

-- What a reading stands for.

-- after the steps the atomic machine is, and has printed, what the planted one is and has; where a session is cut off, this
-- holds of its cut, and the mode is the one in which the last line left it
abbrev pub Stands : Option CutAt → Done → Made → Type 0
Stands None last d = (last.text ≡ d.text) × (last.next.machine ≡ d.next.machine) × (Some last.next.mode ≡ mode_shown d.next)
Stands (Some at) last d =
    (c : Cut) × (cut_session last.next at.master at.lines ≡ Some c)
    × (last.text ++ c.text ≡ d.text) × (c.machine ≡ d.next.machine) × (c.left ≡ mode_shown d.next)

-- The reading is a run of the atomic machine from this state, which prints what the entries print and comes to the state
-- that the planted machine shows after them.
pub record IsReading (start : State) (r : Reading) (d : Made) : Type 0 where
  pub last : Done
  pub run : run_of start r.steps ≡ Some last
  pub stands : Stands r.cut last d

-- the transcript of a reading under an ending: that of its run
abbrev pub transcript_of : State → Reading → Ending → Option (List ℕ)
transcript_of start r ending = transcript start r.steps r.cut ending

-- Laws.

-- every legal list of entries, from the start of the machine of any image, reads as a run of the atomic machine from the same start
abbrev pub LegalListsAreRuns : Type 0
LegalListsAreRuns =
    (image : ImageRecord) (symbols : List Symbol) (lines : List (List ℕ)) (harts limit : ℕ) (es : List Entry) (d : Made) → IsImage image →
    made_by (planted_start image symbols lines harts limit) es ≡ Some d →
    IsReading (start_state image symbols lines harts limit) (reading es) d

-- what the entries print, with the line of the ending, is the transcript of that run
abbrev pub LegalListsPrintTranscripts : Type 0
LegalListsPrintTranscripts =
    (image : ImageRecord) (symbols : List Symbol) (lines : List (List ℕ)) (harts limit : ℕ) (es : List Entry) (d : Made) (ending : Ending) → IsImage image →
    made_by (planted_start image symbols lines harts limit) es ≡ Some d →
    transcript_of (start_state image symbols lines harts limit) (reading es) ending ≡ Some (d.text ++ ending_line ending d.next.machine.steps)
