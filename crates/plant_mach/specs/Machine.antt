-- The planted machine: the machine in which a breakpoint is a word of memory.
use Rattle.std.specs.Prelude.{ℕ, zero, suc, ◌==◌, Bool, false, not, List, replicate, slice_index_or, Option, Some, None, is_some, if◌then◌else◌}
use Rattle.mach_base.specs.Machine.{Place, Symbol, Machine}
use Rattle.mach_base.specs.Masks.{has_bit, mask_with, all_but}
use Rattle.mach_base.specs.declared.limits.TheConstants.{PLACES}
use Rattle.mach_base.specs.declared.event.Hart.{Hart}
use Rattle.mach_base.specs.declared.event.Ending.{Ending}
use Rattle.img_text.specs.Image.{ImageRecord}
use Rattle.kdb_bp.specs.Breaks.{place_at}
use Rattle.bus_plant.specs.Planted.{PlantedMemory, planted_mask}
use Rattle.deck_core.specs.declared.plain.notes.Sitting.{Sitting}
use Rattle.deck_core.specs.declared.plain.notes.Stage.{Stage}
use Rattle.deck_core.specs.declared.plain.notes.Stage.TheVariants as stage
use Rattle.deck_core.specs.contract.Allowed.{in_session}
use Rattle.atom_mach.specs.declared.step.Mode.{Mode}
use Rattle.atom_mach.specs.declared.step.Mode.TheVariants.{Free, Hold, Pass, Back, Over}
use Rattle.atom_mach.specs.State.{hart_count, start_state}
use Rattle.atom_mach.specs.Modes.{after_go}

-- The machine, whose memory is true memory; for each breakpoint place the address at which it is planted, if it is; the
-- address of the step word, if it is planted; for each hart whether a call of it is pending; the open session; the ending,
-- once the run has ended.
pub record PlantedMachine : Type 0 where
  pub machine : Machine
  pub places : List (Option ℕ)
  pub step : Option ℕ
  pub calls : List Bool
  pub session : Option Sitting
  pub ending : Option Ending

-- The planted machine at the start: the atomic machine's start, nothing planted, no call pending, no session.
unfoldable pub planted_start : ImageRecord → List Symbol → List (List ℕ) → ℕ → ℕ → PlantedMachine
planted_start image symbols lines harts limit = record {
  machine = (start_state image symbols lines harts limit).machine;
  places = replicate PLACES None;
  step = None;
  calls = replicate harts false;
  session = None;
  ending = None;
}

-- Planted words.

-- its memory with the planted words
abbrev pub memory_in : PlantedMachine → PlantedMemory
memory_in p = record { memory = p.machine.seen.memory; places = p.places; step = p.step }

-- the address at which the place is planted, if it is
abbrev pub planted_at : PlantedMachine → ℕ → Option ℕ
planted_at p i = slice_index_or p.places i None

-- the address of a place that is set and enabled
abbrev pub enabled_address : Option Place → Option ℕ
enabled_address None = None
enabled_address (Some place) = if place.enabled then Some place.addr else None

-- the address at which the place is enabled, if it is
abbrev pub enabled_at : PlantedMachine → ℕ → Option ℕ
enabled_at p i = enabled_address (place_at p.machine.seen.places i)

-- the mask of the first so many numbers that pass the test
abbrev pub mask_where : (ℕ → Bool) → ℕ → ℕ
mask_where test zero = 0
mask_where test (suc n) = if test n then mask_with (mask_where test n) n else mask_where test n

-- the mask of the first so many places that are enabled
abbrev pub enabled_mask : List (Option Place) → ℕ → ℕ
enabled_mask places zero = 0
enabled_mask places (suc n) =
    if is_some (enabled_address (place_at places n)) then mask_with (enabled_mask places n) n else enabled_mask places n

-- the mask of the planted places
abbrev pub planted_of : PlantedMachine → ℕ
planted_of p = planted_mask p.places PLACES

-- the mask of the enabled places
abbrev pub enabled_of : PlantedMachine → ℕ
enabled_of p = enabled_mask p.machine.seen.places PLACES

-- Sessions.

-- whether the open session holds the hart: each but the late ones
abbrev pub is_held : PlantedMachine → ℕ → Bool
is_held p h = in_session (λ s. not (has_bit s.late h)) p.session

-- the mask of the harts that a session holds, none without one
abbrev pub held_by : ℕ → Option Sitting → ℕ
held_by harts None = 0
held_by harts (Some s) = all_but harts s.late

-- the mask of the harts that the open session holds
abbrev pub held_of : PlantedMachine → ℕ
held_of p = held_by (hart_count p.machine) p.session

-- What the atomic machine is about meanwhile.

-- in a session of m with these late harts at this stage; none between two lines of a session with no late harts, since
-- that is one step of the atomic machine
abbrev pub mode_at : Hart → ℕ → Stage → Option Mode
mode_at m late stage.Lines = if late == 0 then None else Some (Hold m late)
mode_at m late (stage.Pass again) = Some (Pass m late again)
mode_at m late stage.Back = Some (Back m late)
mode_at m late stage.Leaving = Some (after_go m late)

-- in this session, free without one
abbrev pub mode_in_session : Option Sitting → Option Mode
mode_in_session None = Some Free
mode_in_session (Some s) = mode_at s.master s.late s.stage

-- after this ending, or else in this session
abbrev pub mode_of : Option Ending → Option Sitting → Option Mode
mode_of (Some ending) session = Some (Over ending)
mode_of None session = mode_in_session session

-- The mode of the atomic machine that this machine shows; none between two lines of a session with no late harts.
abbrev pub mode_shown : PlantedMachine → Option Mode
mode_shown p = mode_of p.ending p.session
