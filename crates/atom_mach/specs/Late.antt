-- Sessions with late harts: they keep the registers and the pc of the harts that they hold.
use Rattle.std.specs.Prelude.{◌≡◌, ℕ, ◌==◌, ◌&&◌, Bool, true, false, not, Some, None}
use Rattle.mach_base.specs.Masks.{has_bit}
use Rattle.mach_base.specs.declared.event.Hart.{Hart}
use Rattle.hart_ctx.specs.Context.{IsUnmoved}
use Rattle.atom_mach.specs.declared.step.Mode.{Mode}
use Rattle.atom_mach.specs.declared.step.Mode.TheVariants.{Free, Hold, Pass, Back, Leave, Over}
use Rattle.atom_mach.specs.declared.step.AStep.{AStep}
use Rattle.atom_mach.specs.declared.step.AStep.TheVariants.{Instr, Intr, Session, Enter, Line, End, Off}
use Rattle.atom_mach.specs.State.{State, Done, context_at}
use Rattle.atom_mach.specs.Modes.{owes}
use Rattle.atom_mach.specs.Step.{does}

-- whether a session with late harts is open and holds the hart; a session with no late harts is one step
abbrev pub is_gathered : Mode → ℕ → Bool
is_gathered Free h = false
is_gathered (Hold m late) h = not (has_bit late h)
is_gathered (Pass m late again) h = not (late == 0) && not (has_bit late h)
is_gathered (Back m late) h = not (late == 0) && not (has_bit late h)
is_gathered (Leave m late) h = not (has_bit late h)
is_gathered (Over ending) h = false

-- whether the step may be the hart's own: its instruction, its interrupt, or a line, which may set any hart's registers
abbrev pub makes : AStep → ℕ → Bool
makes (Instr k) h = k.0 == h
makes (Intr k) h = k.0 == h
makes (Session m) h = false
makes (Enter m late) h = false
makes Line h = true
makes End h = false
makes (Off ending) h = false

-- The step from this state to that one leaves each hart as it was, but for its pending interrupt and its reservation, that
-- a session with late harts holds and that doesn't make the step.
abbrev pub LateSessionKeeps : State → AStep → State → Type 0
LateSessionKeeps s step next =
    (h : ℕ) → is_gathered s.mode h ≡ true → makes step h ≡ false → IsUnmoved (context_at s.machine h) (context_at next.machine h)

-- every allowed step does so
abbrev pub LateSessionsKeepGatheredHarts : Type 0
LateSessionsKeepGatheredHarts = (s : State) (step : AStep) (d : Done) → does s step ≡ Some d → LateSessionKeeps s step d.next

-- the hart takes no interrupt, opens no session with no late harts, and executes nothing but the instruction that it owes
pub record StandsStill (s : State) (h : Hart) : Type 0 where
  pub takes_nothing : does s (Intr h) ≡ None
  pub opens_nothing : does s (Session h) ≡ None
  pub executes_nothing : owes s.mode h.0 ≡ false → does s (Instr h) ≡ None

-- each hart that a session with late harts holds stands still
abbrev pub GatheredHartsStand : Type 0
GatheredHartsStand = (s : State) (h : Hart) → is_gathered s.mode h.0 ≡ true → StandsStill s h
