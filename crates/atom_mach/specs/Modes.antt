-- The modes of a machine: what each of them names, who runs in it, and how it goes on.
use Rattle.std.specs.Prelude.{◌≡◌, ◌≢◌, ℕ, ◌<◌, ◌^◌, ◌==◌, ◌&&◌, Bool, true, false, Option, Some, None, if◌then◌else◌}
use Rattle.mach_base.specs.Masks.{has_bit}
use Rattle.mach_base.specs.declared.event.Hart.{Hart}
use Rattle.mach_base.specs.declared.event.Ending.{Ending}
use Rattle.atom_mach.specs.declared.step.Mode.{Mode}
use Rattle.atom_mach.specs.declared.step.Mode.TheVariants.{Free, Hold, Pass, Back, Leave, Over}

-- Who runs.

-- whether the hart runs: all harts in the free machine once a session was opened, and the late ones beside a session
abbrev pub runs : Mode → Bool → ℕ → Bool
runs Free opened h = opened
runs (Hold m late) opened h = has_bit late h
runs (Pass m late again) opened h = has_bit late h
runs (Back m late) opened h = has_bit late h
runs (Leave m late) opened h = has_bit late h
runs (Over ending) opened h = false

-- whether the hart owes an instruction: its session was left into a single-step pass
abbrev pub owes : Mode → ℕ → Bool
owes (Pass m late again) h = m.0 == h
owes mode h = false

-- how many instructions are owed beyond the limit of steps
abbrev pub owed : Mode → ℕ
owed (Pass m late again) = 1
owed mode = 0

-- How a mode goes on.

-- the mode once a session is left by go and no instruction is owed
abbrev pub after_go : Hart → ℕ → Mode
after_go m late = if late == 0 then Free else Leave m late

-- the mode after an instruction of the hart: that of a pass is made
abbrev pub mode_after : Mode → ℕ → Mode
mode_after (Pass m late again) h =
    if m.0 == h then (if again then Back m late else after_go m late) else Pass m late again
mode_after mode h = mode

-- whether no session is open
abbrev pub is_free : Mode → Bool
is_free Free = true
is_free mode = false

-- the ending of a run that is over
abbrev pub ending_of : Mode → Option Ending
ending_of (Over ending) = Some ending
ending_of mode = None

-- What a mode names.

-- the master and the late harts of a session are among these many harts, and the master isn't late
pub record IsSitting (harts : ℕ) (m : Hart) (late : ℕ) : Type 0 where
  pub master : m.0 < harts
  pub late_ones : late < 2 ^ harts
  pub on_time : has_bit late m.0 ≡ false

-- the mode names harts of a machine with this many, and a session that is a mode of its own has late harts
abbrev pub Fits : ℕ → Mode → Type 0
Fits harts Free = Unit {0}
Fits harts (Hold m late) = IsSitting harts m late × (late ≢ 0)
Fits harts (Pass m late again) = IsSitting harts m late
Fits harts (Back m late) = IsSitting harts m late
Fits harts (Leave m late) = IsSitting harts m late × (late ≢ 0)
Fits harts (Over ending) = Unit {0}

-- in a session with late harts the current processor isn't one of them
abbrev pub IsGathered : Mode → ℕ → Type 0
IsGathered (Hold m late) current = has_bit late current ≡ false
IsGathered mode current = Unit {0}

-- a session with these late harts may read its lines in this mode
abbrev pub ReadsWith : Mode → ℕ → Type 0
ReadsWith (Hold m was_late) late = was_late ≡ late
ReadsWith mode late = Unit {0}

-- no hart is late, and the master is hart 0
abbrev pub is_alone : Mode → Bool
is_alone Free = true
is_alone (Hold m late) = false
is_alone (Pass m late again) = (m.0 == 0) && (late == 0)
is_alone (Back m late) = (m.0 == 0) && (late == 0)
is_alone (Leave m late) = false
is_alone (Over ending) = true
