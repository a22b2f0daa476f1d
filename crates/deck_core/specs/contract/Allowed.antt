-- When a call of the bus is allowed.
use Rattle.std.specs.Prelude.{ℕ, suc, ◌-◌, ◌*◌, ◌^◌, ◌==◌, ◌&&◌, ◌||◌, Bool, true, false, not, nat_lt, Option, Some, None, is_some, is_none, if◌then◌else◌}
use Rattle.mach_base.specs.Masks.{has_bit}
use Rattle.mach_base.specs.declared.limits.TheConstants.{PLACES}
use Rattle.deck_core.specs.contract.Told.{Told}
use Rattle.deck_core.specs.declared.plain.act.Act.{Act}
use Rattle.deck_core.specs.declared.plain.act.Act.TheVariants as act
use Rattle.deck_core.specs.declared.plain.notes.Sitting.{Sitting}
use Rattle.deck_core.specs.declared.plain.notes.Stage.{Stage}
use Rattle.deck_core.specs.declared.plain.notes.Stage.TheVariants as stage

-- whether the stage is the one in which lines are run
abbrev pub is_lines : Stage → Bool
is_lines stage.Lines = true
is_lines _ = false

-- whether the stage is a single-step pass, before its instruction
abbrev pub is_pass : Stage → Bool
is_pass (stage.Pass again) = true
is_pass _ = false

-- whether the stage is the one before a session closes
abbrev pub is_leaving : Stage → Bool
is_leaving stage.Leaving = true
is_leaving _ = false

-- whether a session opens again from this stage, its master's instruction faulting or not
abbrev pub comes_back : Bool → Stage → Bool
comes_back faulting stage.Back = true
comes_back faulting (stage.Pass again) = faulting
comes_back faulting _ = false

-- a test of the open session, false without one
abbrev pub in_session : (Sitting → Bool) → Option Sitting → Bool
in_session test None = false
in_session test (Some sitting) = test sitting

-- whether the session is this hart's
abbrev pub is_of : ℕ → Sitting → Bool
is_of h sitting = sitting.master.0 == h

-- whether the address is this one
abbrev pub is_address : ℕ → Option ℕ → Bool
is_address at None = false
is_address at (Some address) = address == at

-- whether a session of this hart with these late harts may open: for the first time, or again after a single-step pass
abbrev pub may_open : ℕ → ℕ → Told → Option Sitting → Bool
may_open h late b None = not (has_bit late h) && has_bit b.traps h
may_open h late b (Some sitting) =
    (is_of h sitting && (sitting.late == late)) && (is_none b.step && comes_back (has_bit b.faults h) sitting.stage)

-- whether the step word may be taken out: not while its instruction is to be executed
abbrev pub may_pull_step : Told → Sitting → Bool
may_pull_step b sitting = not (is_pass sitting.stage) || has_bit b.faults sitting.master.0

-- whether the call is allowed while no ending stands
abbrev pub is_legal : Act → Told → Bool
is_legal (act.HartStep h) b = not (has_bit b.mask h.0)
is_legal (act.Check h) b = true
is_legal (act.Send h) b = is_none b.session && nat_lt b.sends ((b.harts - 1) * suc b.lines)
is_legal (act.Enter h late) b = may_open h.0 late b b.session
is_legal (act.Pull i) b = in_session (λ s. is_lines s.stage) b.session && has_bit b.planted i
is_legal (act.Line h) b = in_session (λ s. is_of h.0 s && is_lines s.stage) b.session && (b.planted == 0)
is_legal (act.PlantStep at) b =
    in_session (λ s. is_pass s.stage) b.session && (is_none b.step && ((is_address at b.next && b.plantable) && not b.stepped))
is_legal (act.PassStep h) b =
    in_session (λ s. is_of h.0 s && is_pass s.stage) b.session && (if b.plantable then is_some b.step else is_none b.step)
is_legal act.PullStep b = is_some b.step && in_session (may_pull_step b) b.session
is_legal (act.Plant i) b =
    in_session (λ s. is_leaving s.stage) b.session && (is_none b.step && (has_bit b.enabled i && not (has_bit b.planted i)))
is_legal (act.Close h) b =
    in_session (λ s. is_of h.0 s && is_leaving s.stage) b.session && (is_none b.step && (b.planted == b.enabled))

-- whether the harts and places that a call names are there
abbrev pub names_are_there : Act → ℕ → Bool
names_are_there (act.HartStep h) harts = nat_lt h.0 harts
names_are_there (act.Check h) harts = nat_lt h.0 harts
names_are_there (act.Send h) harts = nat_lt h.0 harts
names_are_there (act.Enter h late) harts = nat_lt h.0 harts && nat_lt late (2 ^ harts)
names_are_there (act.Pull i) harts = nat_lt i PLACES
names_are_there (act.Line h) harts = nat_lt h.0 harts
names_are_there (act.PlantStep at) harts = true
names_are_there (act.PassStep h) harts = nat_lt h.0 harts
names_are_there act.PullStep harts = true
names_are_there (act.Plant i) harts = nat_lt i PLACES
names_are_there (act.Close h) harts = nat_lt h.0 harts

-- whether a call is allowed
unfoldable pub is_allowed : Act → Told → Bool
is_allowed a b = names_are_there a b.harts && (b.over || is_legal a b)
