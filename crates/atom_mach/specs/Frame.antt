-- What the steps of one hart leave of the others.
use Rattle.std.specs.Prelude.{◌≡◌, ◌≢◌, ◌⊎◌, ℕ, Some, None}
use Rattle.mach_base.specs.Machine.{Machine}
use Rattle.mach_base.specs.declared.event.Hart.{Hart}
use Rattle.hart_ctx.specs.Context.{IsUnmoved}
use Rattle.atom_mach.specs.declared.step.AStep.TheVariants.{Instr, Intr}
use Rattle.atom_mach.specs.State.{State, Done, context_at}
use Rattle.atom_mach.specs.Traps.{fault_of, next_pc, late_trap, trap, executed, interrupted}
use Rattle.atom_mach.specs.Step.{does}

-- The hart's context is as before but for its pending interrupt and its reservation, and the hart meets at its pc what it
-- met before.
pub record IsLeft (h : ℕ) (before after : Machine) : Type 0 where
  pub context : IsUnmoved (context_at before h) (context_at after h)
  pub fault : fault_of after h ≡ fault_of before h
  pub next : next_pc after h ≡ next_pc before h
  pub late_trap : late_trap after h ≡ late_trap before h
  pub trap : trap after h ≡ trap before h

-- an instruction that doesn't fault leaves every other hart
abbrev pub InstructionsLeaveOthers : Type 0
InstructionsLeaveOthers = (s : Machine) (h other : ℕ) → other ≢ h → fault_of s h ≡ None → IsLeft other s (executed s h)

-- an interrupt that is taken leaves every other hart
abbrev pub InterruptsLeaveOthers : Type 0
InterruptsLeaveOthers = (s : Machine) (h other : ℕ) → other ≢ h → IsLeft other s (interrupted s h)

-- an allowed instruction or interrupt of a hart leaves every other
abbrev pub StepsLeaveOthers : Type 0
StepsLeaveOthers =
    (s : State) (h : Hart) (d : Done) (other : ℕ) → other ≢ h.0 → (does s (Instr h) ≡ Some d) ⊎ (does s (Intr h) ≡ Some d) →
    IsLeft other s.machine d.next.machine
