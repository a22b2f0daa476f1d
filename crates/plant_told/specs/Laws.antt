-- Laws of what the planted machine tells: the calls that the protocol allows are legal entries, and what each of them tells
-- then.
use Rattle.std.specs.Prelude.{◌≡◌, ◌≢◌, ℕ, suc, ◌==◌, Bool, true, false, Option, Some, None, is_some}
use Rattle.mach_base.specs.Masks.{has_bit}
use Rattle.mach_base.specs.declared.event.Hart.{Hart}
use Rattle.mach_base.specs.declared.event.Ending.{Ending}
use Rattle.mach_base.specs.declared.event.Ending.TheVariants.{ScriptEnd}
use Rattle.mach_base.specs.declared.event.Entry.{Entry}
use Rattle.mach_base.specs.declared.event.Entry.TheVariants.{Step, Intr, Send, Take, Open, Pull, Line, Plant, PlantStep, PullStep, Close, Off}
use Rattle.deck_core.specs.declared.plain.act.Act.{Act}
use Rattle.deck_core.specs.declared.plain.act.Act.TheVariants as act
use Rattle.deck_core.specs.declared.plain.notes.Sitting.{Sitting}
use Rattle.deck_core.specs.declared.plain.notes.Stage.{Stage}
use Rattle.deck_core.specs.declared.plain.notes.Stage.TheVariants as stage
use Rattle.deck_core.specs.contract.Told.{Told}
use Rattle.deck_core.specs.contract.Allowed.{in_session, is_of, is_allowed}
use Rattle.deck_core.specs.contract.Calls.{sent, pulled, replanted, step_planted, step_pulled, opened, in_stage, line_read, executed}
use Rattle.atom_mach.specs.State.{context_at}
use Rattle.atom_mach.specs.Traps.{fault_of}
use Rattle.mach_base.specs.Machine.{Machine}
use Rattle.plant_mach.specs.Machine.{PlantedMachine, is_held}
use Rattle.plant_mach.specs.Entries.{Made, has_line, may, effect, makes}
use Rattle.plant_mach.specs.Order.{IsOrderly}
use Rattle.plant_told.specs.Told.{Counted, told_of}

-- in a single-step pass the master isn't halted
abbrev pub IsAwakeAt : Stage → Bool → Type 0
IsAwakeAt (stage.Pass again) halted = halted ≡ false
IsAwakeAt other halted = Unit {0}

-- in a single-step pass of the session, where one is open, its master isn't halted
abbrev pub IsAwake : Option Sitting → Machine → Type 0
IsAwake None s = Unit {0}
IsAwake (Some sitting) s = IsAwakeAt sitting.stage (context_at s sitting.master.0).halted

-- the machine is in order and the run goes on; the session isn't released
pub record IsGoing (c : Counted) : Type 0 where
  pub order : IsOrderly c.machine
  pub awake : IsAwake c.machine.session c.machine.machine
  pub ending : c.machine.ending ≡ None
  pub held : c.released ≡ false

-- whether the protocol allows the call
abbrev pub IsAllowed : Act → Counted → Type 0
IsAllowed a c = is_allowed a (told_of c) ≡ true

-- an allowed call is a legal entry; of a line, while one is unread, and else it is the script's end; of the step of a pass,
-- where the instruction doesn't fault
pub record CallsAreLegal : Type 0 where
  pub send : (c : Counted) (k : Hart) → IsGoing c → IsAllowed (act.Send k) c → may c.machine (Send k) ≡ true
  pub enter : (c : Counted) (h : Hart) (late : ℕ) → IsGoing c → IsAllowed (act.Enter h late) c → may c.machine (Open h late) ≡ true
  pub pull : (c : Counted) (i : ℕ) → IsGoing c → IsAllowed (act.Pull i) c → may c.machine (Pull i) ≡ true
  pub line : (c : Counted) (h : Hart) → IsGoing c → IsAllowed (act.Line h) c → has_line c.machine.machine.unread ≡ true → may c.machine (Line h) ≡ true
  pub script_end : (c : Counted) (h : Hart) → IsGoing c → IsAllowed (act.Line h) c → has_line c.machine.machine.unread ≡ false → may c.machine (Off ScriptEnd) ≡ true
  pub plant_step : (c : Counted) (addr : ℕ) → IsGoing c → IsAllowed (act.PlantStep addr) c → may c.machine (PlantStep addr) ≡ true
  pub pass_step : (c : Counted) (h : Hart) → IsGoing c → IsAllowed (act.PassStep h) c → fault_of c.machine.machine h.0 ≡ None → may c.machine (Step h) ≡ true
  pub pull_step : (c : Counted) → IsGoing c → IsAllowed act.PullStep c → may c.machine PullStep ≡ true
  pub plant : (c : Counted) (i : ℕ) → IsGoing c → IsAllowed (act.Plant i) c → may c.machine (Plant i) ≡ true
  pub close : (c : Counted) (h : Hart) → IsGoing c → IsAllowed (act.Close h) c → may c.machine (Close h) ≡ true

-- the machine after an entry, with these counts
abbrev pub after : Counted → Entry → ℕ → Bool → Counted
after c e sends stepped = record { machine = (effect c.machine e).next; sends = sends; stepped = stepped; released = c.released }

-- the stage after the step of a pass
abbrev pub stage_passed : Bool → Stage
stage_passed true = stage.Back
stage_passed false = stage.Leaving

-- what is told after a hart that no session holds has stepped or taken its interrupt: only its own trap and fault, and its
-- next address where it is the session's master, may be other ones
pub record TellsOfOne (h : ℕ) (before after : Told) : Type 0 where
  pub told : after ≡ record before { traps = after.traps; faults = after.faults; next = after.next; plantable = after.plantable }
  pub traps : (k : ℕ) → k ≢ h → has_bit after.traps k ≡ has_bit before.traps k
  pub faults : (k : ℕ) → k ≢ h → has_bit after.faults k ≡ has_bit before.faults k
  pub next : in_session (is_of h) before.session ≡ false → after.next ≡ before.next
  pub plantable : in_session (is_of h) before.session ≡ false → after.plantable ≡ before.plantable

-- what is told after the entry of each allowed call
pub record CallsTell : Type 0 where
  pub send : (c : Counted) (k : Hart) → told_of (after c (Send k) (suc c.sends) c.stepped) ≡ sent (told_of c)
  pub take : (c : Counted) (h : Hart) → told_of (after c (Take h) c.sends c.stepped) ≡ told_of c
  pub ending : (c : Counted) (ending : Ending) → told_of (after c (Off ending) c.sends c.stepped) ≡ record (told_of c) { over = true }
  pub plant_step : (c : Counted) (addr : ℕ) → told_of (after c (PlantStep addr) c.sends true) ≡ step_planted addr (told_of c)
  pub pull_step : (c : Counted) → told_of (after c PullStep c.sends c.stepped) ≡ step_pulled (told_of c)
  pub pull : (c : Counted) (i : ℕ) → IsGoing c → IsAllowed (act.Pull i) c → told_of (after c (Pull i) c.sends c.stepped) ≡ pulled i (told_of c)
  pub plant : (c : Counted) (i : ℕ) → IsGoing c → IsAllowed (act.Plant i) c → told_of (after c (Plant i) c.sends c.stepped) ≡ replanted i (told_of c)
  pub close : (c : Counted) (h : Hart) → IsGoing c →
      told_of (after c (Close h) c.sends c.stepped) ≡ record (told_of c) { mask = 0; session = None; next = None; plantable = false }
  pub enter : (c : Counted) (h : Hart) (late : ℕ) → IsGoing c → IsAllowed (act.Enter h late) c →
      told_of (after c (Open h late) c.sends c.stepped) ≡ opened h.0 late (told_of c) (told_of (after c (Open h late) c.sends c.stepped))
  pub line : (c : Counted) (h : Hart) (s : Sitting) → IsGoing c → IsAllowed (act.Line h) c → has_line c.machine.machine.unread ≡ true → (effect c.machine (Line h)).next.session ≡ Some s →
      told_of (after c (Line h) c.sends false) ≡ line_read s.stage (told_of c) (told_of (after c (Line h) c.sends false))
  pub pass_step : (c : Counted) (h : Hart) (s : Sitting) (again : Bool) → IsGoing c → c.machine.session ≡ Some s → s.master.0 ≡ h.0 → s.stage ≡ stage.Pass again →
      told_of (after c (Step h) c.sends c.stepped) ≡ executed (stage_passed again) (told_of c) (told_of (after c (Step h) c.sends c.stepped))
  pub step : (c : Counted) (h : Hart) → IsGoing c → is_held c.machine h.0 ≡ false → fault_of c.machine.machine h.0 ≡ None →
      TellsOfOne h.0 (told_of c) (told_of (after c (Step h) c.sends c.stepped))
  pub intr : (c : Counted) (h : Hart) → TellsOfOne h.0 (told_of c) (told_of (after c (Intr h) c.sends c.stepped))

-- no call makes a hart owe a step that is halted: every legal entry leaves the master awake in a single-step pass
abbrev pub EntriesLeaveAwake : Type 0
EntriesLeaveAwake =
    (p : PlantedMachine) (e : Entry) (d : Made) → IsOrderly p → IsAwake p.session p.machine → makes p e ≡ Some d → IsAwake d.next.session d.next.machine
