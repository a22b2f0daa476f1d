-- Laws of the planted machine.
use Rattle.std.specs.Prelude.{◌≡◌, ℕ, ◌≤◌, ◌==◌, Bool, true, false, List, ◌++◌, Option, Some, None}
use Rattle.mach_base.specs.Machine.{Symbol}
use Rattle.mach_base.specs.declared.event.Ending.{Ending}
use Rattle.mach_base.specs.declared.event.Ending.TheVariants.{PlanEnd}
use Rattle.mach_base.specs.declared.event.Entry.{Entry}
use Rattle.mach_base.specs.declared.event.Entry.TheVariants.{Step, Intr, Send, Take, Open, Line, Close, Off}
use Rattle.img_text.specs.Image.{ImageRecord, IsImage}
use Rattle.hart_ctx.specs.Context.{IsUnmoved}
use Rattle.atom_mach.specs.State.{hart_count, context_at}
use Rattle.atom_mach.specs.Limits.{IsKept}
use Rattle.plant_mach.specs.Machine.{PlantedMachine, planted_start}
use Rattle.plant_mach.specs.Entries.{Made, makes, then_made, made_by}
use Rattle.plant_mach.specs.Order.{IsOrderly}

-- Lists.

-- what two lists of entries do, one after the other, is what the first does and then the second
abbrev pub ListsJoin : Type 0
ListsJoin = (p : PlantedMachine) (before after : List Entry) → made_by p (before ++ after) ≡ then_made (made_by p before) (λ next. made_by next after)

-- Order.

-- the machine of an image is in order at the start
abbrev pub StartsAreOrderly : Type 0
StartsAreOrderly = (image : ImageRecord) (symbols : List Symbol) (lines : List (List ℕ)) (harts limit : ℕ) → IsImage image → IsOrderly (planted_start image symbols lines harts limit)

-- every legal entry keeps the order
abbrev pub EntriesKeepOrder : Type 0
EntriesKeepOrder = (p : PlantedMachine) (e : Entry) (d : Made) → IsOrderly p → makes p e ≡ Some d → IsOrderly d.next

-- Entries that are never legal.

-- the hart that an entry names, if it names one
abbrev pub hart_named : Entry → Option ℕ
hart_named (Step h) = Some h.0
hart_named (Intr h) = Some h.0
hart_named (Send h) = Some h.0
hart_named (Take h) = Some h.0
hart_named (Open m late) = Some m.0
hart_named (Line h) = Some h.0
hart_named (Close h) = Some h.0
hart_named other = None

-- no entry is legal once the run has ended; none that ends it as a plan's end does; none that names a hart which the machine
-- hasn't
pub record NeverLegal : Type 0 where
  pub after_the_end : (p : PlantedMachine) (e : Entry) (ending : Ending) → p.ending ≡ Some ending → makes p e ≡ None
  pub plan_end : (p : PlantedMachine) → makes p (Off PlanEnd) ≡ None
  pub no_hart : (p : PlantedMachine) (e : Entry) (h : ℕ) → IsOrderly p → hart_named e ≡ Some h → hart_count p.machine ≤ h → makes p e ≡ None

-- Harts that a session holds.

-- whether the entry may be the hart's own: its step, its interrupt, or a line, which may set any hart's registers
abbrev pub is_own : Entry → ℕ → Bool
is_own (Step k) h = k.0 == h
is_own (Intr k) h = k.0 == h
is_own (Line m) h = true
is_own other h = false

-- an entry that isn't the hart's own leaves its context, but for the pending interrupt and the reservation
abbrev pub EntriesLeaveOthers : Type 0
EntriesLeaveOthers =
    (p : PlantedMachine) (e : Entry) (d : Made) (h : ℕ) → makes p e ≡ Some d → is_own e h ≡ false →
    IsUnmoved (context_at p.machine h) (context_at d.next.machine h)

-- a legal entry keeps the number of harts, the segments, the symbols, the limit of steps and the script, and what the
-- debugger may hold it holds no more of
abbrev pub EntriesKeep : Type 0
EntriesKeep = (p : PlantedMachine) (e : Entry) (d : Made) → makes p e ≡ Some d → IsKept p.machine d.next.machine
