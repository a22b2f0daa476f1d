-- Laws of the room that is left.
use Rattle.std.specs.Prelude.{◌≡◌, ℕ, suc, ◌+◌, ◌-◌, ◌*◌, ◌<◌, ◌≤◌, Bool, true, false, List, length}
use Rattle.mach_base.specs.Machine.{Symbol}
use Rattle.mach_base.specs.Packed.{entry_bytes}
use Rattle.mach_base.specs.declared.limits.TheConstants.{MASK_HARTS}
use Rattle.mach_base.specs.declared.event.Hart.{Hart}
use Rattle.mach_base.specs.declared.event.Entry.{Entry}
use Rattle.mach_base.specs.declared.event.Entry.TheVariants.{Send, Line, PlantStep, Off}
use Rattle.img_text.specs.Image.{ImageRecord}
use Rattle.atom_mach.specs.State.{hart_count}
use Rattle.deck_core.specs.contract.Allowed.{in_session, is_pass}
use Rattle.plant_mach.specs.Machine.{PlantedMachine, planted_start}
use Rattle.plant_mach.specs.Entries.{may, effect}
use Rattle.plant_mach.specs.Order.{IsOrderly}
use Rattle.plant_told.specs.Told.{Counted}
use Rattle.plant_room.specs.Room.{most_sends, bytes_left, text_left, counted_after}

-- The protocol's counts allow the entry: so many calls are sent, and one step word is planted after each line.
abbrev pub IsWithinCounts : Entry → Counted → Type 0
IsWithinCounts (Send k) c = c.sends < most_sends c.machine.machine
IsWithinCounts (PlantStep addr) c = c.stepped ≡ false
IsWithinCounts other c = Unit {0}

-- what the numbers rest on: the order of the machine, few harts, and that a hart which owes a step may make it
pub record IsBounded (p : PlantedMachine) : Type 0 where
  pub order : IsOrderly p
  pub harts : hart_count p.machine ≤ MASK_HARTS
  pub steps : in_session (λ s. is_pass s.stage) p.session ≡ true → p.machine.steps < p.machine.limit + p.machine.lines_read

-- whether the entry ends the run
abbrev pub is_end : Entry → Bool
is_end (Off ending) = true
is_end other = false

-- whether the entry is a line
abbrev pub is_line : Entry → Bool
is_line (Line h) = true
is_line other = false

-- A legal entry within the counts takes bytes that are left, and leaves those that are left after it; all but a line print
-- no more than is left of text, and leave what is left after them; what is left of text after a line is bounded by what was
-- there before it. There are always 10 and 240 bytes left.
pub record EntriesLeaveRoom : Type 0 where
  pub bytes : (c : Counted) (e : Entry) → IsBounded c.machine → may c.machine e ≡ true → IsWithinCounts e c → is_end e ≡ false →
      length (entry_bytes e) + bytes_left (counted_after c e) ≤ bytes_left c
  pub text : (c : Counted) (e : Entry) → IsBounded c.machine → may c.machine e ≡ true → is_end e ≡ false → is_line e ≡ false →
      length (effect c.machine e).text + text_left (counted_after c e) ≤ text_left c
  pub line : (c : Counted) (h : Hart) → may c.machine (Line h) ≡ true →
      text_left (counted_after c (Line h)) ≤ c.machine.machine.limit + c.machine.machine.lines_read + 1 - c.machine.machine.steps + 240 * (length c.machine.machine.unread + 2)
  pub last_entry : (c : Counted) → 10 ≤ bytes_left c
  pub last_text : (c : Counted) → 240 ≤ text_left c

-- the counted machine of a start
abbrev pub counted_start : ImageRecord → List Symbol → List (List ℕ) → ℕ → ℕ → Counted
counted_start image symbols lines harts limit = record { machine = planted_start image symbols lines harts limit; sends = 0; stepped = false; released = false }

-- What is left at the start, by the number of lines, of harts and the limit of steps.
pub record StartsHaveRoom : Type 0 where
  pub bytes : (image : ImageRecord) (symbols : List Symbol) (lines : List (List ℕ)) (harts limit : ℕ) →
      bytes_left (counted_start image symbols lines harts limit) ≤ limit + 10 * (2 * ((harts - 1) * suc (length lines)) + 52 * length lines + 2)
  pub text : (image : ImageRecord) (symbols : List Symbol) (lines : List (List ℕ)) (harts limit : ℕ) →
      text_left (counted_start image symbols lines harts limit) ≤ limit + 240 * (length lines + 2)
