-- What a bus tells, and the laws of it.
use Rattle.std.specs.Prelude.{◌≡◌, ℕ, ◌^◌, ◌<◌, ◌≤◌, Bool, false, Option, None}
use Rattle.mach_base.specs.declared.limits.TheConstants.{MASK_HARTS, PLACES, MOST_LINES}
use Rattle.deck_core.specs.declared.plain.notes.Sitting.{Sitting}
use Rattle.deck_core.specs.declared.plain.notes.Notes.{Notes}

-- the number of harts; the mask of the harts that the session has stopped; the masks of the planted and of the enabled
-- places; the step word's address; the session; how many lines were read and how many calls sent; whether a step word
-- was planted since the last line; whether an ending stands, or a line ran out of memory; the masks of the harts that
-- have a trap, and whose instruction faults; the next address of the session's master, and whether that is a text word
-- other than its pc
pub record Told : Type 0 where
  pub harts : ℕ
  pub mask : ℕ
  pub planted : ℕ
  pub enabled : ℕ
  pub step : Option ℕ
  pub session : Option Sitting
  pub lines : ℕ
  pub sends : ℕ
  pub stepped : Bool
  pub over : Bool
  pub traps : ℕ
  pub faults : ℕ
  pub next : Option ℕ
  pub plantable : Bool

-- the same from the notes
abbrev pub told_of : ℕ → ℕ → Notes → Told
told_of harts mask notes = record {
  harts = harts;
  mask = mask;
  planted = notes.planted;
  enabled = notes.enabled;
  step = notes.step;
  session = notes.session;
  lines = notes.lines;
  sends = notes.sends;
  stepped = notes.stepped;
  over = notes.over;
  traps = notes.traps;
  faults = notes.faults;
  next = notes.next;
  plantable = notes.plantable;
}

-- what holds of every bus: it has harts, no more than a mask has room for; its masks name harts and places that are there;
-- it read no more lines than a script has
pub record IsTold (b : Told) : Type 0 where
  pub some_harts : 1 ≤ b.harts
  pub few_harts : b.harts ≤ MASK_HARTS
  pub mask : b.mask < 2 ^ b.harts
  pub planted : b.planted < 2 ^ PLACES
  pub enabled : b.enabled < 2 ^ PLACES
  pub lines : b.lines ≤ MOST_LINES

-- a bus on which nothing has happened: no session, nothing planted or enabled, no step word, no ending, no line read
-- and no call sent
pub record IsOpening (b : Told) : Type 0 where
  pub fits : IsTold b
  pub mask : b.mask ≡ 0
  pub planted : b.planted ≡ 0
  pub enabled : b.enabled ≡ 0
  pub step : b.step ≡ None
  pub session : b.session ≡ None
  pub lines : b.lines ≡ 0
  pub sends : b.sends ≡ 0
  pub over : b.over ≡ false
