-- What holds of a bus while the run goes on.
use Rattle.std.specs.Prelude.{◌≡◌, ℕ, ◌≤◌, Bool, false, None}
use Rattle.plant_told.specs.Told.{Counted}
use Rattle.plant_told.specs.Laws.{IsAwake}
use Rattle.plant_room.specs.Room.{bytes_left, text_left}
use Rattle.bus_core.specs.declared.outer.Core.{Core}
use Rattle.bus_core.specs.Core as core

-- the core's machine with these counts
abbrev pub counted_with : Core → ℕ → Bool → Bool → Counted
counted_with c sends stepped released = record { machine = core.machine_of c; sends = sends; stepped = stepped; released = released }

-- What holds of a bus that isn't lost and on which no ending stands: the session holds its harts, its master isn't halted
-- in a single-step pass, and there is room for all that it may still write but its lines' text.
pub record IsRunning (c : Core) (sends : ℕ) (stepped released : Bool) : Type 0 where
  pub held : released ≡ false
  pub awake : IsAwake (core.machine_of c).session (core.machine_of c).machine
  pub journal : bytes_left (counted_with c sends stepped released) ≤ core.journal_room c
  pub text : text_left (counted_with c sends stepped released) ≤ core.text_room c

-- it holds, unless the core is lost or an ending stands
abbrev pub KeepsRunning : Core → ℕ → Bool → Bool → Type 0
KeepsRunning c sends stepped released = c.lost ≡ false → (core.machine_of c).ending ≡ None → IsRunning c sends stepped released
