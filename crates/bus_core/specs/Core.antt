-- The core from the outside: its machine, journal and transcript, and the origin that they come from.
use Rattle.std.specs.Prelude.{◌≡◌, ℕ, ◌+◌, ◌-◌, ◌++◌, vec_len, vec_capacity, false, List, [], ◌∷◌, Some}
use Rattle.mach_base.specs.declared.event.Entry.{Entry}
use Rattle.mach_base.specs.declared.event.Ending.{Ending}
use Rattle.atom_mach.specs.State.{hart_count}
use Rattle.atom_mach.specs.Texts.{ending_line}
use Rattle.plant_mach.specs.Machine.{PlantedMachine}
use Rattle.plant_mach.specs.Entries.{Made, makes}
use Rattle.plant_mach.specs.Reading.{IsReading, reading, transcript_of}
use Rattle.bus_core.specs.declared.outer.Core.{Core}
use Rattle.bus_core.specs.Origin.{Origin, atomic_start_of, IsFrom}
use Rattle.bus_core.specs.Inner as inside

-- the machine
abbrev pub machine_of : Core → PlantedMachine
machine_of c = inside.machine_of c.inner

-- the entries that were made
abbrev pub entries_of : Core → List Entry
entries_of c = c.journal.entries

-- what they printed
abbrev pub text_of : Core → List ℕ
text_of c = c.transcript.items

-- how many bytes more the journal has room for
abbrev pub journal_room : Core → ℕ
journal_room c = c.journal.spare

-- how many bytes more the transcript has room for
abbrev pub text_room : Core → ℕ
text_room c = vec_capacity c.transcript - vec_len c.transcript

-- how many steps there may be so far: those up to the limit, and one for each line that was read
abbrev pub most_steps : PlantedMachine → ℕ
most_steps p = p.machine.limit + p.machine.lines_read

-- the core comes from this origin
abbrev pub ComesFrom : Origin → Core → Type 0
ComesFrom o c = IsFrom o (entries_of c) (text_of c) (machine_of c) c.lost

-- Calls.

-- the two have the same machine, journal and transcript, and are lost or not
pub record IsSame (a b : Core) : Type 0 where
  pub machine : machine_of b ≡ machine_of a
  pub journal : entries_of b ≡ entries_of a
  pub text : text_of b ≡ text_of a
  pub lost : b.lost ≡ a.lost

-- The entry was legal and was made: what it prints is appended to the transcript, the entry to the journal, and the machine
-- is the one after it; neither core is lost.
pub record Applied (a : Core) (e : Entry) (b : Core) : Type 0 where
  pub made : Made
  pub legal : makes (machine_of a) e ≡ Some made
  pub machine : machine_of b ≡ made.next
  pub journal : entries_of b ≡ entries_of a ++ (e ∷ [])
  pub text : text_of b ≡ text_of a ++ made.text
  pub before : a.lost ≡ false
  pub after : b.lost ≡ false

-- The second core came of the first by calls: it has as many harts and the same limit, its journal goes on from the first
-- one's, and it comes from whatever origin the first comes from.
pub record SameOrigin (a b : Core) : Type 0 where
  pub harts : hart_count (machine_of b).machine ≡ hart_count (machine_of a).machine
  pub limit : (machine_of b).machine.limit ≡ (machine_of a).machine.limit
  pub journal : (more : List Entry) × (entries_of b ≡ entries_of a ++ more)
  pub origin : (o : Origin) → ComesFrom o a → ComesFrom o b

-- What a core has come to is a run of the atomic machine from its origin: the journal reads as it, the core's text is what
-- the run prints, and with the line of an ending the run's transcript. Nothing is said of a lost core.
pub record IsRunOf (o : Origin) (c : Core) : Type 0 where
  pub run : c.lost ≡ false → IsReading (atomic_start_of o) (reading (entries_of c)) (record { text = text_of c; next = machine_of c })
  pub transcript : c.lost ≡ false → (ending : Ending) →
      transcript_of (atomic_start_of o) (reading (entries_of c)) ending ≡ Some (text_of c ++ ending_line ending (machine_of c).machine.steps)
