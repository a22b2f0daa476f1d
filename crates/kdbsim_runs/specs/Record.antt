-- What a run leaves behind: its journal, how it ended, and its transcript.
use Rattle.std.specs.Prelude.{◌≡◌, ℕ, List, [], ◌∷◌, Option, Some, None}
use Rattle.mach_base.specs.declared.event.Ending.{Ending}
use Rattle.mach_base.specs.declared.event.Ending.TheVariants.{PlanEnd}
use Rattle.mach_base.specs.declared.event.Entry.{Entry}
use Rattle.mach_base.specs.declared.event.Entry.TheVariants.{Off}
use Rattle.plant_mach.specs.Entries.{Made, made_by}
use Rattle.plant_mach.specs.Reading.{IsReading, reading, transcript_of}
use Rattle.bus_core.specs.declared.outer.Core.{Core}
use Rattle.bus_core.specs.Core.{ComesFrom}
use Rattle.bus_core.specs.Origin.{Origin, start_of, atomic_start_of}

-- the ending of a run by what stands in the machine: the end of the plan or of the journal, where no ending stands
abbrev pub ending_or : Option Ending → Ending
ending_or None = PlanEnd
ending_or (Some ending) = ending

-- the ending that an entry is, if it is one
abbrev pub ending_entry : Entry → Option Ending
ending_entry (Off ending) = Some ending
ending_entry other = None

-- the first of two, if it is there
abbrev pub first_of : Option Ending → Option Ending → Option Ending
first_of None rest = rest
first_of (Some ending) rest = Some ending

-- the ending among the entries of a journal, if there is one
abbrev pub ending_in : List Entry → Option Ending
ending_in [] = None
ending_in (e ∷ es) = first_of (ending_entry e) (ending_in es)

-- The entries are a legal journal of the planted machine from this start. They read as a run of the atomic machine from the
-- same start, and the text is the transcript of that run with this ending, which is the one among the entries; where there
-- is none, it is that of a plan's end.
pub record IsRecord (start : Origin) (entries : List Entry) (ending : Ending) (text : List ℕ) : Type 0 where
  pub last : Made
  pub legal : made_by (start_of start) entries ≡ Some last
  pub run : IsReading (atomic_start_of start) (reading entries) last
  pub ended : ending ≡ ending_or (ending_in entries)
  pub transcript : transcript_of (atomic_start_of start) (reading entries) ending ≡ Some text

-- the core comes from a start with so many harts
abbrev pub IsOfHarts : ℕ → Core → Type 0
IsOfHarts harts core = (start : Origin) × (start.harts ≡ harts) × ComesFrom start core
