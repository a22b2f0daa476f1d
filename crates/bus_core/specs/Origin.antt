-- What a core comes from.
use Rattle.std.specs.Prelude.{◌≡◌, ℕ, Bool, false, List, Some}
use Rattle.mach_base.specs.Machine.{Symbol}
use Rattle.mach_base.specs.declared.event.Entry.{Entry}
use Rattle.img_text.specs.Image.{ImageRecord, IsImage}
use Rattle.atom_mach.specs.State.{State, start_state}
use Rattle.plant_mach.specs.Machine.{PlantedMachine, planted_start}
use Rattle.plant_mach.specs.Entries.{Made, made_by}

-- What a machine starts from.
pub record Origin : Type 0 where
  pub image : ImageRecord
  pub symbols : List Symbol
  pub lines : List (List ℕ)
  pub harts : ℕ
  pub limit : ℕ

-- the planted machine at the start
abbrev pub start_of : Origin → PlantedMachine
start_of o = planted_start o.image o.symbols o.lines o.harts o.limit

-- the atomic machine at the start
abbrev pub atomic_start_of : Origin → State
atomic_start_of o = start_state o.image o.symbols o.lines o.harts o.limit

-- The entries are a legal list from the origin, whose image is right, and unless the core is lost they print this text and lead to this machine.
pub record IsFrom (o : Origin) (entries : List Entry) (text : List ℕ) (p : PlantedMachine) (lost : Bool) : Type 0 where
  pub image : IsImage o.image
  pub last : Made
  pub legal : made_by (start_of o) entries ≡ Some last
  pub now : lost ≡ false → last ≡ record { text = text; next = p }

-- there is an origin that they are from
abbrev pub HasOrigin : List Entry → List ℕ → PlantedMachine → Bool → Type 0
HasOrigin entries text p lost = (o : Origin) × IsFrom o entries text p lost
