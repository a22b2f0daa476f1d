-- Plans: lists of harts, and the run of one on a deck that tells its whole configuration.
use Rattle.std.specs.Prelude.{◌≡◌, ℕ, ◌<◌, false, List, [], ◌∷◌, Option, Some, None, length, slice_index_or}
use Rattle.mach_base.specs.declared.event.Hart.{Hart}
use Rattle.deck_core.specs.contract.Told.{Told}
use Rattle.deck_core.specs.ticks.Configuration.{Configuration}
use Rattle.deck_core.specs.ticks.Run.{RunsWith}
use Rattle.deck_core.specs.decks.Seat.{seat_of}
use Rattle.deck_core.specs.declared.plain.act.Act.{Act}
use Rattle.deck_core.specs.declared.plain.act.Answer.{Answer}
use Rattle.hart_prog.specs.Program.{Stands}
use Rattle.hart_prog.specs.declared.prog.Prog.{Prog}

-- the numbers of a plan's harts
abbrev pub hart_numbers : List Hart → List ℕ
hart_numbers [] = []
hart_numbers (h ∷ plan) = h.0 ∷ hart_numbers plan

-- each of the plan's harts is below this number
abbrev pub AllBelow : ℕ → List Hart → Type 0
AllBelow harts [] = Unit {0}
AllBelow harts (h ∷ plan) = (h.0 < harts) × AllBelow harts plan

-- the programs, that of hart k at k, stand where the harts of a configuration are
pub record ProgramsStand (c : Configuration) (progs : List Prog) : Type 0 where
  pub each : c.told.harts ≡ length progs
  pub stand : (k : ℕ) (other : Prog) → k < length progs → Stands (slice_index_or progs k other) (seat_of k false c)

-- the same, where the whole configuration is told
abbrev pub AllStand : Option Configuration → List Prog → Type 0
AllStand None progs = ⊥
AllStand (Some c) progs = ProgramsStand c progs

-- the run of a plan, where the whole configuration is told
abbrev pub WholeRuns : {B : Type 0} → (B → Told) → (Act → B → Answer → B → Type 0) → List ℕ → Option Configuration → B → Option Configuration → B → Type 0
WholeRuns told does plan None b after end = ⊥
WholeRuns told does plan (Some c) b after end = (last : Configuration) × ((after ≡ Some last) × RunsWith told does plan c b last end)
