-- Runs in which the harts make their ticks in the order of a plan.
use Rattle.std.specs.Prelude.{◌≡◌, ℕ, false, List, []}
use Rattle.deck_core.specs.contract.Told.{IsOpening}
use Rattle.deck_core.specs.ticks.Configuration.{Configuration, opening}
use Rattle.deck_core.specs.ticks.Run.{RunsWith}
use Rattle.bus_core.specs.Core.{machine_of, entries_of, ComesFrom}
use Rattle.bus_core.specs.Origin.{Origin, start_of}
use Rattle.bus_calls.specs.declared.bus.CoreBus.{CoreBus}
use Rattle.bus_calls.specs.Bus.{told}
use Rattle.bus_calls.specs.Calls.{Does}

-- the bus stands at this start: nothing was done yet
pub record IsFirstBus (start : Origin) (bus : CoreBus) : Type 0 where
  pub machine : machine_of bus.core ≡ start_of start
  pub journal : entries_of bus.core ≡ []
  pub opening : IsOpening (told bus)

-- The bus is what the ticks of these harts, in this order, make of a bus at this start in the opening configuration, with so
-- many rounds after which a gathering ends; it comes from that start, and no line was lost for lack of memory.
pub record IsTicked (start : Origin) (rounds : ℕ) (plan : List ℕ) (bus : CoreBus) : Type 0 where
  pub first : CoreBus
  pub begins : IsFirstBus start first
  pub last : Configuration
  pub ran : RunsWith told Does plan (opening rounds (told first)) first last bus
  pub origin : ComesFrom start bus.core
  pub kept : bus.core.lost ≡ false
