-- The whole state of the protocol: the shared words, each hart's phase and place in a transaction, and what the bus tells.
-- The words and phases of harts are functions of the hart's number; a number that is no hart's has the word 0, the phase
-- Run and the place before a load.
use Rattle.std.specs.Prelude.{ℕ, suc, zero, ◌==◌, if◌then◌else◌}
use Rattle.deck_core.specs.contract.Told.{Told}
use Rattle.deck_core.specs.declared.plain.phase.Phase.{Phase}
use Rattle.deck_core.specs.declared.plain.phase.Phase.TheVariants.{Run}
use Rattle.deck_core.specs.declared.plain.phase.Place.{Place}
use Rattle.deck_core.specs.declared.plain.phase.Place.TheVariants.{Peek}

-- the number of rounds after which a gathering ends; the turn word; the master's number plus 1, or 0; the gate's number;
-- each hart's own word, phase and place; what the bus tells
pub record Configuration : Type 0 where
  pub limit : ℕ
  pub turn : ℕ
  pub master : ℕ
  pub gate : ℕ
  pub own : ℕ → ℕ
  pub phase : ℕ → Phase
  pub place : ℕ → Place
  pub told : Told

-- a function with another value at this number
unfoldable pub put : {A : Type 0} → (ℕ → A) → ℕ → A → ℕ → A
put f h value = λ k. if k == h then value else f k

-- the master's phase, by the master word; Run where there is none
abbrev pub lead_of : ℕ → (ℕ → Phase) → Phase
lead_of zero phase = Run
lead_of (suc h) phase = phase h

-- the configuration before the first tick
abbrev pub opening : ℕ → Told → Configuration
opening limit told = record {
  limit = limit;
  turn = 0;
  master = 0;
  gate = 2;
  own = λ k. 0;
  phase = λ k. Run;
  place = λ k. Peek;
  told = told;
}
