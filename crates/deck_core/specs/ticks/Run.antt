-- Runs: ticks of the harts of a list in order, with what the calls make of the bus.
use Rattle.std.specs.Prelude.{◌≡◌, ℕ, ◌<◌, Bool, true, false, List, [], ◌∷◌}
use Rattle.deck_core.specs.contract.Told.{Told}
use Rattle.deck_core.specs.contract.Calls.{HonestCall}
use Rattle.deck_core.specs.ticks.Configuration.{Configuration}
use Rattle.deck_core.specs.ticks.NextPhase.{act_of}
use Rattle.deck_core.specs.ticks.Tick.{tick, makes_call}
use Rattle.deck_core.specs.declared.plain.act.Act.{Act}
use Rattle.deck_core.specs.declared.plain.act.Answer.{Answer}
use Rattle.deck_core.specs.declared.plain.act.Answer.TheVariants as answer

-- a tick of hart h with this answer of an honest bus, which then tells this
pub record TickWith (h : ℕ) (c : Configuration) (a : Answer) (after : Told) (next : Configuration) : Type 0 where
  pub honest : makes_call h c ≡ true → HonestCall (act_of h (c.phase h)) c.told a after
  pub ticked : next ≡ tick h a after c

-- what a tick makes of the bus: where it makes a call, what that call does, and else nothing
abbrev pub BusMoves : {B : Type 0} → (Act → B → Answer → B → Type 0) → Bool → Act → B → Answer → B → Type 0
BusMoves does true act b a after = does act b a after
BusMoves does false act b a after = after ≡ b

-- a tick of hart h with its bus
abbrev pub BusTicks : {B : Type 0} → (B → Told) → (Act → B → Answer → B → Type 0) → ℕ → Configuration → B → Configuration → B → Type 0
BusTicks told does h c b next after =
    (a : Answer) × (TickWith h c a (told after) next × BusMoves does (makes_call h c) (act_of h (c.phase h)) b a after)

-- ticks of the harts of a list in order, each one of the bus's harts
abbrev pub RunsWith : {B : Type 0} → (B → Told) → (Act → B → Answer → B → Type 0) → List ℕ → Configuration → B → Configuration → B → Type 0
RunsWith told does [] c b last end = (last ≡ c) × (end ≡ b)
RunsWith {B} told does (h ∷ plan) c b last end =
    (h < c.told.harts)
    × ((next : Configuration) × ((after : B) × (BusTicks told does h c b next after × RunsWith told does plan next after last end)))

-- an order on buses that no call goes down in
pub record IsOrderOver {B : Type 0} (does : Act → B → Answer → B → Type 0) (order : B → B → Type 0) : Type 0 where
  pub here : (b : B) → order b b
  pub on : (a b c : B) → order a b → order b c → order a c
  pub over : (act : Act) (b after : B) (a : Answer) → does act b a after → order b after

-- ---- where the bus's calls are a function of a state, from which follows what the bus tells

-- the answer and the state after a tick: those of the call, where one is made; else the state stays
abbrev pub call_if : {S : Type 0} → Bool → Answer × S → S → Answer × S
call_if true called s = called
call_if false called s = (answer.Send, s)

-- the configuration and the state after hart h's tick
abbrev pub tick_of : {S : Type 0} → (S → Told) → (Act → S → Answer × S) → ℕ → Configuration × S → Configuration × S
tick_of told_in called h (c, s) =
    let r = call_if (makes_call h c) (called (act_of h (c.phase h)) s) s in
    (tick h r.0 (told_in r.1) c, r.1)

-- and after the ticks of the harts of a list
abbrev pub ticks_of : {S : Type 0} → (S → Told) → (Act → S → Answer × S) → List ℕ → Configuration × S → Configuration × S
ticks_of told_in called [] p = p
ticks_of told_in called (h ∷ plan) p = ticks_of told_in called plan (tick_of told_in called h p)
