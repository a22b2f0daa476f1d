-- Each tick keeps the invariant: the laws in a phase, for each place in a transaction, and for lists of ticks.
use Rattle.std.specs.Prelude.{◌≡◌, ℕ, ◌<◌, true, List}
use Rattle.deck_core.specs.Invariant.{Sound}
use Rattle.deck_core.specs.contract.Calls.{HonestCall}
use Rattle.deck_core.specs.contract.Told.{Told}
use Rattle.deck_core.specs.ticks.Configuration.{Configuration}
use Rattle.deck_core.specs.ticks.NextPhase.{act_of, after_answer}
use Rattle.deck_core.specs.ticks.Tick.{Ticks, TicksAll, enters, gives, makes_call, peeks, takes, tick}
use Rattle.deck_core.specs.declared.plain.phase.Phase.{Phase}
use Rattle.deck_core.specs.declared.plain.phase.Phase.TheVariants as phase
use Rattle.deck_core.specs.declared.plain.phase.Place.TheVariants as place
use Rattle.deck_core.specs.declared.plain.act.Answer.{Answer}

-- each tick in this phase, by any of the harts and with any honest bus, keeps the invariant
abbrev pub KeepsIn : Phase → Type 0
KeepsIn p = (c : Configuration) (h : ℕ) (a : Answer) (after : Told) → Sound c → h < c.told.harts → c.phase h ≡ p → (makes_call h c ≡ true → HonestCall (act_of h (c.phase h)) c.told a after) → Sound (tick h a after c)

-- the same of a phase that keeps a value, whichever it keeps
abbrev pub KeepsFor : {A : Type 0} → (A → Phase) → Type 0
KeepsFor {A} p = (x : A) → KeepsIn (p x)

-- and of one that keeps two
abbrev pub KeepsForBoth : {A B : Type 0} → (A → B → Phase) → Type 0
KeepsForBoth {A} {B} p = (x : A) (y : B) → KeepsIn (p x y)

-- the three ticks of a transaction, in any phase: the load of the turn word, its compare and exchange, and the call
abbrev pub PeekKeeps : Type 0
PeekKeeps = (c : Configuration) (h : ℕ) (p : Phase) → Sound c → c.place h ≡ place.Peek → Sound (peeks h p c)

-- the compare and exchange of the turn word keeps the invariant
abbrev pub TakeKeeps : Type 0
TakeKeeps = (c : Configuration) (h seen : ℕ) → Sound c → c.place h ≡ place.Take seen → Sound (takes h seen c)

-- the call of an honest bus, with the store of the turn word, keeps the invariant
abbrev pub GiveKeeps : Type 0
GiveKeeps = (c : Configuration) (h : ℕ) (a : Answer) (after : Told) → Sound c → h < c.told.harts → makes_call h c ≡ true → HonestCall (act_of h (c.phase h)) c.told a after → Sound (gives h (after_answer c.told.harts h (c.phase h) a) after c)

-- each tick keeps the invariant, in every phase
abbrev pub EveryTickKeeps : Type 0
EveryTickKeeps = (c : Configuration) (h : ℕ) (next : Configuration) → Sound c → h < c.told.harts → Ticks h c next → Sound next

-- and so does each list of ticks
abbrev pub EveryPlanKeeps : Type 0
EveryPlanKeeps = (plan : List ℕ) (c last : Configuration) → Sound c → TicksAll plan c last → Sound last

-- a hart that has seen an ending may count as in Run again: it has the same own word, and no mark
abbrev pub FinishedLeaves : Type 0
FinishedLeaves = (c : Configuration) (h : ℕ) → Sound c → c.phase h ≡ phase.Finished → Sound (enters h phase.Run c)
