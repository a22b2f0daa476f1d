-- What follows from the invariant.
use Rattle.std.specs.Prelude.{◌≡◌, ℕ, ◌+◌, ◌*◌, ◌<◌, ◌≤◌, Bool, true, false, Some}
use Rattle.mach_base.specs.Masks.{has_bit}
use Rattle.mach_base.specs.declared.limits.TheConstants.{MOST_LINES}
use Rattle.deck_core.specs.Invariant.{Sound}
use Rattle.deck_core.specs.contract.Allowed.{is_allowed}
use Rattle.deck_core.specs.contract.Told.{IsOpening, Told}
use Rattle.deck_core.specs.ticks.Configuration.{Configuration, opening}
use Rattle.deck_core.specs.ticks.NextPhase.{act_of, after_answer, is_transaction}
use Rattle.deck_core.specs.ticks.Phases.{is_masters, is_shut}
use Rattle.deck_core.specs.ticks.Tick.{Ticks, makes_call}
use Rattle.deck_core.specs.declared.plain.phase.Phase.{Phase}
use Rattle.deck_core.specs.declared.plain.phase.Phase.TheVariants as phase
use Rattle.deck_core.specs.declared.plain.act.Answer.{Answer}
use Rattle.deck_core.specs.declared.plain.phase.Kept.{Kept}
use Rattle.deck_core.specs.declared.plain.notes.Sitting.{Sitting}

-- the opening configuration, over an opening bus, meets the invariant
abbrev pub OpeningIsSound : Type 0
OpeningIsSound = (limit : ℕ) (b : Told) → 0 < limit → IsOpening b → Sound (opening limit b)

-- the one call that a hart's phase makes is allowed
abbrev pub CallIsAllowed : Type 0
CallIsAllowed = (c : Configuration) (h : ℕ) → Sound c → h < c.told.harts → makes_call h c ≡ true → is_allowed (act_of h (c.phase h)) c.told ≡ true

-- at most one hart is in a master's phase
abbrev pub OneMaster : Type 0
OneMaster = (c : Configuration) (h k : ℕ) → Sound c → is_masters (c.phase h) ≡ true → is_masters (c.phase k) ≡ true → h ≡ k

-- a hart that runs isn't in the mask
abbrev pub RunsUnmasked : Type 0
RunsUnmasked = (c : Configuration) (h : ℕ) → Sound c → c.phase h ≡ phase.Run → has_bit c.told.mask h ≡ false

-- sessions never overlap: where one is open, the hart that opens one is its master, and opens it again
abbrev pub SessionsNeverOverlap : Type 0
SessionsNeverOverlap = (c : Configuration) (h : ℕ) (kept : Kept) (reopens : Bool) (sitting : Sitting) → Sound c → c.phase h ≡ phase.Enter kept reopens → c.told.over ≡ false → c.told.session ≡ Some sitting → (reopens ≡ true) × (sitting.master.0 ≡ h)

-- a hart whose trap is gone when it is checked goes back without a session
abbrev pub GoneTrapDrops : Type 0
GoneTrapDrops = (c : Configuration) (h : ℕ) (next : Configuration) → Sound c → c.phase h ≡ phase.Own → makes_call h c ≡ true → has_bit c.told.traps h ≡ false → Ticks h c next → next.phase h ≡ phase.Drop

-- the gate's number stays small
abbrev pub GateIsBounded : Type 0
GateIsBounded = (c : Configuration) → Sound c → c.gate ≤ 2 * MOST_LINES + 4

-- where the gate is shut in the phase after an answer, it was shut in the one before
abbrev pub ShutBefore : Type 0
ShutBefore = (harts h : ℕ) (p : Phase) (a : Answer) → is_transaction p ≡ true → is_shut (after_answer harts h p a) ≡ true → is_shut p ≡ true
