-- What holds of whole runs.
use Rattle.std.specs.Prelude.{◌≡◌, ℕ, suc, zero, ◌<◌, ◌≤◌, ◌==◌, Bool, true, false, List, [], ◌∷◌, None, if◌then◌else◌}
use Rattle.mach_base.specs.Masks.{has_bit}
use Rattle.deck_core.specs.contract.Told.{Told, IsOpening}
use Rattle.deck_core.specs.Invariant.{Sound}
use Rattle.deck_core.specs.ticks.Configuration.{Configuration, opening}
use Rattle.deck_core.specs.ticks.Tick.{TicksAll, makes_call}
use Rattle.deck_core.specs.ticks.Run.{RunsWith, ticks_of}
use Rattle.deck_core.specs.ticks.Looks.{looks_over, WasMissed}
use Rattle.deck_core.specs.declared.plain.phase.Phase.{Phase}
use Rattle.deck_core.specs.declared.plain.phase.Phase.TheVariants as phase
use Rattle.deck_core.specs.declared.plain.phase.Kept.{Kept}
use Rattle.deck_core.specs.declared.plain.act.Act.{Act}
use Rattle.deck_core.specs.declared.plain.act.Answer.{Answer}

-- a run is a list of ticks
abbrev pub RunsAreTicks : {B : Type 0} → (B → Told) → (Act → B → Answer → B → Type 0) → Type 0
RunsAreTicks {B} told does =
    (plan : List ℕ) (c last : Configuration) (b end : B) → RunsWith told does plan c b last end → TicksAll plan c last

-- a relation from each bus to itself and on over each call holds over a run
abbrev pub RunsKeep : {B : Type 0} → (B → Told) → (Act → B → Answer → B → Type 0) → (B → B → Type 0) → Type 0
RunsKeep {B} told does grows =
    (plan : List ℕ) (c last : Configuration) (b end : B) → RunsWith told does plan c b last end → grows b end

-- where the calls are a function as long as nothing is lost, a run at whose end nothing is lost is that of its plan
abbrev pub RunsAreExact : {B S : Type 0} → (B → Told) → (Act → B → Answer → B → Type 0) → (B → Bool) → (B → S) → (S → Told) → (Act → S → Answer × S) → Type 0
RunsAreExact {B} told does is_lost state told_in called =
    (plan : List ℕ) (c last : Configuration) (b end : B) → RunsWith told does plan c b last end → is_lost end ≡ false
    → (last, state end) ≡ ticks_of told_in called plan (c, state b)

-- a late hart, from the entering of its master on, was missed by that master's own looks since it shut the gate, once in
-- each of the rounds, and never found marked
abbrev pub LateWereMissed : Type 0
LateWereMissed =
    (limit : ℕ) (b : Told) (plan : List ℕ) (last : Configuration) (run : TicksAll plan (opening limit b) last) (m k : ℕ) (kept : Kept) (reopens : Bool)
    → 0 < limit → IsOpening b → last.phase m ≡ phase.Enter kept reopens → has_bit kept.late k ≡ true
    → WasMissed limit k (looks_over m plan (opening limit b) last run [])

-- how many of the ticks of a plan are hart h's
abbrev pub ticks_by : ℕ → List ℕ → ℕ
ticks_by h [] = 0
ticks_by h (k ∷ plan) = if k == h then suc (ticks_by h plan) else ticks_by h plan

-- the way back without a session, by the number of the ticks on it
abbrev pub way_back : ℕ → Phase
way_back zero = phase.Drop
way_back (suc zero) = phase.Free
way_back _ = phase.Run

-- a hart whose trap is gone when it is checked goes to Drop, Free and Run, whatever the other harts do; until its
-- master word is free no session is open, unless an ending stands
abbrev pub GoneTrapGoesBack : Type 0
GoneTrapGoesBack =
    (c last : Configuration) (h : ℕ) (plan : List ℕ)
    → Sound c → c.phase h ≡ phase.Own → makes_call h c ≡ true → has_bit c.told.traps h ≡ false
    → TicksAll (h ∷ plan) c last → ticks_by h plan ≤ 2
    → (last.phase h ≡ way_back (ticks_by h plan)) × (ticks_by h plan < 2 → last.told.over ≡ false → last.told.session ≡ None)
