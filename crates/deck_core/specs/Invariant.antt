-- The invariant of the protocol. In plain words, m being the hart that the master word names, if any:
--
-- 1. Turn. The turn's holder is the one hart that stands before its call, or none; the turn word's mask is the bus's; a
--    word that was seen before a take has no holder (`Sound.mask`, `TurnAt`).
-- 2. Own word. A hart's own word is what its phase says; a hart is finished only where an ending stands (`HartFits`).
-- 3. Master. The master word names a hart exactly where that hart is in a master's phase (`HartFits.masters`).
-- 4. Gate. Its number is odd exactly where m is past Shut and not past OpenGate (`LeadFits.parity`).
-- 5. Old numbers. The number that a hart keeps is one at which the gate was shut (`HartFits.old_number`).
-- 6. Gathered. The mark of each hart that m counts as gathered counts; the late harts are the others but m
--    (`MarkFits.gathered`, `LateFits`).
-- 7. Mask. Each hart in it is m, or its mark counts; it is empty but in a session (`MarkFits.masked`, `LeadFits.mask`).
-- 8. Session. Where no ending stands, one is open exactly where m's phase says so. It is m's, with the late harts that m
--    keeps, in a stage of that phase (`Working.session`).
-- 9. Planted. Where no ending stands, what is planted follows from m's phase (`Working.planted`).
-- 10. Trap. From Shut to the opening of its session m has a trap, or an ending stands (`LeadFits.trap`).
-- 11. Step word. Where no ending stands, it stands exactly in PullStep and in a PassStep that follows PlantStep, at m's
--     next address (`Working.step`).
-- 12. Numbers. The gate was opened at most as often as lines were read, and once more after an ending; each opening has
--     its calls (`LeadFits.lines`, `LeadFits.sends`, `Working.read`).
--
-- Besides, what a phase keeps is in range (`KeepsInRange`), and so is what the bus tells (`IsTold`).
use Rattle.std.specs.Prelude.{◌≡◌, ℕ, suc, zero, ◌+◌, ◌-◌, ◌*◌, ◌/◌, ◌%◌, ◌^◌, ◌<◌, ◌≤◌, ◌==◌, ◌&&◌, ◌||◌, Bool, true, false, not, Option, Some, None, is_some, if◌then◌else◌}
use Rattle.mach_base.specs.Masks.{has_bit}
use Rattle.mach_base.specs.declared.limits.TheConstants.{PLACES}
use Rattle.deck_core.specs.plain.Words.{mask_of, holder_of}
use Rattle.deck_core.specs.ticks.Phases.{is_masters, own_word, is_finished, is_shut, is_before_opening, is_in_session, has_read, is_at_gate, late_of, is_marked, KeepsOldNumber, counts, called, holds}
use Rattle.deck_core.specs.contract.Told.{Told, IsTold}
use Rattle.deck_core.specs.contract.Allowed.{is_lines, is_pass, is_leaving, comes_back}
use Rattle.deck_core.specs.ticks.Configuration.{Configuration, lead_of}
use Rattle.deck_core.specs.declared.plain.phase.Phase.{Phase}
use Rattle.deck_core.specs.declared.plain.phase.Phase.TheVariants as phase
use Rattle.deck_core.specs.declared.plain.phase.Then.{Then}
use Rattle.deck_core.specs.declared.plain.phase.Then.TheVariants as follow
use Rattle.deck_core.specs.declared.plain.phase.Looks.{Looks}
use Rattle.deck_core.specs.declared.plain.phase.Place.{Place}
use Rattle.deck_core.specs.declared.plain.phase.Place.TheVariants as place
use Rattle.deck_core.specs.declared.plain.notes.Sitting.{Sitting}
use Rattle.deck_core.specs.declared.plain.notes.Stage.{Stage}

-- ---- the turn

-- a word that was seen before a take has no holder
abbrev pub SeenFree : Place → Type 0
SeenFree (place.Take seen) = holder_of seen ≡ 0
SeenFree _ = Unit {0}

-- hart k at this place is the turn's holder exactly where it stands before its call
pub record TurnAt (turn : ℕ) (at : Place) (k : ℕ) : Type 0 where
  pub holder : holds at ≡ (holder_of turn == suc k)
  pub seen : SeenFree at

-- ---- each hart

-- hart k, in this phase: its own word; it is finished only where an ending stands; the master word names it exactly in a
-- master's phase; the number of the gate that it keeps is an old one
pub record HartFits (gate : ℕ) (master : ℕ) (over : Bool) (p : Phase) (own : ℕ) (k : ℕ) : Type 0 where
  pub own_word : own ≡ own_word p
  pub finished : is_finished p ≡ true → over ≡ true
  pub masters : is_masters p ≡ (master == suc k)
  pub old_number : KeepsOldNumber gate p

-- hart k, in this phase: where the master counts it as gathered, its mark counts; where it is in the mask, it is the
-- master or its mark counts
pub record MarkFits (harts : ℕ) (mask : ℕ) (gate : ℕ) (master : ℕ) (lead : Phase) (p : Phase) (k : ℕ) : Type 0 where
  pub gathered : (counts harts lead k && not (master == suc k)) ≡ true → is_marked gate p ≡ true
  pub masked : has_bit mask k ≡ true → ((master == suc k) || is_marked gate p) ≡ true

-- ---- the master, by its phase, its number plus 1 and the gate's number

-- how often the gate was opened
abbrev pub openings : ℕ → ℕ
openings gate = gate / 2 - 1

-- the truth value as a number: 1 where it is true, else 0
abbrev pub bit : Bool → ℕ
bit b = if b then 1 else 0

-- hart k is one of the harts, and not the master
pub record IsOther (harts : ℕ) (master : ℕ) (k : ℕ) : Type 0 where
  pub below : k < harts
  pub other : (master == suc k) ≡ false

-- the looks of a gathering are in range: the next hart is another, a round is left, the gathered harts are others
pub record LooksFit (limit : ℕ) (harts : ℕ) (master : ℕ) (looks : Looks) : Type 0 where
  pub next : IsOther harts master looks.next
  pub rounds : looks.rounds < limit
  pub gathered : looks.gathered < 2 ^ harts
  pub others : (k : ℕ) → has_bit looks.gathered k ≡ true → (master == suc k) ≡ false

-- the late harts are a mask of harts, without the master
pub record LateFits (harts : ℕ) (master : ℕ) (late : ℕ) : Type 0 where
  pub below : late < 2 ^ harts
  pub others : (k : ℕ) → has_bit late k ≡ true → (master == suc k) ≡ false

-- there is a place left, and the mask has places alone
pub record LeftFits (left : ℕ) : Type 0 where
  pub some : 0 < left
  pub places : left < 2 ^ PLACES

-- what follows the step word's removal is in range
abbrev pub ThenFits : Then → Type 0
ThenFits follow.Enter = Unit {0}
ThenFits (follow.Plant left) = left < 2 ^ PLACES

-- what a phase of the master keeps is in range: the hart that is called or looked at is another one of the harts; there
-- are rounds left; the late harts are others; there is a place left to be pulled or planted
abbrev pub KeepsInRange : ℕ → ℕ → ℕ → Phase → Type 0
KeepsInRange limit harts master (phase.Send to) = IsOther harts master to
KeepsInRange limit harts master (phase.Gather looks) = LooksFit limit harts master looks
KeepsInRange limit harts master (phase.Enter kept reopens) = LateFits harts master kept.late
KeepsInRange limit harts master (phase.Pull kept left) = LateFits harts master kept.late × LeftFits left
KeepsInRange limit harts master (phase.Lines kept) = LateFits harts master kept.late
KeepsInRange limit harts master (phase.PlantStep kept at) = LateFits harts master kept.late
KeepsInRange limit harts master (phase.PassStep kept planted) = LateFits harts master kept.late
KeepsInRange limit harts master (phase.PullStep kept follows) = LateFits harts master kept.late × ThenFits follows
KeepsInRange limit harts master (phase.Plant kept left) = LateFits harts master kept.late × LeftFits left
KeepsInRange limit harts master (phase.Close kept) = LateFits harts master kept.late
KeepsInRange limit harts master _ = Unit {0}

-- whether the session's stage is one of those of the master's phase, the master's instruction faulting or not
abbrev pub stage_fits : Bool → Phase → Stage → Bool
stage_fits faulting (phase.Enter kept reopens) at = reopens && comes_back faulting at
stage_fits faulting (phase.Pull kept left) at = is_lines at
stage_fits faulting (phase.Lines kept) at = is_lines at
stage_fits faulting (phase.PlantStep kept step) at = is_pass at
stage_fits faulting (phase.PassStep kept planted) at = is_pass at
stage_fits faulting (phase.PullStep kept follow.Enter) at = comes_back faulting at
stage_fits faulting (phase.PullStep kept (follow.Plant left)) at = is_leaving at
stage_fits faulting (phase.Plant kept left) at = is_leaving at
stage_fits faulting (phase.Close kept) at = is_leaving at
stage_fits faulting _ at = false

-- the session is open exactly where the master's phase says so; it is the master's, with the late harts that it keeps
abbrev pub session_fits : ℕ → Phase → ℕ → Option Sitting → Bool
session_fits master lead faults None = not (is_in_session lead)
session_fits master lead faults (Some sitting) =
    ((master == suc sitting.master.0) && (sitting.late == late_of lead)) && stage_fits (has_bit faults sitting.master.0) lead sitting.stage

-- the enabled places are planted but those that are still to be planted
pub record IsPlanting (planted : ℕ) (enabled : ℕ) (left : ℕ) : Type 0 where
  pub wanted : (k : ℕ) → has_bit left k ≡ true → has_bit enabled k ≡ true
  pub others : (k : ℕ) → has_bit planted k ≡ (has_bit enabled k && not (has_bit left k))

-- where the session is left after the step word's removal, each enabled place is still to be planted
abbrev pub ThenPlants : ℕ → Then → Type 0
ThenPlants enabled follow.Enter = Unit {0}
ThenPlants enabled (follow.Plant left) = left ≡ enabled

-- what is planted: outside a session, and when it closes, the enabled places; while they are pulled, those that are
-- left; while they are planted, the enabled ones but those left; else none
abbrev pub PlantedFits : ℕ → ℕ → Phase → Type 0
PlantedFits planted enabled (phase.Enter kept false) = planted ≡ enabled
PlantedFits planted enabled (phase.Enter kept true) = planted ≡ 0
PlantedFits planted enabled (phase.Pull kept left) = planted ≡ left
PlantedFits planted enabled (phase.Lines kept) = planted ≡ 0
PlantedFits planted enabled (phase.PlantStep kept at) = planted ≡ 0
PlantedFits planted enabled (phase.PassStep kept step) = planted ≡ 0
PlantedFits planted enabled (phase.PullStep kept follows) = (planted ≡ 0) × ThenPlants enabled follows
PlantedFits planted enabled (phase.Plant kept left) = IsPlanting planted enabled left
PlantedFits planted enabled _ = planted ≡ enabled

-- the step word may be planted at this address: the master's next address, a text word other than its pc, and none was
-- planted since the last line
pub record MayPlantStep (step next : Option ℕ) (plantable stepped : Bool) (at : ℕ) : Type 0 where
  pub free : step ≡ None
  pub at_next : next ≡ Some at
  pub text : plantable ≡ true
  pub first : stepped ≡ false

-- the step word stands at the master's next address
pub record StepStands (step next : Option ℕ) (plantable : Bool) : Type 0 where
  pub stands : is_some step ≡ true
  pub at_next : step ≡ next
  pub text : plantable ≡ true

-- the step word, by the master's phase
abbrev pub StepFits : Option ℕ → Option ℕ → Bool → Bool → Phase → Type 0
StepFits step next plantable stepped (phase.PlantStep kept at) = MayPlantStep step next plantable stepped at
StepFits step next plantable stepped (phase.PassStep kept true) = StepStands step next plantable
StepFits step next plantable stepped (phase.PassStep kept false) = (step ≡ None) × (plantable ≡ false)
StepFits step next plantable stepped (phase.PullStep kept follows) = is_some step ≡ true
StepFits step next plantable stepped _ = step ≡ None

-- what holds of the bus while no ending stands
pub record Working (master : ℕ) (gate : ℕ) (lead : Phase) (b : Told) : Type 0 where
  pub session : session_fits master lead b.faults b.session ≡ true
  pub planted : PlantedFits b.planted b.enabled lead
  pub step : StepFits b.step b.next b.plantable b.stepped lead
  pub read : has_read lead ≡ true → openings gate < b.lines

-- a test at the master's number, by the master word
abbrev pub at_master : ℕ → (ℕ → Bool) → Bool
at_master zero test = false
at_master (suc m) test = test m

-- what holds of the master and the gate: the gate's number is odd exactly where it is shut; the mask is empty but in a
-- session; before the opening the master has a trap, or an ending stands; each opening of the gate had its line
pub record LeadFits (limit : ℕ) (master : ℕ) (gate : ℕ) (lead : Phase) (b : Told) : Type 0 where
  pub range : KeepsInRange limit b.harts master lead
  pub low : 2 ≤ gate
  pub parity : gate % 2 ≡ bit (is_shut lead)
  pub mask : is_in_session lead ≡ false → b.mask ≡ 0
  pub trap : is_before_opening lead ≡ true → (b.over || at_master master (has_bit b.traps)) ≡ true
  pub lines : openings gate ≤ b.lines + bit (b.over && not (is_at_gate lead))
  pub sends : b.sends ≤ (b.harts - 1) * openings gate + called b.harts master lead
  pub working : b.over ≡ false → Working master gate lead b

-- ---- the whole

-- the configuration meets the invariant, which the head of this file says in words
pub record Sound (c : Configuration) : Type 0 where
  pub limit : 0 < c.limit
  pub told : IsTold c.told
  pub mask : mask_of c.turn ≡ c.told.mask
  pub turn : (k : ℕ) → TurnAt c.turn (c.place k) k
  pub master : c.master ≤ c.told.harts
  pub harts : (k : ℕ) → HartFits c.gate c.master c.told.over (c.phase k) (c.own k) k
  pub marks : (k : ℕ) → MarkFits c.told.harts c.told.mask c.gate c.master (lead_of c.master c.phase) (c.phase k) k
  pub lead : LeadFits c.limit c.master c.gate (lead_of c.master c.phase) c.told
