-- For each election step: what the board shows after it is the tick of what it showed before.
use Rattle.std.specs.Prelude.{◌≡◌, ℕ, suc, ◌+◌, ◌<◌, true, List, slice_set}
use Rattle.mach_base.specs.declared.limits.TheConstants.{MASK_HARTS}
use Rattle.deck_core.specs.contract.Told.{Told}
use Rattle.deck_core.specs.decks.Seat.{clears, looks_in, sees_gate}
use Rattle.deck_core.specs.ticks.Tick.{tick}
use Rattle.deck_core.specs.declared.plain.act.Answer.{Answer}
use Rattle.deck_core.specs.declared.plain.phase.Looks.{Looks}
use Rattle.deck_core.specs.declared.plain.phase.Phase.TheVariants as phase
use Rattle.deck_core.specs.declared.plain.phase.Place.TheVariants as place
use Rattle.board_turn.specs.declared.view.Standing.{Standing}
use Rattle.board_turn.specs.declared.view.View.{View}
use Rattle.board_turn.specs.declared.words.TheConstants.{MASTER, GATE, OWN}
use Rattle.board_turn.specs.Shown.{shown, word}
use Rattle.board_turn.specs.Plays.{moved_to}
use Rattle.board_turn.specs.Steps.{Before}
use Rattle.board_elect.specs.Plays.{after_want, after_try, after_freeing, after_clearing, after_shutting, after_looking, after_opening, after_seeing, after_marking}

-- before an election step of hart h, one of the harts that have a word, whose seat has this view and stands before a load
pub record Stands {B : Type 0} (rounds : ℕ) (words : List ℕ) (views : List (View B)) (b : Told) (h : ℕ) (v : View B) : Type 0 where
  pub before : Before words views h v
  pub few : h < MASK_HARTS
  pub place : v.at.place ≡ place.Peek
  pub harts : v.at.harts ≡ b.harts
  pub limit : v.at.limit ≡ rounds

-- where the words and the standing meet a condition, the step that makes this of the word i, where it found n, and after
-- which the hart stands there, is the hart's tick
abbrev pub StepIsTick : Type 0 → (List ℕ → Standing → Type 0) → (Standing → ℕ) → (ℕ → Standing → ℕ) → (ℕ → Standing → Standing) → Type 0
StepIsTick B asks i to after =
    (rounds : ℕ) (words : List ℕ) (views : List (View B)) (b : Told) (h : ℕ) (v : View B) (a : Answer) (told : Told)
    → Stands rounds words views b h v → asks words v.at
    → shown rounds (slice_set words (i v.at) (to (word words (i v.at)) v.at)) (slice_set views h (moved_to (after (word words (i v.at)) v.at) v)) b
    ≡ tick h a told (shown rounds words views b)

-- the index of the hart's own word
abbrev pub own_index : Standing → ℕ
own_index at = OWN + at.hart.0

-- the index of the word of the hart at which it looks
abbrev pub next_index : Standing → ℕ
next_index at = OWN + (looks_in at.phase).next

-- the store of 1 to the hart's own word is the tick of Wish
abbrev pub WantIsTick : Type 0 → Type 0
WantIsTick B = StepIsTick B (λ words at. at.phase ≡ phase.Wish) own_index (λ n at. 1) after_want

-- the exchange of the master word, where there is no master, is the tick of Want
abbrev pub TryIsTick : Type 0 → Type 0
TryIsTick B = StepIsTick B (λ words at. (at.phase ≡ phase.Want) × (word words MASTER ≡ 0)) (λ at. MASTER) (λ n at. suc at.hart.0) after_try

-- the exchange of the master word, where there is a master, is the tick of Want
abbrev pub LoseIsTick : Type 0 → Type 0
LoseIsTick B = StepIsTick B (λ words at. (at.phase ≡ phase.Want) × (word words MASTER ≡ 0 → ⊥)) (λ at. MASTER) (λ n at. n) after_try

-- the store of 0 to the hart's own word is the tick of Unmark and of Drop
abbrev pub ClearIsTick : Type 0 → Type 0
ClearIsTick B = StepIsTick B (λ words at. clears at.phase ≡ true) own_index (λ n at. 0) after_clearing

-- the store of 0 to the master word is the tick of Free
abbrev pub FreeIsTick : Type 0 → Type 0
FreeIsTick B = StepIsTick B (λ words at. at.phase ≡ phase.Free) (λ at. MASTER) (λ n at. 0) after_freeing

-- the adding of 1 to the gate is the tick of Shut
abbrev pub ShutIsTick : Type 0 → Type 0
ShutIsTick B = StepIsTick B (λ words at. at.phase ≡ phase.Shut) (λ at. GATE) (λ n at. suc n) after_shutting

-- the load of the next hart's word is the tick of Gather, where the number that the hart keeps is the gate's
abbrev pub LookIsTick : Type 0 → Type 0
LookIsTick B = (looks : Looks) → looks.next < MASK_HARTS → StepIsTick B (λ words at. (at.phase ≡ phase.Gather looks) × (at.gate ≡ word words GATE)) next_index (λ n at. n) after_looking

-- the adding of 1 to the gate is the tick of OpenGate
abbrev pub OpenGateIsTick : Type 0 → Type 0
OpenGateIsTick B = StepIsTick B (λ words at. at.phase ≡ phase.OpenGate) (λ at. GATE) (λ n at. suc n) after_opening

-- the load of the gate is the tick of Called and of Parked
abbrev pub SeeGateIsTick : Type 0 → Type 0
SeeGateIsTick B = StepIsTick B (λ words at. sees_gate at.phase ≡ true) (λ at. GATE) (λ n at. n) after_seeing

-- the store of the gate's number to the hart's own word is the tick of Mark
abbrev pub MarkIsTick : Type 0 → Type 0
MarkIsTick B = (gate : ℕ) → StepIsTick B (λ words at. at.phase ≡ phase.Mark gate) own_index (λ n at. gate) (λ n at. after_marking gate at)
