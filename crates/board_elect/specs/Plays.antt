-- Where a hart stands after each election step, by the number found.
use Rattle.std.specs.Prelude.{◌≡◌, ℕ, suc, ◌+◌, ◌*◌, ◌≤◌, ◌==◌, ◌||◌, Bool, Option, if◌then◌else◌}
use Rattle.mach_base.specs.declared.limits.TheConstants.{MOST_LINES}
use Rattle.atomic_table.specs.Table.{Me, Step}
use Rattle.deck_core.specs.decks.Seat.{looks_in}
use Rattle.deck_core.specs.ticks.NextPhase.{after_clear, after_gate, after_look, after_shut}
use Rattle.deck_core.specs.declared.plain.phase.Phase.{Phase}
use Rattle.deck_core.specs.declared.plain.phase.Phase.TheVariants as phase
use Rattle.board_turn.specs.declared.view.Slot.{Slot}
use Rattle.board_turn.specs.declared.view.Standing.{Standing}
use Rattle.board_turn.specs.declared.view.View.{View}
use Rattle.board_turn.specs.Plays.{moved_to}

-- the hart goes to another phase
abbrev pub to_phase : Phase → Standing → Standing
to_phase p at = record at { phase = p }

-- whether a mark counts for this hart, which shut the gate
abbrev pub is_counted : Standing → ℕ → Bool
is_counted at word = (word == 1) || (word == at.gate)

-- after each step, where this number was found; of a store, the number that was stored
abbrev pub after_want : ℕ → Standing → Standing
after_want n at = to_phase phase.Want at

-- after the compare and exchange of the master word
abbrev pub after_try : ℕ → Standing → Standing
after_try n at = to_phase (if n == 0 then phase.Own else phase.Want) at

-- after the store of 0 to its own word
abbrev pub after_clearing : ℕ → Standing → Standing
after_clearing n at = to_phase (after_clear at.phase) at

-- after the store of 0 to the master word
abbrev pub after_freeing : ℕ → Standing → Standing
after_freeing n at = to_phase phase.Run at

-- after the shutting of the gate, whose new number the hart keeps
abbrev pub after_shutting : ℕ → Standing → Standing
after_shutting n at = record at { phase = after_shut at.harts at.hart.0; gate = suc n }

-- after a look at the word of the next hart
abbrev pub after_looking : ℕ → Standing → Standing
after_looking n at = to_phase (after_look at.limit at.harts at.hart.0 (looks_in at.phase) (is_counted at n)) at

-- after the opening of the gate
abbrev pub after_opening : ℕ → Standing → Standing
after_opening n at = to_phase phase.Drop at

-- after the load of the gate's number
abbrev pub after_seeing : ℕ → Standing → Standing
after_seeing n at = to_phase (after_gate at.phase n) at

-- after the store of a mark to its own word
abbrev pub after_marking : ℕ → Standing → Standing
after_marking n at = to_phase (phase.Parked n) at

-- the step changes where the hart stands, and nothing else that it knows
abbrev pub Moves : {B : Type 0} → (ℕ → Standing → Standing) → Step (Option (Slot B)) → Me (Option (Slot B)) (View B) → ℕ → Me (Option (Slot B)) (View B) → Type 0
Moves f s me n after = after ≡ (moved_to (f n me.0.at) me.0, me.1)

-- the shutting tells besides that the gate's number is small
abbrev pub Shuts : {B : Type 0} → Step (Option (Slot B)) → Me (Option (Slot B)) (View B) → ℕ → Me (Option (Slot B)) (View B) → Type 0
Shuts s me n after = (after ≡ (moved_to (after_shutting n me.0.at) me.0, me.1)) × (n ≤ 2 * MOST_LINES + 4)

-- the exchange of the master word tells besides that the word names a hart, or none
abbrev pub Tries : {B : Type 0} → Step (Option (Slot B)) → Me (Option (Slot B)) (View B) → ℕ → Me (Option (Slot B)) (View B) → Type 0
Tries s me n after = (after ≡ (moved_to (after_try n me.0.at) me.0, me.1)) × (n ≤ me.0.at.harts)
