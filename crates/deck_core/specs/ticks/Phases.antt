-- What is known of a hart by its phase alone.
use Rattle.std.specs.Prelude.{◌≡◌, ℕ, ◌-◌, ◌%◌, ◌<◌, ◌≤◌, ◌==◌, ◌&&◌, Bool, true, false, not, nat_lt, if◌then◌else◌}
use Rattle.mach_base.specs.Masks.{has_bit}
use Rattle.deck_core.specs.declared.plain.phase.Phase.{Phase}
use Rattle.deck_core.specs.declared.plain.phase.Phase.TheVariants as phase
use Rattle.deck_core.specs.declared.plain.phase.Place.{Place}
use Rattle.deck_core.specs.declared.plain.phase.Place.TheVariants as place

-- whether it is the master's
abbrev pub is_masters : Phase → Bool
is_masters phase.Run = false
is_masters phase.Called = false
is_masters (phase.Mark gate) = false
is_masters (phase.Parked gate) = false
is_masters (phase.Unmark gate) = false
is_masters phase.Wish = false
is_masters phase.Want = false
is_masters phase.Finished = false
is_masters _ = true

-- the hart's own word: 0 where it is out, 1 where it wants the prompt or has it, else the gate's number at which it
-- marked itself
abbrev pub own_word : Phase → ℕ
own_word (phase.Parked gate) = gate
own_word (phase.Unmark gate) = gate
own_word phase.Run = 0
own_word phase.Called = 0
own_word (phase.Mark gate) = 0
own_word phase.Wish = 0
own_word phase.Free = 0
own_word phase.Finished = 0
own_word _ = 1

-- whether it has seen an ending
abbrev pub is_finished : Phase → Bool
is_finished phase.Finished = true
is_finished _ = false

-- whether the gate is shut while the master is here
abbrev pub is_shut : Phase → Bool
is_shut phase.Own = false
is_shut phase.Shut = false
is_shut phase.Drop = false
is_shut phase.Free = false
is_shut p = is_masters p

-- whether the master is here from the check of its trap to the opening of its session
abbrev pub is_before_opening : Phase → Bool
is_before_opening phase.Shut = true
is_before_opening (phase.Send to) = true
is_before_opening (phase.Gather looks) = true
is_before_opening (phase.Enter kept reopens) = not reopens
is_before_opening _ = false

-- whether a session is open while the master is here
abbrev pub is_in_session : Phase → Bool
is_in_session (phase.Enter kept reopens) = reopens
is_in_session (phase.Pull kept left) = true
is_in_session (phase.Lines kept) = true
is_in_session (phase.PlantStep kept at) = true
is_in_session (phase.PassStep kept planted) = true
is_in_session (phase.PullStep kept follows) = true
is_in_session (phase.Plant kept left) = true
is_in_session (phase.Close kept) = true
is_in_session _ = false

-- whether the session's master, here, has read a line since the gate was shut, unless an ending stands
abbrev pub has_read : Phase → Bool
has_read (phase.Enter kept reopens) = reopens
has_read (phase.PlantStep kept at) = true
has_read (phase.PassStep kept planted) = true
has_read (phase.PullStep kept follows) = true
has_read (phase.Plant kept left) = true
has_read (phase.Close kept) = true
has_read phase.OpenGate = true
has_read _ = false

-- whether the master is here from the shutting of the gate to its opening
abbrev pub is_at_gate : Phase → Bool
is_at_gate phase.Shut = true
is_at_gate p = is_shut p

-- the late harts that a master keeps
abbrev pub late_of : Phase → ℕ
late_of (phase.Enter kept reopens) = kept.late
late_of (phase.Pull kept left) = kept.late
late_of (phase.Lines kept) = kept.late
late_of (phase.PlantStep kept at) = kept.late
late_of (phase.PassStep kept planted) = kept.late
late_of (phase.PullStep kept follows) = kept.late
late_of (phase.Plant kept left) = kept.late
late_of (phase.Close kept) = kept.late
late_of _ = 0

-- whether a hart that is here has a mark that counts at this number of the gate
abbrev pub is_marked : ℕ → Phase → Bool
is_marked gate phase.Want = true
is_marked gate (phase.Parked at) = at == gate
is_marked gate _ = false

-- a number at which the gate was shut, up to this one
pub record WasShut (gate : ℕ) (at : ℕ) : Type 0 where
  pub odd : at % 2 ≡ 1
  pub low : 3 ≤ at
  pub high : at ≤ gate

-- the number of the gate that a hart keeps is one at which it was shut, and an older one where its mark goes
abbrev pub KeepsOldNumber : ℕ → Phase → Type 0
KeepsOldNumber gate (phase.Mark at) = WasShut gate at
KeepsOldNumber gate (phase.Parked at) = WasShut gate at
KeepsOldNumber gate (phase.Unmark at) = WasShut gate at × (at < gate)
KeepsOldNumber gate _ = Unit {0}

-- whether a master that is here counts this hart, of so many, as gathered
abbrev pub counts : ℕ → Phase → ℕ → Bool
counts harts (phase.Gather looks) k = has_bit looks.gathered k
counts harts (phase.Enter kept reopens) k = not reopens && (nat_lt k harts && not (has_bit kept.late k))
counts harts _ k = false

-- how many harts a master that is here has called since the gate was last opened, of so many; master is its number
-- plus 1
abbrev pub called : ℕ → ℕ → Phase → ℕ
called harts master (phase.Send to) = if nat_lt to master then to else to - 1
called harts master phase.Own = 0
called harts master phase.Shut = 0
called harts master phase.Drop = 0
called harts master phase.Free = 0
called harts master p = if is_masters p then harts - 1 else 0

-- whether a hart holds the turn at its place in a transaction
abbrev pub holds : Place → Bool
holds place.Give = true
holds _ = false
