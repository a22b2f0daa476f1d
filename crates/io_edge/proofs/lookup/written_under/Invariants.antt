use Rattle.std.proofs.Common.{◌≡◌, drop}
use Rattle.io_edge.specs.Memory.{slot_bytes, slot_entries}
use Rattle.io_edge.proofs.Slots.{first_named}
use Rattle.io_edge.proofs.lookup.written_under.Given as goal

-- no slot before this one has the name and bytes
abbrev pub invariant-loop-slot : goal.invariant-loop-slot
invariant-loop-slot l = first_named l.name (slot_entries slot_bytes (drop l.slot-index l.slots)) ≡ first_named l.name (slot_entries slot_bytes l.slots)
