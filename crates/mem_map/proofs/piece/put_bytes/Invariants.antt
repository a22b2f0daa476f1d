use Rattle.std.proofs.Common.{◌≡◌, ◌/◌, ◌^◌}
use Rattle.mem_map.specs.Parts.{with_number}
use Rattle.mem_map.proofs.piece.put_bytes.Given as goal

abbrev pub invariant-loop-k : goal.invariant-loop-k
invariant-loop-k l =
    (l.rest ≡ l.value / 256 ^ l.k) × (l.bytes ≡ with_number l.fn.bytes l.place l.k l.value)
