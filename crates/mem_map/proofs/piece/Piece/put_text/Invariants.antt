use Rattle.std.proofs.Common.{◌≡◌}
use Rattle.mem_map.specs.Parts.{with_text}
use Rattle.mem_map.proofs.piece.Piece.put_text.Given as goal

abbrev pub invariant-loop-k : goal.invariant-loop-k
invariant-loop-k l =
    (l.self-inside.bytes.items ≡ with_text l.fn.self.bytes l.place l.text l.k) × (l.self-inside.segment ≡ l.fn.self.segment)
