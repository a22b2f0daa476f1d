use Rattle.std.proofs.Common.{◌≡◌, get_or, arith, sym}
use Rattle.mem_map.specs.Parts.{IsFirstAt, NoneHolds}
use Rattle.mem_map.proofs.Lookups.{byte_at-none, byte_at-read, below_half}
use Rattle.mem_map.proofs.memory.Map.peek.Goals as goal

pub returns-in-None-clause-value : goal.returns-in-None-clause-value
returns-in-None-clause-value c =
    let none : NoneHolds c.self.inside.pieces.items c.args.addr = rw (← c.as_slice-pieces.ensures.value) c.in-None.ensures in
    rw (← c.self.view_is) (sym (byte_at-none c.self.inside.pieces.items c.args.addr c.self.invariant.parts none))

pub returns-in-Some-clause-value : goal.returns-in-Some-clause-value
returns-in-Some-clause-value c =
    let first : IsFirstAt c.self.inside.pieces.items c.args.addr c.in-Some.i = rw (← c.as_slice-pieces.ensures.value) c.in-Some.ensures in
    let piece : c.index-pieces-i.result ≡ get_or c.self.inside.pieces.items c.in-Some.i c.index-pieces-i.result = rw (← c.as_slice-pieces.ensures.value) c.index-pieces-i.is in
    rw (← c.self.view_is) (sym (byte_at-read c.self.inside.pieces.items c.args.addr c.in-Some.i c.place.result c.byte.result c.index-pieces-i.result c.self.invariant.parts first piece c.place.ensures c.byte.ensures))

pub returns-in-Some-clause-mapped : goal.returns-in-Some-clause-mapped
returns-in-Some-clause-mapped c =
    let first : IsFirstAt c.self.inside.pieces.items c.args.addr c.in-Some.i = rw (← c.as_slice-pieces.ensures.value) c.in-Some.ensures in
    λ high. absurd (omega (arith, below_half c.self.inside.pieces.items c.args.addr c.in-Some.i c.index-pieces-i.result c.self.invariant.parts first))
