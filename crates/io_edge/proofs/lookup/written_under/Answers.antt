use Rattle.std.proofs.Common.{◌≡◌, true, Some, sym, ap, ◌∙◌, arith}
use Rattle.std.specs.Str.{bytes_eq}
use Rattle.io_edge.proofs.Slots.{written_here, written_nowhere}
use Rattle.io_edge.proofs.lookup.written_under.Goals as goal

pub returns-in-Some : goal.returns-in-Some
returns-in-Some c =
    let s = c.slot-item.result in
    let same : bytes_eq c.args.name.now s.name ≡ true = ap (bytes_eq c.args.name.now) (sym c.as_bytes.ensures) ∙ sym c.eq.ensures ∙ c.if-eq.true in
    ap Some c.as_bytes-in-Some.ensures
    ∙ sym (written_here c.args.name.now c.in-Some.bytes c.args.slots.now c.loop-slot.slot-index s (omega arith) c.slot-item.is same c.in-Some.is c.loop-slot.invariant)

pub returns : goal.returns
returns c = sym (written_nowhere c.args.name.now c.args.slots.now c.loop-slot.slot-index (omega arith) c.loop-slot.invariant)
