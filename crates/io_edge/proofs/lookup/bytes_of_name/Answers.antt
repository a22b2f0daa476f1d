use Rattle.std.proofs.Common.{◌≡◌, true, Some, sym, ap, ◌∙◌, arith}
use Rattle.std.specs.Str.{bytes_eq}
use Rattle.io_edge.proofs.FirstOf.{get-file_map_here, get-file_map_nowhere}
use Rattle.io_edge.proofs.lookup.bytes_of_name.Goals as goal

pub returns-then-eq : goal.returns-then-eq
returns-then-eq c =
    let f = c.file-item.result in
    let same : bytes_eq c.args.name.now f.name ≡ true = ap (bytes_eq c.args.name.now) (sym c.as_bytes.ensures) ∙ sym c.eq.ensures ∙ c.if-eq.true in
    ap Some c.as_bytes-then-eq.ensures
    ∙ sym (get-file_map_here c.args.name.now c.args.files.now c.loop-file.file-index f (omega arith) c.file-item.is same c.loop-file.invariant)

pub returns : goal.returns
returns c = sym (get-file_map_nowhere c.args.name.now c.args.files.now c.loop-file.file-index (omega arith) c.loop-file.invariant)
