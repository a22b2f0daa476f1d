use Rattle.std.proofs.Common.{◌<◌, length, sym, arith}
use Rattle.std.proofs.lemmas.List.{take_all, length-take-le}
use Rattle.elf_img.proofs.symbols.first_bytes.Goals as goal

pub returns-then-bytes-le-NAME_RANGE-clause-value : goal.returns-then-bytes-le-NAME_RANGE-clause-value
returns-then-bytes-le-NAME_RANGE-clause-value c = sym (take_all 256 c.args.bytes.now c.if-bytes-le-NAME_RANGE.true)

pub slice_bounds-result-end : goal.slice_bounds-result-end
slice_bounds-result-end c =
    let long : 256 < length c.args.bytes.now = c.if-bytes-le-NAME_RANGE.false in
    sym (length-take-le 256 c.args.bytes.now (omega arith))

pub returns-clause-short : goal.returns-clause-short
returns-clause-short c =
    let long : 256 < length c.args.bytes.now = c.if-bytes-le-NAME_RANGE.false in
    let exact = length-take-le 256 c.args.bytes.now (omega arith) in
    omega (arith, exact)
