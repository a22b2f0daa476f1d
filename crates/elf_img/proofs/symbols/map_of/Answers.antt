use Rattle.std.proofs.Common.{◌≤◌, ◌/◌, length, arith}
use Rattle.elf_img.specs.Symbols.{symbols_before}
use Rattle.elf_img.proofs.ReadBack.{reads_back}
use Rattle.elf_img.proofs.symbols.map_of.Goals as goal

pub returns-clause-reads : goal.returns-clause-reads
returns-clause-reads c =
    let found = symbols_before c.args.table.now (length c.args.table.now.entries / 24) in
    let counted = c.sizes_of-sizes.ensures.symbols in
    let limit = c.if-sizes.false in
    let few : length found ≤ 500000 = omega arith in
    rw c.in_ok-text.ensures.text (reads_back found c.in_ok-text.ensures.keep few)
