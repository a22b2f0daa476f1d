use Rattle.std.proofs.Common.{sym}
use Rattle.elf_img.specs.Symbols.{symbol_at}
use Rattle.elf_img.proofs.Lines.{one_line}
use Rattle.elf_img.proofs.symbols.push_entry.Goals as goal

pub returns-in_ok-push_symbol-in-Some-clause-text : goal.returns-in_ok-push_symbol-in-Some-clause-text
returns-in_ok-push_symbol-in-Some-clause-text c =
    one_line (symbol_at c.args.table.now c.args.i) c.in-Some.symbol c.args.out.now.items c.push_symbol.new.out.items (sym c.in-Some.ensures.value) c.in_ok-push_symbol-in-Some.ensures
