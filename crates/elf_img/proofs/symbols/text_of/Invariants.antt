use Rattle.std.proofs.Common.{◌≡◌}
use Rattle.std.specs.List.{AllByRecursion}
use Rattle.elf_img.specs.MapText.{IsMapSymbol, map_text}
use Rattle.elf_img.specs.Symbols.{symbols_before}
use Rattle.elf_img.proofs.symbols.text_of.Given as goal

-- the lines so far, and what each of their symbols keeps
abbrev pub invariant-loop-i : goal.invariant-loop-i
invariant-loop-i l = record {
  text : l.out.items ≡ map_text (symbols_before l.table l.i);
  keep : AllByRecursion IsMapSymbol (symbols_before l.table l.i);
}
