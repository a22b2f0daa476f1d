use Rattle.std.proofs.Common.{◌≡◌, ◌≤◌, ◌*◌, length}
use Rattle.elf_img.specs.MapText.{map_text}
use Rattle.elf_img.specs.Symbols.{symbols_before}
use Rattle.elf_img.proofs.symbols.sizes_of.Given as goal

-- the symbols so far and the bytes of their lines, of which each has at most 275
abbrev pub invariant-loop-i : goal.invariant-loop-i
invariant-loop-i l = record {
  count : l.sizes.symbols ≡ length (symbols_before l.table l.i);
  size : l.sizes.bytes ≡ length (map_text (symbols_before l.table l.i));
  few : l.sizes.symbols ≤ l.i;
  small : l.sizes.bytes ≤ 275 * l.i;
}
