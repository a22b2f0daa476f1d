use Rattle.std.proofs.Common.{◌≡◌, drop, find}
use Rattle.elf_img.specs.Sections.{is_symbol_table}
use Rattle.elf_img.proofs.section.first_table.Given as goal

-- the first of all is the first of those that are left
abbrev pub invariant-loop-h : goal.invariant-loop-h
invariant-loop-h l = find is_symbol_table l.headers ≡ find is_symbol_table (drop l.h-index l.headers)
