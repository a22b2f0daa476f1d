-- What is read from an executable for RISC-V: an image and a map, or the first thing that is wrong.
use Rattle.std.specs.Prelude.{ℕ, List, ◌++◌, length}
use Rattle.elf_img.specs.Causes.{Cause}
use Rattle.elf_img.specs.Header.{header_causes}
use Rattle.elf_img.specs.Segments.{program_causes, segment_causes, size_causes, program_headers, loads, segments}
use Rattle.elf_img.specs.Symbols.{symbol_causes, symbols}

-- All that can be wrong with a file, in the order in which it is told: its header, its program headers, its segments
-- together, its sizes, its symbols.
unfoldable pub causes : List ℕ → List Cause
causes file =
    header_causes file ++ (program_causes (length file) (program_headers file) ++ (segment_causes (segments file) ++ (size_causes (loads file) ++ symbol_causes (symbols file))))
