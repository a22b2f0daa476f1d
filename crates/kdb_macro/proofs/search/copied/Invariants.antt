use Rattle.std.proofs.Common.{◌≡◌, take}
use Rattle.kdb_macro.proofs.search.copied.Given as goal

-- the macros so far
abbrev pub invariant-loop-lines : goal.invariant-loop-lines
invariant-loop-lines l = l.copy.items ≡ take l.lines-index l.macros
