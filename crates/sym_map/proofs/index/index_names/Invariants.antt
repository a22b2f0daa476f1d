use Rattle.std.proofs.Common.{◌≤◌, drop, length}
use Rattle.sym_map.specs.Index.{IndexesNames}
use Rattle.sym_map.proofs.index.index_names.Given as goal

-- the names from here on
abbrev pub invariant-loop-left : goal.invariant-loop-left
invariant-loop-left l = record {
  within : l.left ≤ length l.symbols;
  told : IndexesNames l.index (drop l.left l.symbols);
}

abbrev pub decreases-loop-left : goal.decreases-loop-left
decreases-loop-left l = l.left
