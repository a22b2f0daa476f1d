use Rattle.std.proofs.Common.{◌≤◌, drop, length}
use Rattle.sym_map.specs.Index.{IndexesAddrs}
use Rattle.sym_map.proofs.index.index_addrs.Given as goal

-- the addresses from here on
abbrev pub invariant-loop-left : goal.invariant-loop-left
invariant-loop-left l = record {
  within : l.left ≤ length l.symbols;
  told : IndexesAddrs l.index l.left (drop l.left l.symbols);
}

abbrev pub decreases-loop-left : goal.decreases-loop-left
decreases-loop-left l = l.left
