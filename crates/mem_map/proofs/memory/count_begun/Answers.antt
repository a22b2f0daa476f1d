use Rattle.std.proofs.Common.{leb, leb-true, leb-false, arith, rules}
use Rattle.std.proofs.lemmas.List.Sorted.{IsPartitionPoint-from_clause, IsPartitionedBy-leb}
use Rattle.mem_map.proofs.Numbering.{rising-bases}
use Rattle.mem_map.proofs.memory.count_begun.Goals as goal

pub returns : goal.returns
returns c =
    let parted = IsPartitionedBy-leb (λ p. p.segment.base) c.args.pieces.now c.args.addr (rising-bases c.args.pieces.now c.requires) in
    let point = IsPartitionPoint-from_clause (λ p. leb p.segment.base c.args.addr) _ _ c.partition_point.ensures.partitioned parted (λ a r q k. search rules) in
    record {
      within = c.partition_point.ensures.bound;
      low = λ k p lt. leb-true _ _ (point.0 k p (omega arith) lt);
      high = λ k p ge lt. leb-false _ _ (point.1 k p ge lt);
    }
