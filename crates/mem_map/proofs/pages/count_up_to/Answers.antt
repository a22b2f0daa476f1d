use Rattle.std.proofs.Common.{leb, leb-true, leb-false, arith, rules}
use Rattle.std.proofs.lemmas.List.Sorted.{IsPartitionPoint-from_clause, IsPartitionedBy-leb}
use Rattle.mem_map.proofs.pages.count_up_to.Goals as goal

pub returns : goal.returns
returns c =
    let parted = IsPartitionedBy-leb (λ n. n) c.args.firsts.now c.args.page c.requires in
    let point = IsPartitionPoint-from_clause (λ n. leb n c.args.page) _ _ c.partition_point.ensures.partitioned parted (λ a r q k. search rules) in
    record {
      within = c.partition_point.ensures.bound;
      low = λ k lt. leb-true _ _ (point.0 k 0 (omega arith) lt);
      high = λ k ge lt. leb-false _ _ (point.1 k 0 ge lt);
    }
