use Rattle.std.proofs.Common.{ltb, arith, rules}
use Rattle.std.proofs.lemmas.List.Sorted.{IsPartitionPoint-from_clause, IsPartitionedBy-ltb}
use Rattle.rmt_update.proofs.CountingLaws.{count-at}
use Rattle.rmt_update.proofs.book.in_rows.below.Goals as goal

pub returns-clause-count : goal.returns-clause-count
returns-clause-count c =
    let parted = IsPartitionedBy-ltb (λ n. n) _ c.args.number c.requires in
    let point = IsPartitionPoint-from_clause (λ n. ltb n c.args.number) _ _ c.partition_point.ensures.partitioned parted (λ a r q k. search rules) in
    count-at (λ n. ltb n c.args.number) c.args.sorted.now c.partition_point.result c.partition_point.ensures.bound (λ k d lt low. point.0 k d (omega arith) low) (λ k d from lt. point.1 k d from lt)
