use Rattle.std.proofs.Common.{ltb, arith, rules}
use Rattle.std.proofs.lemmas.Bool.{ltb-true, ltb-false}
use Rattle.std.proofs.lemmas.List.Sorted.{IsPartitionPoint-from_clause, IsPartitionedBy-ltb}
use Rattle.rmt_ptcam.specs.Types.{ParserEntry}
use Rattle.rmt_ptcam.proofs.parse.search.first_entry.Goals as goal

pub returns : goal.returns
returns c =
    let parted = IsPartitionedBy-ltb (λ (e : ParserEntry). e.state) _ c.args.state c.requires in
    let point = IsPartitionPoint-from_clause (λ (e : ParserEntry). ltb e.state c.args.state) _ _ c.partition_point.ensures.partitioned parted (λ a r q k. search rules) in
    record { before = λ k d h. ltb-true _ _ (point.0 k d (omega arith) h); behind = λ k d from h. ltb-false _ _ (point.1 k d from h) }
