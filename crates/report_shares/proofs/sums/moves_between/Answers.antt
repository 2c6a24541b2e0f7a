use Rattle.std.proofs.Common.{ltb, rules}
use Rattle.std.proofs.lemmas.List.Sorted.{IsPartitionPoint-from_clause, IsPartitionedBy-ltb}
use Rattle.code_flow_lookup.proofs.RunLemmas.{rest_rises, moves_ascend}
use Rattle.report_shares.proofs.BetweenLemmas.{found_between}
use Rattle.report_shares.proofs.sums.moves_between.Goals as goal

pub returns : goal.returns
returns c =
    let up = moves_ascend _ c.requires in
    let start = IsPartitionPoint-from_clause (λ m. ltb m.at c.args.first) _ _ c.partition_point-start.ensures.partitioned (IsPartitionedBy-ltb (λ m. m.at) _ c.args.first up) (λ a r q k. search rules) in
    let count = IsPartitionPoint-from_clause (λ m. ltb m.at c.args.end) _ _ c.partition_point-count.ensures.partitioned (IsPartitionedBy-ltb (λ m. m.at) _ c.args.end (rest_rises (λ m. m.at) _ _ up)) (λ a r q k. search rules) in
    found_between c.args.first c.args.end _ _ _ c.partition_point-start.ensures.bound c.partition_point-count.ensures.bound start count
