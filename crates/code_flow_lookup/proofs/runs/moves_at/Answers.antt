use Rattle.std.proofs.Common.{ltb, leb, rules}
use Rattle.std.proofs.lemmas.List.Sorted.{IsPartitionPoint-from_clause, IsPartitionedBy-ltb, IsPartitionedBy-leb}
use Rattle.code_flow_lookup.proofs.RunLemmas.{found, rest_rises, moves_ascend}
use Rattle.code_flow_lookup.proofs.runs.moves_at.Goals as goal

pub returns : goal.returns
returns c =
    let up = moves_ascend _ c.requires in
    let start = IsPartitionPoint-from_clause (λ x. ltb x.at c.args.at) _ _ c.partition_point-start.ensures.partitioned (IsPartitionedBy-ltb (λ x. x.at) _ c.args.at up) (λ a r q k. search rules) in
    let count = IsPartitionPoint-from_clause (λ x. leb x.at c.args.at) _ _ c.partition_point-count.ensures.partitioned (IsPartitionedBy-leb (λ x. x.at) _ c.args.at (rest_rises (λ x. x.at) _ _ up)) (λ a r q k. search rules) in
    found (λ x. x.at) c.args.at _ _ _ c.partition_point-start.ensures.bound c.partition_point-count.ensures.bound start count
