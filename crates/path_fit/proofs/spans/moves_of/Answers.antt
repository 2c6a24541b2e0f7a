use Rattle.std.proofs.Common.{ltb, rules}
use Rattle.std.proofs.lemmas.List.Sorted.{IsPartitionPoint-from_clause, IsPartitionedBy-ltb}
use Rattle.code_flow_lookup.proofs.RunLemmas.{rest_rises, moves_ascend}
use Rattle.path_fit.proofs.PartLemmas.{moves_found}
use Rattle.path_fit.proofs.spans.moves_of.Goals as goal

pub returns : goal.returns
returns c =
    let up = moves_ascend _ c.requires in
    let start = IsPartitionPoint-from_clause (λ x. ltb x.at c.args.span.first) _ _ c.partition_point-start.ensures.partitioned (IsPartitionedBy-ltb (λ x. x.at) _ c.args.span.first up) (λ a r q k. search rules) in
    let count = IsPartitionPoint-from_clause (λ x. ltb x.at c.args.span.end) _ _ c.partition_point-count.ensures.partitioned (IsPartitionedBy-ltb (λ x. x.at) _ c.args.span.end (rest_rises (λ x. x.at) _ _ up)) (λ a r q k. search rules) in
    moves_found c.args.span _ _ _ c.partition_point-start.ensures.bound c.partition_point-count.ensures.bound start count
