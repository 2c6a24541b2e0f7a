use Rattle.std.proofs.Common.{ltb, leb, rules}
use Rattle.std.proofs.lemmas.List.Sorted.{IsPartitionPoint-from_clause, IsPartitionedBy-ltb, IsPartitionedBy-leb}
use Rattle.code_flow_lookup.proofs.RunLemmas.{rest_rises}
use Rattle.path_fit.proofs.PartLemmas.{arrivals_found}
use Rattle.path_fit.proofs.loops.arrivals_in.Goals as goal

pub returns : goal.returns
returns c =
    let up = c.requires in
    let start = IsPartitionPoint-from_clause (λ x. ltb x.to c.args.first) _ _ c.partition_point-start.ensures.partitioned (IsPartitionedBy-ltb (λ x. x.to) _ c.args.first up) (λ a r q k. search rules) in
    let count = IsPartitionPoint-from_clause (λ x. leb x.to c.args.last) _ _ c.partition_point-count.ensures.partitioned (IsPartitionedBy-leb (λ x. x.to) _ c.args.last (rest_rises (λ x. x.to) _ _ up)) (λ a r q k. search rules) in
    arrivals_found c.args.first c.args.last _ _ _ c.partition_point-start.ensures.bound c.partition_point-count.ensures.bound start count
