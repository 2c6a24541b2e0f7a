use Rattle.std.specs.Prelude.{nat_lt}
use Rattle.std.proofs.Common.{rules}
use Rattle.std.proofs.lemmas.List.Sorted.{IsPartitionPoint-from_clause, IsPartitionedBy-ltb}
use Rattle.code_flow_lookup.proofs.RunLemmas.{moves_ascend}
use Rattle.path_walks.proofs.PointLemmas.{place_is}
use Rattle.path_walks.proofs.place.place_of.Goals as goal

pub returns-clause-value : goal.returns-clause-value
returns-clause-value c = place_is c.args.moves.now c.partition_point.result c.args.at c.partition_point.ensures.bound
    (IsPartitionPoint-from_clause (λ m. nat_lt m.at c.args.at) _ _ c.partition_point.ensures.partitioned (IsPartitionedBy-ltb (λ m. m.at) _ c.args.at (moves_ascend _ c.requires)) (λ a r q k. search rules))

pub returns-clause-point : goal.returns-clause-point
returns-clause-point c = IsPartitionPoint-from_clause (λ m. nat_lt m.at c.args.at) _ _ c.partition_point.ensures.partitioned (IsPartitionedBy-ltb (λ m. m.at) _ c.args.at (moves_ascend _ c.requires)) (λ a r q k. search rules)
