use Rattle.std.specs.Prelude.{nat_le}
use Rattle.std.proofs.Common.{rules, arith, ◌+◌}
use Rattle.std.proofs.lemmas.List.Sorted.{IsPartitionPoint-from_clause, IsPartitionedBy-leb}
use Rattle.code_flow_lookup.proofs.RunLemmas.{moves_ascend}
use Rattle.path_places.proofs.PlaceLemmas.{place_up}
use Rattle.path_walks.proofs.PointLemmas.{behind_is}
use Rattle.path_walks.proofs.place.place_behind.Goals as goal

pub returns-clause-value : goal.returns-clause-value
returns-clause-value c = behind_is c.args.moves.now c.partition_point.result c.args.at c.partition_point.ensures.bound
    (IsPartitionPoint-from_clause (λ m. nat_le m.at c.args.at) _ _ c.partition_point.ensures.partitioned (IsPartitionedBy-leb (λ m. m.at) _ c.args.at (moves_ascend _ c.requires)) (λ a r q k. search rules))

pub returns-clause-point : goal.returns-clause-point
returns-clause-point c = IsPartitionPoint-from_clause (λ m. nat_le m.at c.args.at) _ _ c.partition_point.ensures.partitioned (IsPartitionedBy-leb (λ m. m.at) _ c.args.at (moves_ascend _ c.requires)) (λ a r q k. search rules)

pub returns-clause-from : goal.returns-clause-from
returns-clause-from c =
    let e = behind_is c.args.moves.now c.partition_point.result c.args.at c.partition_point.ensures.bound
    (IsPartitionPoint-from_clause (λ m. nat_le m.at c.args.at) _ _ c.partition_point.ensures.partitioned (IsPartitionedBy-leb (λ m. m.at) _ c.args.at (moves_ascend _ c.requires)) (λ a r q k. search rules)) in
    let u = place_up c.args.moves.now c.args.at (c.args.at + 1) (omega arith) in
    omega (arith, e, u)
