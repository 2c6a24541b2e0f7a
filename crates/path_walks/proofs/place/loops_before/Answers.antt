use Rattle.std.specs.Prelude.{nat_lt}
use Rattle.std.proofs.Common.{rules}
use Rattle.std.proofs.lemmas.List.Sorted.{IsPartitionPoint-from_clause, IsPartitionedBy-ltb}
use Rattle.path_walks.proofs.PointLemmas.{rises}
use Rattle.path_walks.proofs.place.loops_before.Goals as goal

pub returns-clause-point : goal.returns-clause-point
returns-clause-point c = IsPartitionPoint-from_clause (λ l. nat_lt l.header c.args.at) _ _ c.partition_point.ensures.partitioned (IsPartitionedBy-ltb (λ l. l.header) _ c.args.at (rises (λ l. l.header) _ c.requires)) (λ a r q k. search rules)
