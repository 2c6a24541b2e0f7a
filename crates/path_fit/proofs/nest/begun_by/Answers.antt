use Rattle.std.specs.Prelude.{nat_le}
use Rattle.std.proofs.Common.{rules}
use Rattle.std.proofs.lemmas.List.Sorted.{IsPartitionPoint-from_clause, IsPartitionedBy-leb}
use Rattle.path_fit.proofs.NestLemmas.{firsts_ascend}
use Rattle.path_fit.proofs.nest.begun_by.Goals as goal

pub returns-clause-point : goal.returns-clause-point
returns-clause-point c =
    IsPartitionPoint-from_clause (λ l. nat_le l.first c.args.at) _ _ c.partition_point.ensures.partitioned (IsPartitionedBy-leb (λ l. l.first) _ c.args.at (firsts_ascend _ c.requires)) (λ a r q k. search rules)
