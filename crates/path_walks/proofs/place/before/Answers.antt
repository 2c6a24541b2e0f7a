use Rattle.std.specs.Prelude.{nat_lt}
use Rattle.std.proofs.Common.{rules}
use Rattle.std.proofs.lemmas.List.Sorted.{IsPartitionPoint-from_clause, IsPartitionedBy-ltb}
use Rattle.path_walks.proofs.PointLemmas.{before_is}
use Rattle.path_walks.proofs.place.before.Goals as goal

pub returns : goal.returns
returns c = before_is c.args.steps.now c.partition_point.result c.args.place c.partition_point.ensures.bound
    (IsPartitionPoint-from_clause (λ m. nat_lt m.at c.args.place) _ _ c.partition_point.ensures.partitioned (IsPartitionedBy-ltb (λ m. m.at) _ c.args.place c.requires) (λ a r q k. search rules))
