use Rattle.std.specs.Prelude.{nat_le}
use Rattle.std.proofs.Common.{rules}
use Rattle.std.proofs.lemmas.List.Sorted.{IsPartitionPoint-from_clause, IsPartitionedBy-leb}
use Rattle.report_shares.proofs.PlaceLemmas.{ends_ascend}
use Rattle.report_shares.proofs.places.place_of.Goals as goal

pub returns-clause-point : goal.returns-clause-point
returns-clause-point c =
    IsPartitionPoint-from_clause (λ h. nat_le h.end c.args.at) _ _ c.partition_point.ensures.partitioned (IsPartitionedBy-leb (λ h. h.end) _ c.args.at (ends_ascend _ c.requires.shares c.requires.ascending)) (λ a r q k. search rules)
