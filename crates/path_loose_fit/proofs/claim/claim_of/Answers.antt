use Rattle.std.specs.Prelude.{nat_lt, nat_le}
use Rattle.std.proofs.Common.{rules}
use Rattle.std.proofs.lemmas.List.Sorted.{IsPartitionPoint-from_clause, IsPartitionedBy-ltb, IsPartitionedBy-leb}
use Rattle.path_loose_fit.proofs.ClaimLemmas.{rises, enclosed, missing}
use Rattle.path_loose_fit.proofs.claim.claim_of.Goals as goal

pub returns-then-first-end : goal.returns-then-first-end
returns-then-first-end c =
    let up = rises _ c.requires in
    let first = IsPartitionPoint-from_clause (λ x. nat_lt x.header c.args.header) _ _ c.partition_point-first.ensures.partitioned (IsPartitionedBy-ltb (λ x. x.header) _ c.args.header up) (λ a r q k. search rules) in
    let end = IsPartitionPoint-from_clause (λ x. nat_le x.header c.args.header) _ _ c.partition_point-end.ensures.partitioned (IsPartitionedBy-leb (λ x. x.header) _ c.args.header up) (λ a r q k. search rules) in
    enclosed c.args.loops.now c.args.header _ _ first end c.if-first-end.true c.partition_point-end.ensures.bound

pub returns-else-first-end : goal.returns-else-first-end
returns-else-first-end c =
    let up = rises _ c.requires in
    let first = IsPartitionPoint-from_clause (λ x. nat_lt x.header c.args.header) _ _ c.partition_point-first.ensures.partitioned (IsPartitionedBy-ltb (λ x. x.header) _ c.args.header up) (λ a r q k. search rules) in
    let end = IsPartitionPoint-from_clause (λ x. nat_le x.header c.args.header) _ _ c.partition_point-end.ensures.partitioned (IsPartitionedBy-leb (λ x. x.header) _ c.args.header up) (λ a r q k. search rules) in
    missing c.args.loops.now c.args.header _ _ first end c.if-first-end.false
