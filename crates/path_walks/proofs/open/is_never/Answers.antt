use Rattle.std.specs.Prelude.{nat_lt}
use Rattle.std.proofs.Common.{rules, arith, sym, ◌∙◌, true, length, ◌<◌, ◌≤◌}
use Rattle.std.proofs.lemmas.List.Sorted.{IsPartitionPoint-from_clause, IsPartitionedBy-ltb}
use Rattle.code_flow_system.specs.declared.claims.Never.{Never}
use Rattle.path_walks.proofs.PointLemmas.{rises, never_any, any_missing, any_found, plain}
use Rattle.path_walks.proofs.open.is_never.Goals as goal

pub returns-then-place-nevers : goal.returns-then-place-nevers
returns-then-place-nevers c =
    let point = IsPartitionPoint-from_clause (λ x. nat_lt x.at c.args.at) _ _ c.partition_point-place.ensures.partitioned (IsPartitionedBy-ltb (λ x. x.at) _ c.args.at (rises (λ x. x.at) _ c.requires)) (λ a r q k. search rules) in
    let all : length c.args.nevers.now ≤ c.partition_point-place.result = let e = c.if-place-nevers.true in omega (arith, e) in
    sym (never_any c.args.nevers.now c.args.at ∙ any_missing (λ (x : Never). x.at) (λ x. true) c.args.nevers.now c.partition_point-place.result c.args.at all point)

pub returns : goal.returns
returns c =
    let point = IsPartitionPoint-from_clause (λ x. nat_lt x.at c.args.at) _ _ c.partition_point-place.ensures.partitioned (IsPartitionedBy-ltb (λ x. x.at) _ c.args.at (rises (λ x. x.at) _ c.requires)) (λ a r q k. search rules) in
    let some : c.partition_point-place.result < length c.args.nevers.now = omega (arith, c.partition_point-place.ensures.bound, c.if-place-nevers.false) in
    sym (never_any c.args.nevers.now c.args.at ∙ (any_found (λ (x : Never). x.at) (λ x. true) c.args.nevers.now c.partition_point-place.result c.args.at (record { source = 0; factor = 0; at = 0 }) c.requires some point ∙ plain _))
