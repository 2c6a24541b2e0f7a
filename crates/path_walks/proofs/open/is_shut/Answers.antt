use Rattle.std.specs.Prelude.{nat_lt, ◌==◌, ◌&&◌}
use Rattle.std.proofs.Common.{rules, arith, ap, sym, ◌∙◌, Bool, length, get_or, ◌<◌, ◌≤◌}
use Rattle.std.proofs.lemmas.List.Sorted.{IsPartitionPoint-from_clause, IsPartitionedBy-ltb}
use Rattle.code_flow_system.specs.declared.claims.LoopClaim.{LoopClaim}
use Rattle.path_walks.proofs.PointLemmas.{rises, shut_any, any_missing, any_found, is_eq, not_eq, and_same}
use Rattle.path_walks.proofs.open.is_shut.Goals as goal

abbrev no_claim : LoopClaim
no_claim = record { source = 0; factor = 0; min = 0; max = 0; header = 0; back = 0 }

pub returns-then-place-loops : goal.returns-then-place-loops
returns-then-place-loops c =
    let point = IsPartitionPoint-from_clause (λ x. nat_lt x.header c.args.at) _ _ c.partition_point-place.ensures.partitioned (IsPartitionedBy-ltb (λ x. x.header) _ c.args.at (rises (λ x. x.header) _ c.requires)) (λ a r q k. search rules) in
    let all : length c.args.loops.now ≤ c.partition_point-place.result = let e = c.if-place-loops.true in omega (arith, e) in
    sym (shut_any c.args.loops.now c.args.at ∙ any_missing (λ (x : LoopClaim). x.header) (λ (x : LoopClaim). x.max == 0) c.args.loops.now c.partition_point-place.result c.args.at all point)

pub returns-then-loops-place : goal.returns-then-loops-place
returns-then-loops-place c =
    let point = IsPartitionPoint-from_clause (λ x. nat_lt x.header c.args.at) _ _ c.partition_point-place.ensures.partitioned (IsPartitionedBy-ltb (λ x. x.header) _ c.args.at (rises (λ x. x.header) _ c.requires)) (λ a r q k. search rules) in
    let some : c.partition_point-place.result < length c.args.loops.now = omega (arith, c.partition_point-place.ensures.bound, c.if-place-loops.false) in
    let x = get_or c.args.loops.now c.partition_point-place.result no_claim in
    ap (λ (t : Bool). t && (x.max == 0)) (sym (is_eq x.header c.args.at c.if-loops-place.true))
    ∙ sym (shut_any c.args.loops.now c.args.at ∙ any_found (λ (y : LoopClaim). y.header) (λ (y : LoopClaim). y.max == 0) c.args.loops.now c.partition_point-place.result c.args.at no_claim c.requires some point)

pub returns-else-loops-place : goal.returns-else-loops-place
returns-else-loops-place c =
    let point = IsPartitionPoint-from_clause (λ x. nat_lt x.header c.args.at) _ _ c.partition_point-place.ensures.partitioned (IsPartitionedBy-ltb (λ x. x.header) _ c.args.at (rises (λ x. x.header) _ c.requires)) (λ a r q k. search rules) in
    let some : c.partition_point-place.result < length c.args.loops.now = omega (arith, c.partition_point-place.ensures.bound, c.if-place-loops.false) in
    let x = get_or c.args.loops.now c.partition_point-place.result no_claim in
    and_same (x.header == c.args.at) (x.max == 0) (not_eq x.header c.args.at c.if-loops-place.false)
    ∙ sym (shut_any c.args.loops.now c.args.at ∙ any_found (λ (y : LoopClaim). y.header) (λ (y : LoopClaim). y.max == 0) c.args.loops.now c.partition_point-place.result c.args.at no_claim c.requires some point)
