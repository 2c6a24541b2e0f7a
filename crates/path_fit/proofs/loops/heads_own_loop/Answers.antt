use Rattle.std.proofs.Common.{ltb, arith, rules, refl, sym, ap, ◌∙◌, None, length, ◌<◌}
use Rattle.std.proofs.lemmas.List.{get_or_default}
use Rattle.std.proofs.lemmas.List.Sorted.{IsPartitionPoint-from_clause, IsPartitionedBy-ltb}
use Rattle.code_flow_system.specs.declared.shapes.LoopShape.{LoopShape}
use Rattle.path_fit.proofs.ShapeLemmas.{headers_order, heads_own, is_eq, eq_is}
use Rattle.path_fit.proofs.loops.heads_own_loop.Goals as goal

abbrev first_shape : LoopShape
first_shape = record { header = 0; back = 0; parent = None; first = 0; last = 0 }

pub returns-then-place-shapes : goal.returns-then-place-shapes
returns-then-place-shapes c =
    let point = IsPartitionPoint-from_clause (λ l. ltb l.header c.args.at) _ _ c.partition_point-place.ensures.partitioned (IsPartitionedBy-ltb (λ l. l.header) _ c.args.at (headers_order _ c.requires)) (λ a r q k. search rules) in (
      λ e. heads_own c.args.shapes.now c.args.at c.partition_point-place.result c.requires c.partition_point-place.ensures.bound point (λ lt d f. absurd (omega (arith, lt, c.if-place-shapes.true))),
      λ h. refl,
    )

pub returns-then-shapes-place : goal.returns-then-shapes-place
returns-then-shapes-place c =
    let point = IsPartitionPoint-from_clause (λ l. ltb l.header c.args.at) _ _ c.partition_point-place.ensures.partitioned (IsPartitionedBy-ltb (λ l. l.header) _ c.args.at (headers_order _ c.requires)) (λ a r q k. search rules) in
    let within : c.partition_point-place.result < length c.args.shapes.now = omega (arith, c.partition_point-place.ensures.bound, c.if-place-shapes.false) in (
      λ e. heads_own c.args.shapes.now c.args.at c.partition_point-place.result c.requires c.partition_point-place.ensures.bound point (λ lt d f. sym (ap (λ (l : LoopShape). l.back) (get_or_default c.args.shapes.now c.partition_point-place.result first_shape d lt)) ∙ is_eq _ _ e),
      λ h. eq_is _ _ (h c.partition_point-place.result first_shape within c.if-shapes-place.true),
    )

pub returns : goal.returns
returns c =
    let point = IsPartitionPoint-from_clause (λ l. ltb l.header c.args.at) _ _ c.partition_point-place.ensures.partitioned (IsPartitionedBy-ltb (λ l. l.header) _ c.args.at (headers_order _ c.requires)) (λ a r q k. search rules) in (
      λ e. heads_own c.args.shapes.now c.args.at c.partition_point-place.result c.requires c.partition_point-place.ensures.bound point (λ lt d f. absurd (c.if-shapes-place.false (ap (λ (l : LoopShape). l.header) (get_or_default c.args.shapes.now c.partition_point-place.result first_shape d lt) ∙ f))),
      λ h. refl,
    )
