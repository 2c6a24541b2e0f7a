use Rattle.std.proofs.Common.{ltb, arith, rules, None, length, ◌<◌}
use Rattle.std.proofs.lemmas.List.Sorted.{IsPartitionPoint-from_clause, IsPartitionedBy-ltb}
use Rattle.code_flow_system.specs.declared.shapes.LoopShape.{LoopShape}
use Rattle.path_fit.proofs.ShapeLemmas.{headers_order, found_only, found_here, is_eq, eq_is}
use Rattle.path_fit.proofs.loops.is_back_of.Goals as goal

abbrev first_shape : LoopShape
first_shape = record { header = 0; back = 0; parent = None; first = 0; last = 0 }

pub returns-then-place-shapes : goal.returns-then-place-shapes
returns-then-place-shapes c = (
  λ e. cc,
  λ any.
      let point = IsPartitionPoint-from_clause (λ l. ltb l.header c.args.header) _ _ c.partition_point-place.ensures.partitioned (IsPartitionedBy-ltb (λ l. l.header) _ c.args.header (headers_order _ c.requires)) (λ a r q k. search rules) in
      let f = found_only c.args.shapes.now c.args.header c.args.at c.partition_point-place.result c.requires c.partition_point-place.ensures.bound point any in
      let lt = f.0 in absurd (omega (arith, lt, c.if-place-shapes.true)),
)

pub returns-then-shapes-place : goal.returns-then-shapes-place
returns-then-shapes-place c =
    let lt : c.partition_point-place.result < length c.args.shapes.now = omega (arith, c.partition_point-place.ensures.bound, c.if-place-shapes.false) in (
      λ e. found_here c.args.shapes.now c.args.header c.args.at c.partition_point-place.result first_shape lt c.if-shapes-place.true (is_eq _ _ e),
      λ any.
          let point = IsPartitionPoint-from_clause (λ l. ltb l.header c.args.header) _ _ c.partition_point-place.ensures.partitioned (IsPartitionedBy-ltb (λ l. l.header) _ c.args.header (headers_order _ c.requires)) (λ a r q k. search rules) in
          let f = found_only c.args.shapes.now c.args.header c.args.at c.partition_point-place.result c.requires c.partition_point-place.ensures.bound point any in
          eq_is _ _ (f.1 first_shape).1,
    )

pub returns-else-shapes-place : goal.returns-else-shapes-place
returns-else-shapes-place c = (
  λ e. absurd (c.if-shapes-place.false (is_eq _ _ e)),
  λ any.
      let point = IsPartitionPoint-from_clause (λ l. ltb l.header c.args.header) _ _ c.partition_point-place.ensures.partitioned (IsPartitionedBy-ltb (λ l. l.header) _ c.args.header (headers_order _ c.requires)) (λ a r q k. search rules) in
      let f = found_only c.args.shapes.now c.args.header c.args.at c.partition_point-place.result c.requires c.partition_point-place.ensures.bound point any in
      eq_is _ _ (f.1 first_shape).0,
)
