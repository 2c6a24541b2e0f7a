use Rattle.std.proofs.Common.{ltb, arith, rules, length, ◌<◌}
use Rattle.std.proofs.lemmas.List.Sorted.{IsPartitionPoint-from_clause, IsPartitionedBy-ltb}
use Rattle.code_flow_system.specs.declared.shapes.Span.{Span}
use Rattle.path_fit.proofs.ShapeLemmas.{is_eq, eq_is}
use Rattle.path_fit.proofs.ApartLemmas.{order_ascends, found_first, first_here}
use Rattle.path_fit.proofs.spans.begins_in_order.Goals as goal

abbrev first_span : Span
first_span = record { first = 0; end = 0 }

pub returns-then-place-spans : goal.returns-then-place-spans
returns-then-place-spans c = (
  λ e. cc,
  λ any.
      let up = order_ascends c.args.spans.now c.requires in
      let point = IsPartitionPoint-from_clause (λ p. ltb p.first c.args.at) _ _ c.partition_point-place.ensures.partitioned (IsPartitionedBy-ltb (λ p. p.first) _ c.args.at up) (λ a r q k. search rules) in
      let f = found_first c.args.spans.now c.args.at c.partition_point-place.result up point any in
      let lt = f.0 in absurd (omega (arith, lt, c.if-place-spans.true)),
)

pub returns : goal.returns
returns c =
    let lt : c.partition_point-place.result < length c.args.spans.now = omega (arith, c.partition_point-place.ensures.bound, c.if-place-spans.false) in (
      λ e. first_here c.args.spans.now c.args.at c.partition_point-place.result first_span lt (is_eq _ _ e),
      λ any.
          let up = order_ascends c.args.spans.now c.requires in
          let point = IsPartitionPoint-from_clause (λ p. ltb p.first c.args.at) _ _ c.partition_point-place.ensures.partitioned (IsPartitionedBy-ltb (λ p. p.first) _ c.args.at up) (λ a r q k. search rules) in
          let f = found_first c.args.spans.now c.args.at c.partition_point-place.result up point any in
          eq_is _ _ (f.1 first_span),
    )
