use Rattle.std.proofs.Common.{leb, rules, ap, ◌∙◌, subst, sym, IfSome, true, ◌≡◌}
use Rattle.std.proofs.lemmas.List.Sorted.{IsPartitionPoint-from_clause, IsPartitionedBy-leb}
use Rattle.code_flow_system.specs.Claims.{is_filled}
use Rattle.code_flow_lookup.specs.Lines.{begun}
use Rattle.code_flow_lookup.proofs.RunLemmas.{rest_is}
use Rattle.code_flow_lookup.proofs.LineLemmas.{ends_ascend, line-found, line_filled}
use Rattle.code_flow_lookup.proofs.costs.line_at.Goals as goal

pub returns-clause-value : goal.returns-clause-value
returns-clause-value c =
    let point = IsPartitionPoint-from_clause (λ w. leb w.end c.args.at) _ _ c.partition_point-start.ensures.partitioned (IsPartitionedBy-leb (λ w. w.end) _ c.args.at (ends_ascend _ c.requires)) (λ a r q k. search rules) in
    c.begun.ensures ∙ ap (λ ws. begun ws c.args.at) (rest_is c.partition_point-start.result c.args.lines.now) ∙ line-found c.args.lines.now c.args.at c.partition_point-start.result c.requires c.partition_point-start.ensures.bound point

pub returns-clause-filled : goal.returns-clause-filled
returns-clause-filled c =
    let point = IsPartitionPoint-from_clause (λ w. leb w.end c.args.at) _ _ c.partition_point-start.ensures.partitioned (IsPartitionedBy-leb (λ w. w.end) _ c.args.at (ends_ascend _ c.requires)) (λ a r q k. search rules) in
    let e = c.begun.ensures ∙ ap (λ ws. begun ws c.args.at) (rest_is c.partition_point-start.result c.args.lines.now) ∙ line-found c.args.lines.now c.args.at c.partition_point-start.result c.requires c.partition_point-start.ensures.bound point in
    subst (λ o. IfSome o (λ w. is_filled w ≡ true)) (sym e) (line_filled _ c.args.lines.now c.args.at c.requires)
