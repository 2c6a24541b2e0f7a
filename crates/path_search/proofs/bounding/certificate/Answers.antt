use Rattle.std.proofs.Common.{rules, ◌∙◌, sym, ap, subst}
use Rattle.std.specs.Int.{w128}
use Rattle.std.proofs.lemmas.Int.{to_z-of_z}
use Rattle.rv_core.specs.Table.{table_of}
use Rattle.path_sizes.proofs.RangeLemmas.{costs_ranged}
use Rattle.code_flow_system.specs.declared.cert.Flow.{Flow}
use Rattle.code_flow_system.specs.declared.cert.Mark.TheVariants.{Greatest, Empty}
use Rattle.code_flow_system.specs.Certificates.{AddressesAscend}
use Rattle.frac128.specs.Terms.{coefficient}
use Rattle.path_search.specs.Unmarked.{marked}
use Rattle.path_search.proofs.SearchLemmas.{found_addable, found_ascend, found_empty, found_small, found_amounts, found_greatest}
use Rattle.path_search.proofs.bounding.certificate.Goals as goal

pub settle_costs-requires-clause-small : goal.settle_costs-requires-clause-small
settle_costs-requires-clause-small c = (costs_ranged (table_of c.args.costs.now) c.args.system.now c.args.shapes.now c.args.spans.now c.requires.limited).walks

pub unmarked_cert-requires : goal.unmarked_cert-requires
unmarked_cert-requires c = found_addable (table_of c.args.costs.now) c.args.system.now c.args.shapes.now c.args.spans.now c.requires _ c.in_ok-settled.ensures.level c.in_ok-settled.ensures.pairs

pub potential-worth-requires : goal.potential-worth-requires
potential-worth-requires c = subst AddressesAscend (sym c.as_slice.ensures) (found_ascend (table_of c.args.costs.now) c.args.system.now c.args.shapes.now c.args.spans.now c.requires _ c.in_ok-settled.ensures.level c.in_ok-settled.ensures.pairs _ c.in_ok-cert.ensures)

pub returns-then-is_negative : goal.returns-then-is_negative
returns-then-is_negative c =
    c.marked.ensures ∙ (ap (λ (f : Flow). marked c.in_ok-cert.cert Empty 0 f) c.no_flow.ensures
    ∙ found_empty (table_of c.args.costs.now) c.args.system.now c.args.shapes.now c.args.spans.now c.requires _ c.in_ok-settled.ensures.level c.in_ok-settled.ensures.pairs _ c.in_ok-cert.ensures _ (to_z-of_z w128 c.potential-worth.result (search rules) ∙ (c.potential-worth.ensures ∙ (ap (λ ts. coefficient ts c.entry.result) c.as_slice.ensures ∙ ap (λ a. coefficient c.in_ok-cert.cert.potentials a) c.entry.ensures))) (c.is_negative.ensures.negative c.if-is_negative.true))

pub cost_flow-requires-clause-small : goal.cost_flow-requires-clause-small
cost_flow-requires-clause-small c = (costs_ranged (table_of c.args.costs.now) c.args.system.now c.args.shapes.now c.args.spans.now c.requires.limited).walks

pub cost_flow-requires-clause-fits : goal.cost_flow-requires-clause-fits
cost_flow-requires-clause-fits c = found_amounts (table_of c.args.costs.now) c.args.system.now c.args.shapes.now c.args.spans.now c.requires _ c.in_ok-settled.ensures.level c.in_ok-settled.ensures.pairs _ c.in_ok-cert.ensures _ (to_z-of_z w128 c.potential-worth.result (search rules) ∙ (c.potential-worth.ensures ∙ (ap (λ ts. coefficient ts c.entry.result) c.as_slice.ensures ∙ ap (λ a. coefficient c.in_ok-cert.cert.potentials a) c.entry.ensures))) (c.is_negative.ensures.other c.if-is_negative.false)

pub cycles-requires-clause-positive : goal.cycles-requires-clause-positive
cycles-requires-clause-positive c = c.is_negative.ensures.other c.if-is_negative.false

pub cycles-requires-clause-small : goal.cycles-requires-clause-small
cycles-requires-clause-small c = found_small (table_of c.args.costs.now) c.args.system.now c.args.shapes.now c.args.spans.now c.requires _ c.in_ok-settled.ensures.level c.in_ok-settled.ensures.pairs _ c.in_ok-cert.ensures _ (to_z-of_z w128 c.potential-worth.result (search rules) ∙ (c.potential-worth.ensures ∙ (ap (λ ts. coefficient ts c.entry.result) c.as_slice.ensures ∙ ap (λ a. coefficient c.in_ok-cert.cert.potentials a) c.entry.ensures)))

pub returns : goal.returns
returns c =
    c.marked-2.ensures ∙ (ap (λ (f : Flow). marked c.in_ok-cert.cert Greatest c.cycles.result f) c.one_flow.ensures
    ∙ found_greatest (table_of c.args.costs.now) c.args.system.now c.args.shapes.now c.args.spans.now c.requires _ c.in_ok-settled.ensures.level c.in_ok-settled.ensures.pairs _ c.in_ok-cert.ensures _ _ _ (to_z-of_z w128 c.potential-worth.result (search rules) ∙ (c.potential-worth.ensures ∙ (ap (λ ts. coefficient ts c.entry.result) c.as_slice.ensures ∙ ap (λ a. coefficient c.in_ok-cert.cert.potentials a) c.entry.ensures))) c.cycles.ensures c.in_ok-parts.ensures)
