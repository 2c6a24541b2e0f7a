use Rattle.std.proofs.Common.{rules, ◌∙◌, ◌<◌, ◌^◌, ap, sym, subst, ℤ}
use Rattle.std.specs.Int.{w128}
use Rattle.std.proofs.lemmas.Int.{to_z-of_z}
use Rattle.frac128.specs.Terms.{coefficient}
use Rattle.rv_core.specs.Table.{table_of}
use Rattle.code_flow_system.specs.Certificates.{whole_part}
use Rattle.path_cert.specs.Priced.{fact_price}
use Rattle.path_fact_walks.specs.Plain.{values_in}
use Rattle.path_fact_walks.proofs.OweLemmas.{some_of, items_of, plain_is, nevers_found, loops_found, cert_is, worth_found}
use Rattle.path_fact_walks.proofs.bounding.fact_cert.Goals as goal

pub unwrap-nevers-requires : goal.unwrap-nevers-requires
unwrap-nevers-requires c =
    let is = plain_is c.args.multiplied.system.now c.args.settled.now c.args.multiplied.scale c.args.multiplied.facts.now c.in_ok-cert.cert _ _ _ _ c.in_ok-cert.ensures c.in_ok-terms.ensures c.moves.ensures.value c.as_slice.ensures c.as_slice-pairs.ensures in
    some_of c.in_ok-never_multipliers.field-0 (λ v. v.items) _ _ (nevers_found (table_of c.args.multiplied.costs.now) c.args.multiplied.system.now c.args.multiplied.scale c.args.multiplied.facts.now (values_in c.args.settled.now) c.in_ok-cert.cert c.requires is) c.in_ok-never_multipliers.ensures

pub unwrap-loops-requires : goal.unwrap-loops-requires
unwrap-loops-requires c =
    let is = plain_is c.args.multiplied.system.now c.args.settled.now c.args.multiplied.scale c.args.multiplied.facts.now c.in_ok-cert.cert _ _ _ _ c.in_ok-cert.ensures c.in_ok-terms.ensures c.moves.ensures.value c.as_slice.ensures c.as_slice-pairs.ensures in
    some_of c.in_ok-loop_multipliers.field-0 (λ v. v.items) _ _ (loops_found (table_of c.args.multiplied.costs.now) c.args.multiplied.system.now c.args.multiplied.scale c.args.multiplied.facts.now (values_in c.args.settled.now) c.in_ok-cert.cert c.as_slice-pairs.result.now c.requires is c.as_slice-pairs.ensures) c.in_ok-loop_multipliers.ensures

pub cycles-requires-clause-small : goal.cycles-requires-clause-small
cycles-requires-clause-small c =
    let s = c.args.multiplied.system.now in
    let x = values_in c.args.settled.now in
    let price = fact_price (table_of c.args.multiplied.costs.now) s c.args.multiplied.scale c.args.multiplied.facts.now in
    let is = plain_is s c.args.settled.now c.args.multiplied.scale c.args.multiplied.facts.now c.in_ok-cert.cert _ _ _ _ c.in_ok-cert.ensures c.in_ok-terms.ensures c.moves.ensures.value c.as_slice.ensures c.as_slice-pairs.ensures in
    let z = worth_found s price c.args.multiplied.scale c.args.multiplied.facts.now x c.requires.system c.in_ok-cert.cert is _ (to_z-of_z w128 c.potential-worth.result (search rules) ∙ (c.potential-worth.ensures ∙ (ap (λ ts. coefficient ts c.entry.result) c.as_slice-2.ensures ∙ ap (λ a. coefficient c.in_ok-cert.cert.potentials a) c.entry.ensures))) in
    subst (λ (y : ℤ). whole_part y c.args.multiplied.scale < 2 ^ 63) (sym z) c.requires.cycles

pub returns : goal.returns
returns c =
    let s = c.args.multiplied.system.now in
    let x = values_in c.args.settled.now in
    let price = fact_price (table_of c.args.multiplied.costs.now) s c.args.multiplied.scale c.args.multiplied.facts.now in
    let is = plain_is s c.args.settled.now c.args.multiplied.scale c.args.multiplied.facts.now c.in_ok-cert.cert _ _ _ _ c.in_ok-cert.ensures c.in_ok-terms.ensures c.moves.ensures.value c.as_slice.ensures c.as_slice-pairs.ensures in
    let ns = items_of c.in_ok-never_multipliers.field-0 (λ v. v.items) _ _ _ (nevers_found (table_of c.args.multiplied.costs.now) s c.args.multiplied.scale c.args.multiplied.facts.now x c.in_ok-cert.cert c.requires is) c.in_ok-never_multipliers.ensures c.unwrap-nevers.ensures in
    let us = items_of c.in_ok-loop_multipliers.field-0 (λ v. v.items) _ _ _ (loops_found (table_of c.args.multiplied.costs.now) s c.args.multiplied.scale c.args.multiplied.facts.now x c.in_ok-cert.cert c.as_slice-pairs.result.now c.requires is c.as_slice-pairs.ensures) c.in_ok-loop_multipliers.ensures c.unwrap-loops.ensures in
    let z = worth_found s price c.args.multiplied.scale c.args.multiplied.facts.now x c.requires.system c.in_ok-cert.cert is _ (to_z-of_z w128 c.potential-worth.result (search rules) ∙ (c.potential-worth.ensures ∙ (ap (λ ts. coefficient ts c.entry.result) c.as_slice-2.ensures ∙ ap (λ a. coefficient c.in_ok-cert.cert.potentials a) c.entry.ensures))) in
    cert_is s price c.args.multiplied.scale c.args.multiplied.facts.now x c.in_ok-cert.cert _ _ _ is (c.cycles.ensures ∙ ap (λ y. whole_part y c.args.multiplied.scale) z) (c.new.ensures ∙ ns) (c.new-2.ensures ∙ us)
