use Rattle.std.proofs.Common.{◌∙◌}
use Rattle.rv_core.specs.Table.{table_of}
use Rattle.path_search.specs.Unmarked.{values_in}
use Rattle.path_search.proofs.SearchLemmas.{some_of, items_of, unmarked_by, plain_is, nevers_found, loops_found}
use Rattle.path_search.proofs.unmarked.unmarked_cert.Goals as goal

pub unwrap-nevers-requires : goal.unwrap-nevers-requires
unwrap-nevers-requires c =
    let is = plain_is c.args.system.now c.args.settled.now c.in_ok-cert.cert _ _ _ _ c.in_ok-cert.ensures c.in_ok-terms.ensures c.moves.ensures.value c.as_slice.ensures c.as_slice-pairs.ensures in
    some_of c.in_ok-never_multipliers.field-0 (λ v. v.items) _ _ (nevers_found (table_of c.args.costs.now) c.args.system.now (values_in c.args.settled.now) c.in_ok-cert.cert c.requires is) c.in_ok-never_multipliers.ensures

pub unwrap-loops-requires : goal.unwrap-loops-requires
unwrap-loops-requires c =
    let is = plain_is c.args.system.now c.args.settled.now c.in_ok-cert.cert _ _ _ _ c.in_ok-cert.ensures c.in_ok-terms.ensures c.moves.ensures.value c.as_slice.ensures c.as_slice-pairs.ensures in
    some_of c.in_ok-loop_multipliers.field-0 (λ v. v.items) _ _ (loops_found (table_of c.args.costs.now) c.args.system.now (values_in c.args.settled.now) c.in_ok-cert.cert c.requires is c.as_slice-pairs.result.now c.as_slice-pairs.ensures) c.in_ok-loop_multipliers.ensures

pub returns : goal.returns
returns c =
    let is = plain_is c.args.system.now c.args.settled.now c.in_ok-cert.cert _ _ _ _ c.in_ok-cert.ensures c.in_ok-terms.ensures c.moves.ensures.value c.as_slice.ensures c.as_slice-pairs.ensures in
    let ns = items_of c.in_ok-never_multipliers.field-0 (λ v. v.items) _ _ _ (nevers_found (table_of c.args.costs.now) c.args.system.now (values_in c.args.settled.now) c.in_ok-cert.cert c.requires is) c.in_ok-never_multipliers.ensures c.unwrap-nevers.ensures in
    let us = items_of c.in_ok-loop_multipliers.field-0 (λ v. v.items) _ _ _ (loops_found (table_of c.args.costs.now) c.args.system.now (values_in c.args.settled.now) c.in_ok-cert.cert c.requires is c.as_slice-pairs.result.now c.as_slice-pairs.ensures) c.in_ok-loop_multipliers.ensures c.unwrap-loops.ensures in
    unmarked_by (table_of c.args.costs.now) c.args.system.now (values_in c.args.settled.now) c.in_ok-cert.cert _ _ is (c.new.ensures ∙ ns) (c.new-2.ensures ∙ us)
