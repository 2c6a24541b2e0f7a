use Rattle.std.proofs.Common.{◌<◌, ◌≤◌, length, ap, sym, ◌∷◌, [], map, arith}
use Rattle.std.proofs.lemmas.List.{map-append}
use Rattle.c_tree.specs.View.{external_of as source_external}
use Rattle.types_tree.specs.View.{external_of, function_of}
use Rattle.types_rules.specs.Typing.{and_external, typed_function}
use Rattle.types_declaration.proofs.Rows.{all_after, all_faults, all_made, made_more, one_more}
use Rattle.c_types.proofs.Functions.{externals_walk, typed_function-before}
use Rattle.c_types.proofs.unit.check_externals.Goals as goal

pub loop-source-preserved : goal.loop-source-preserved
loop-source-preserved c =
    let i = c.loop-source.source-index in
    let x = c.source-item.result in
    let a = c.args.table.now in
    let now = c.loop-source.table in
    let next = c.check_external.new.table in
    let given = c.args.given.now in
    let found = c.in_ok-inner.ensures in
    let inside : i < length given = omega (arith, c.loop-source-test.true) in
    rw (c.in_ok-push.ensures, c.first_of-fault.ensures, map-append external_of c.loop-source.items.items (c.in_ok-inner.inner.item ∷ []), found.functions) (
      one_more externals_walk given a i x now next c.loop-source.fault c.in_ok-inner.inner.fault inside c.source-item.is c.loop-source.invariant.0 found.after found.fault,
      (
        made_more externals_walk and_external given a i x now next (map external_of c.loop-source.items.items) (external_of c.in_ok-inner.inner.item ∷ []) inside c.source-item.is c.loop-source.invariant.1.0 found.after (λ rest. ap (λ t. t ∷ rest) (sym found.item)),
        made_more externals_walk typed_function given a i x now next (map function_of c.loop-source.functions.items) (typed_function (source_external x) now []) inside c.source-item.is c.loop-source.invariant.1.1 found.after (λ rest. typed_function-before (source_external x) now rest),
      ),
    )

pub returns : goal.returns
returns c =
    let i = c.loop-source.source-index in
    let a = c.args.table.now in
    let now = c.loop-source.table in
    let given = c.args.given.now in
    let all : length given ≤ i = omega (arith, c.loop-source-test.false) in
    record {
      items = all_made externals_walk and_external given a i now (map external_of c.loop-source.items.items) all c.loop-source.invariant.1.0;
      functions = all_made externals_walk typed_function given a i now (map function_of c.loop-source.functions.items) all c.loop-source.invariant.1.1;
      fault = all_faults externals_walk given a i now c.loop-source.fault all c.loop-source.invariant.0;
      after = all_after externals_walk given a i now c.loop-source.fault all c.loop-source.invariant.0;
    }
