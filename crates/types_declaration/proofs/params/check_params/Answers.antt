use Rattle.std.proofs.Common.{refl, ap, sym, ◌∷◌, [], map, arith}
use Rattle.std.proofs.lemmas.List.{map-append}
use Rattle.types_tree.specs.View.{param_of}
use Rattle.types_rules.specs.Typing.{and_param}
use Rattle.types_declaration.proofs.ParamRows.{mere_walk}
use Rattle.types_declaration.proofs.Rows.{all_faults, all_made, made_more, one_more}
use Rattle.types_declaration.proofs.params.check_params.Goals as goal

pub loop-source-preserved : goal.loop-source-preserved
loop-source-preserved c =
    let i = c.loop-source.source-index in
    let x = c.source-item.result in
    let a = c.args.table.now in
    let found = c.in_ok-inner.ensures in
    let params = map param_of c.loop-source.params.items in
    rw (c.in_ok-push.ensures, c.first_of-fault.ensures, map-append param_of c.loop-source.params.items (c.in_ok-inner.inner.param ∷ [])) (
      one_more mere_walk c.args.given.now a i x a a c.loop-source.fault c.in_ok-inner.inner.fault (omega (arith, c.loop-source-test.true)) c.source-item.is c.loop-source.invariant.0 refl found.fault,
      made_more mere_walk and_param c.args.given.now a i x a a params (param_of c.in_ok-inner.inner.param ∷ []) (omega (arith, c.loop-source-test.true)) c.source-item.is c.loop-source.invariant.1 refl (λ rest. ap (λ t. t ∷ rest) (sym found.param)),
    )

pub returns : goal.returns
returns c =
    let i = c.loop-source.source-index in
    let a = c.args.table.now in
    record {
      params = all_made mere_walk and_param c.args.given.now a i a (map param_of c.loop-source.params.items) (omega (arith, c.loop-source-test.false)) c.loop-source.invariant.1;
      fault = all_faults mere_walk c.args.given.now a i a c.loop-source.fault (omega (arith, c.loop-source-test.false)) c.loop-source.invariant.0;
    }
