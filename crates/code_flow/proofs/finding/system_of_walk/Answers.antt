use Rattle.std.proofs.Common.{ap, sym, subst, ◌∙◌}
use Rattle.code_flow_system.specs.Moves.{code_by}
use Rattle.code_flow_system.specs.Systems.{IsSystemOf, IsBad}
use Rattle.code_flow.specs.Faults.{IsLeastOf, collected, least_no_code}
use Rattle.code_flow.proofs.ListLemmas.{if_ok}
use Rattle.code_flow.proofs.SystemLemmas.{first_bad_is, Passed, first_no_code, system_valid, system_right}
use Rattle.code_flow.proofs.finding.system_of_walk.Goals as goal

pub returns-in-Some-clause-err : goal.returns-in-Some-clause-err
returns-in-Some-clause-err c =
    subst (IsLeastOf (IsBad c.args.image.now c.args.claims.now)) (sym c.in-Some.ensures.value) (first_bad_is c.args.image.now c.args.claims.now c.args.walk.now c.requires.found)

pub returns-in-Some-least_no_code-clause-err : goal.returns-in-Some-least_no_code-clause-err
returns-in-Some-least_no_code-clause-err c =
    let passed : Passed c.args.image.now c.args.claims.now c.args.walk.now c.args.exits.now c.in-Ok.moves.items = record {
      found = c.requires.found;
      same = c.requires.same;
      no_bad = c.in_default.ensures.value;
      moves = c.in-Ok.ensures ∙ ap (collected (code_by c.args.image.now c.args.exits.now) 0) c.deref.ensures.value;
    } in
    first_no_code c.args.image.now c.args.claims.now c.args.walk.now c.args.exits.now c.in-Ok.moves.items passed c.in-Some-least_no_code.at
    (c.in-Some-least_no_code.ensures ∙ ap (least_no_code (code_by c.args.image.now c.args.exits.now) c.args.image.now.entry c.args.walk.now) c.deref-2.ensures.value)

pub finished-requires : goal.finished-requires
finished-requires c =
    let passed : Passed c.args.image.now c.args.claims.now c.args.walk.now c.args.exits.now c.in-Ok.moves.items = record {
      found = c.requires.found;
      same = c.requires.same;
      no_bad = c.in_default.ensures.value;
      moves = c.in-Ok.ensures ∙ ap (collected (code_by c.args.image.now c.args.exits.now) 0) c.deref.ensures.value;
    } in
    system_valid c.args.image.now c.args.claims.now c.args.walk.now c.args.exits.now c.in-Ok.moves.items passed
    (c.in_default-least_no_code.ensures ∙ ap (least_no_code (code_by c.args.image.now c.args.exits.now) c.args.image.now.entry c.args.walk.now) c.deref-2.ensures.value)

pub returns-clause-ok : goal.returns-clause-ok
returns-clause-ok c =
    let passed : Passed c.args.image.now c.args.claims.now c.args.walk.now c.args.exits.now c.in-Ok.moves.items = record {
      found = c.requires.found;
      same = c.requires.same;
      no_bad = c.in_default.ensures.value;
      moves = c.in-Ok.ensures ∙ ap (collected (code_by c.args.image.now c.args.exits.now) 0) c.deref.ensures.value;
    } in
    if_ok c.finished.result _ (IsSystemOf c.args.image.now c.args.claims.now) c.finished.ensures.ok (λ s e.
    subst (IsSystemOf c.args.image.now c.args.claims.now) (sym e)
    (system_right c.args.image.now c.args.claims.now c.args.walk.now c.args.exits.now c.in-Ok.moves.items passed
    (c.in_default-least_no_code.ensures ∙ ap (least_no_code (code_by c.args.image.now c.args.exits.now) c.args.image.now.entry c.args.walk.now) c.deref-2.ensures.value)))
