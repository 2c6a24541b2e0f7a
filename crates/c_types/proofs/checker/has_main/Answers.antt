use Rattle.std.proofs.Common.{ap, sym, ◌∙◌, ◌||◌, ◌+◌, drop, arith}
use Rattle.std.proofs.lemmas.List.{drop_all}
use Rattle.c_tree.specs.Tree.{Nothing}
use Rattle.types_expression.proofs.Arguments.{drop_item}
use Rattle.c_types.proofs.Functions.{has_main-row, main_among}
use Rattle.c_types.proofs.checker.has_main.Goals as goal

pub returns-then-is_main : goal.returns-then-is_main
returns-then-is_main c =
    let main = c.args.main in
    let given = c.args.externals.now in
    let i = c.loop-external.external-index in
    let split = drop_item given i c.external-item.result (omega (arith, c.loop-external-test.true)) c.external-item.is in
    sym (has_main-row main Nothing given ∙ c.loop-external.invariant ∙ ap (main_among main) split ∙ ap (λ b. b || main_among main (drop (i + 1) given)) (sym c.is_main.ensures ∙ c.if-is_main.true))

pub returns : goal.returns
returns c =
    let main = c.args.main in
    let given = c.args.externals.now in
    sym (has_main-row main Nothing given ∙ c.loop-external.invariant ∙ ap (main_among main) (drop_all c.loop-external.external-index given (omega (arith, c.loop-external-test.false))))
