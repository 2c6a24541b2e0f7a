use Rattle.std.proofs.Common.{ap, sym, ◌∙◌, arith}
use Rattle.std.proofs.lemmas.List.{drop_all}
use Rattle.c_tree.specs.Tree.{Nothing}
use Rattle.c_types.specs.Tally.{tally_said}
use Rattle.c_types.proofs.Tallies.{external_tally, tally_each, tally_externals-each}
use Rattle.c_types.proofs.tally.tally_externals.Goals as goal

pub returns : goal.returns
returns c =
    let given = c.args.externals.now in
    sym (tally_externals-each Nothing given ∙ c.loop-external.invariant ∙ ap (λ xs. tally_each external_tally xs (tally_said c.loop-external.tally)) (drop_all c.loop-external.external-index given (omega (arith, c.loop-external-test.false))))
