use Rattle.std.proofs.Common.{◌≡◌, drop, map}
use Rattle.types_tree.specs.View.{external_of}
use Rattle.meaning_semantics.specs.Runs.{initialised_all}
use Rattle.c_meaning.specs.Scopes.{calls_of, source_of}
use Rattle.c_meaning.proofs.evaluation.initialize_all.Given as goal

abbrev pub invariant-loop-item : goal.invariant-loop-item
invariant-loop-item l =
    let all = initialised_all (source_of l.scope) (calls_of l.scope) in
    all (map external_of (drop l.item-index l.items)) l.state ≡ all (map external_of l.items) l.fn.state
