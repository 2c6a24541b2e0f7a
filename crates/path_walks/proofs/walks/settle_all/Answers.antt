use Rattle.std.proofs.Common.{◌∙◌}
use Rattle.path_walks.proofs.SystemLemmas.{pairs-begin}
use Rattle.path_walks.proofs.walks.settle_all.Goals as goal

pub settle_functions-requires-clause-pairs : goal.settle_functions-requires-clause-pairs
settle_functions-requires-clause-pairs c = c.deref_mut-3.ensures.value ∙ (c.in_ok-pairs.ensures.items_if_clones_equal (λ y h. cc) ∙ pairs-begin c.args.priced.shapes.now)
