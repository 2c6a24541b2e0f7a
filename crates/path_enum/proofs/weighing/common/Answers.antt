use Rattle.std.proofs.Common.{◌≤◌, sym, subst, All}
use Rattle.simplex_rounds.specs.declared.weighing.Weight.{Weight}
use Rattle.path_enum.proofs.WeightLemmas.{bottoms_most}
use Rattle.path_enum.proofs.weighing.common.Goals as goal

pub are_narrow-requires-clause-whole : goal.are_narrow-requires-clause-whole
are_narrow-requires-clause-whole c = subst (λ m. All (λ (w : Weight). w.bottom ≤ m) c.args.weights.now) (sym c.in_ok-all.ensures.0) (bottoms_most c.args.weights.now c.requires.positive)
