use Rattle.std.proofs.Common.{◌∙◌, sym, subst, length}
use Rattle.std.specs.List.Sorted.{IsNonDecreasingBy}
use Rattle.loop_walks.specs.declared.step.Step.{Step}
use Rattle.path_walks.proofs.PointLemmas.{steps_rise}
use Rattle.path_walks.proofs.SoundLemmas.{shapes_rise}
use Rattle.path_walks.proofs.walks.settle_function.Goals as goal

pub loops-requires-clause-steps : goal.loops-requires-clause-steps
loops-requires-clause-steps c = subst (λ xs. IsNonDecreasingBy (λ (m : Step). m.at) xs) (sym (c.deref.ensures.value ∙ c.in_ok-steps.ensures)) (steps_rise (length c.args.priced.system.now.moves) _ c.requires.function.steps)

pub deal-requires-clause-headers : goal.deal-requires-clause-headers
deal-requires-clause-headers c = shapes_rise c.args.priced.system.now.claims c.args.priced.shapes.now c.moves.ensures.valid.sound c.requires.function.system.shapes
