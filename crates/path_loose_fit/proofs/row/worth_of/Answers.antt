use Rattle.std.proofs.Common.{rules, ◌∙◌, ◌<◌, ◌^◌, sym, subst, ℤ, unsigned_abs, FitsSigned}
use Rattle.std.specs.Int.{w128}
use Rattle.std.proofs.lemmas.Int.{to_z-of_z}
use Rattle.path_loose_fit.proofs.FitLemmas.{worth_within, worth_small}
use Rattle.path_loose_fit.proofs.row.worth_of.Goals as goal

pub returns-clause-small : goal.returns-clause-small
returns-clause-small c =
    let f : FitsSigned w128 c.potential.result = search rules in
    subst (λ (z : ℤ). unsigned_abs z < 2 ^ 96) (sym (to_z-of_z w128 c.potential.result f ∙ c.potential.ensures)) (worth_small _ (worth_within c.args.places.now c.args.at c.requires.ascending c.requires.worths))
