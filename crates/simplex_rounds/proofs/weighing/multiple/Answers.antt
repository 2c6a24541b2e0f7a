use Rattle.std.proofs.Common.{◌*◌, ◌/◌, ◌<◌, sym, subst}
use Rattle.simplex_rounds.proofs.Multiples.{gcd_positive, multiple_positive}
use Rattle.simplex_rounds.proofs.weighing.multiple.Goals as goal

pub nonzero_div-result : goal.nonzero_div-result
nonzero_div-result c = subst (λ k. 0 < k) (sym c.gcd.ensures) (gcd_positive c.args.all c.args.bottom c.requires.bottom)

pub returns-clause-positive : goal.returns-clause-positive
returns-clause-positive c = subst (λ k. 0 < (c.args.all / k) * c.args.bottom) (sym c.gcd.ensures) (multiple_positive c.args.all c.args.bottom c.requires.all c.requires.bottom)
