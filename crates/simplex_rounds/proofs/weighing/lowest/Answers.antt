use Rattle.std.proofs.Common.{◌/◌, ◌<◌, sym, subst}
use Rattle.simplex_rounds.proofs.Multiples.{gcd_positive, part_positive}
use Rattle.simplex_rounds.proofs.weighing.lowest.Goals as goal

pub nonzero_div-result : goal.nonzero_div-result
nonzero_div-result c = subst (λ k. 0 < k) (sym c.gcd-divisor.ensures) (gcd_positive c.args.top c.args.bottom c.requires)

pub nonzero_div-result-2 : goal.nonzero_div-result-2
nonzero_div-result-2 c = subst (λ k. 0 < k) (sym c.gcd-divisor.ensures) (gcd_positive c.args.top c.args.bottom c.requires)

pub returns-clause-positive : goal.returns-clause-positive
returns-clause-positive c = subst (λ k. 0 < c.args.bottom / k) (sym c.gcd-divisor.ensures) (part_positive c.args.top c.args.bottom c.requires)
