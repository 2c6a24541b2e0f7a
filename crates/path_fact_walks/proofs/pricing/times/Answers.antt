use Rattle.std.proofs.Common.{◌≤◌, ◌^◌, sym, subst, ℤ, unsigned_abs}
use Rattle.path_fact_walks.proofs.SizeLemmas.{product_small, product_is}
use Rattle.path_fact_walks.proofs.pricing.times.Goals as goal

pub returns-clause-value : goal.returns-clause-value
returns-clause-value c = product_is c.args.multiplier c.args.number c.ranges.multiplier c.ranges.number c.requires.multiplier c.requires.number

pub returns-clause-small : goal.returns-clause-small
returns-clause-small c =
    subst (λ (z : ℤ). unsigned_abs z ≤ 2 ^ 109) (sym (product_is c.args.multiplier c.args.number c.ranges.multiplier c.ranges.number c.requires.multiplier c.requires.number)) (product_small c.args.multiplier c.args.number c.requires.multiplier c.requires.number)
