use Rattle.std.proofs.Common.{arith}
use Rattle.std.proofs.lemmas.Int.{ints}
use Rattle.frac128.proofs.SignedLemmas.{mul_positive}
use Rattle.frac128.proofs.FracLemmas.{held_product_is}
use Rattle.frac128.proofs.frac.Frac.add.Goals as goal

-- a product of positive denominators is positive
pub reduced-requires-clause-positive : goal.reduced-requires-clause-positive
reduced-requires-clause-positive c =
    let self = c.args.self.now in
    let other = c.args.other.now in
    rw (held_product_is self.den other.den c.in_ok-den.den self.den_small other.den_small c.in_ok-den.ensures) (mul_positive self.den other.den self.positive other.positive)

pub returns-clause-none : goal.returns-clause-none
returns-clause-none c = grind (arith, ints, c.in_ok-left.ensures, c.in_ok-right.ensures, c.in_ok-den.ensures, c.in_ok-num.ensures)
