use Rattle.std.specs.Cmp.{int_ranked}
use Rattle.frac128.proofs.FracLemmas.{held_product_is}
use Rattle.frac128.proofs.frac.Frac.cmp.Goals as goal

-- what is compared are the two products
pub returns-clause-value : goal.returns-clause-value
returns-clause-value c =
    let self = c.args.self.now in
    let other = c.args.other.now in
    let left = held_product_is self.num other.den c.in_ok-left.left self.num_small other.den_small c.in_ok-left.ensures in
    let right = held_product_is other.num self.den c.in_ok-right.right other.num_small self.den_small c.in_ok-right.ensures in
    int_ranked _ _ c.cmp.result (rw (← left, ← right) c.cmp.ensures)
