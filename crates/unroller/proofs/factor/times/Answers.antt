use Rattle.std.proofs.Common.{arith}
use Rattle.unroller.proofs.Products.{wide_product}
use Rattle.unroller.proofs.factor.times.Goals as goal

pub overflow_mul-result : goal.overflow_mul-result
overflow_mul-result c =
    let few = wide_product c.from.result c.from-2.result c.args.count c.args.operations c.from.ensures c.from-2.ensures c.ranges.count.fits c.requires in omega (arith, few)

pub returns-clause-fits : goal.returns-clause-fits
returns-clause-fits c = wide_product c.from.result c.from-2.result c.args.count c.args.operations c.from.ensures c.from-2.ensures c.ranges.count.fits c.requires
