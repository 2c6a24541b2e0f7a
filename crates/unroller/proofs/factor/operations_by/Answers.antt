use Rattle.unroller.proofs.Products.{long_sum, short_sum}
use Rattle.unroller.proofs.factor.operations_by.Goals as goal

pub returns-then-most-factor : goal.returns-then-most-factor
returns-then-most-factor c = short_sum c.args.factor c.args.most c.args.operations c.times-alone.result c.if-most-factor.true c.times-alone.ensures.product

pub returns : goal.returns
returns c = long_sum c.args.factor c.args.most c.args.operations c.times-first.result c.times-others.result c.if-most-factor.false c.times-first.ensures.product c.times-others.ensures.product
