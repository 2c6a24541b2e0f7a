use Rattle.loop_walks.specs.Levels.{level_of}
use Rattle.path_walks.specs.Prices.{prices_of}
use Rattle.path_walks.proofs.SystemLemmas.{settling_start, is_function, settling_next}
use Rattle.path_walks.proofs.walks.settle_functions.Goals as goal

pub loop-i-init : goal.loop-i-init
loop-i-init c =
    let s = c.args.priced.system.now in
    settling_start s c.args.priced.shapes.now c.args.spans.now c.requires.whole (prices_of s c.args.priced.prices.now c.args.priced.low) (level_of c.args.worths.now c.args.weights.now) c.args.pairs.now c.requires.level c.requires.pairs c.requires.small

pub settle_function-requires-clause-function : goal.settle_function-requires-clause-function
settle_function-requires-clause-function c =
    let s = c.args.priced.system.now in
    is_function s c.args.priced.shapes.now c.args.spans.now c.requires.whole (prices_of s c.args.priced.prices.now c.args.priced.low) (level_of c.loop-i.worths c.loop-i.weights) c.loop-i.pairs c.loop-i.i (record { first = 0; end = 0 }) c.loop-i-test.true c.loop-i.invariant

pub loop-i-preserved : goal.loop-i-preserved
loop-i-preserved c =
    let s = c.args.priced.system.now in
    settling_next s c.args.priced.shapes.now c.args.spans.now c.requires.whole (prices_of s c.args.priced.prices.now c.args.priced.low) (level_of c.loop-i.worths c.loop-i.weights) c.loop-i.pairs c.loop-i.i (record { first = 0; end = 0 }) c.loop-i-test.true c.loop-i.invariant
    (level_of c.settle_function.new.worths c.settle_function.new.weights) c.settle_function.new.pairs c.in_ok-settle_function.ensures
