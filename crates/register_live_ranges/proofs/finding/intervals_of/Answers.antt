use Rattle.std.proofs.Common.{◌≡◌, rules}
use Rattle.low_ir.specs.View.{function_of}
use Rattle.register_live_ranges.specs.Intervals.{parameters_widened}
use Rattle.register_live_ranges.proofs.Widening.{intervals_are}
use Rattle.register_live_ranges.proofs.finding.intervals_of.Goals as goal

pub returns : goal.returns
returns c =
    let fn = function_of c.args.function.now in
    let is : c.widen_parameters.new.intervals.items ≡ parameters_widened c.in_ok-intervals.intervals.items c.args.function.now.parameters.items = search rules in
    intervals_are fn c.in_ok-intervals.intervals.items c.widen_parameters.new.intervals.items c.in_ok-intervals.ensures.size c.in_ok-intervals.ensures.found is
