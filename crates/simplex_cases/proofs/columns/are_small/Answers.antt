use Rattle.std.proofs.Common.{rules, ◌<◌, ◌^◌, pos, arith, unsigned_abs, get_or, FitsSigned}
use Rattle.std.specs.Int.{w128}
use Rattle.std.proofs.lemmas.Int.{to_z-of_z}
use Rattle.simplex_cases.proofs.SmallLemmas.{small_next}
use Rattle.simplex_cases.proofs.columns.are_small.Goals as goal

pub loop-i-preserved : goal.loop-i-preserved
loop-i-preserved c =
    let numbers = c.args.numbers.now in
    let fits : FitsSigned w128 (get_or c.args.numbers.now c.loop-i.i (pos 0)) = search rules in
    let e = to_z-of_z w128 (get_or c.args.numbers.now c.loop-i.i (pos 0)) fits in
    let here : unsigned_abs (get_or c.args.numbers.now c.loop-i.i (pos 0)) < 2 ^ 120 = grind (arith, c.unsigned_abs.ensures.value, c.if-unsigned_abs-ge-MOST.false, e) in
    small_next numbers c.loop-i.i (2 ^ 120) c.loop-i-test.true c.loop-i.invariant here

pub returns : goal.returns
returns c = λ e k d lt. c.loop-i.invariant k d (omega (arith, lt, c.loop-i-test.false))
