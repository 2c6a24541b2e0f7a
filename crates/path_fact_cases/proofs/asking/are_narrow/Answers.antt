use Rattle.std.proofs.Common.{rules, ◌+◌, ◌*◌, ◌≤◌, ◌^◌, subst, ℤ, pos, get_or, unsigned_abs, FitsSigned}
use Rattle.std.specs.Int.{w128}
use Rattle.std.proofs.lemmas.Int.{to_z-of_z}
use Rattle.path_fact_cases.proofs.AskLemmas.{numbers_next, numbers_end}
use Rattle.path_fact_cases.proofs.asking.are_narrow.Goals as goal

pub loop-i-preserved : goal.loop-i-preserved
loop-i-preserved c =
    let f : FitsSigned w128 (get_or c.args.numbers.now c.loop-i.i (pos 0)) = search rules in
    let here = subst (λ (z : ℤ). unsigned_abs z * (c.args.loops + 1) ≤ 2 ^ 44) (to_z-of_z w128 (get_or c.args.numbers.now c.loop-i.i (pos 0)) f) (c.is_narrow.ensures c.if-not-is_narrow.false) in
    numbers_next (λ (z : ℤ). unsigned_abs z * (c.args.loops + 1) ≤ 2 ^ 44) c.args.numbers.now c.loop-i.i c.loop-i-test.true here c.loop-i.invariant

pub returns : goal.returns
returns c = λ yes. numbers_end (λ (z : ℤ). unsigned_abs z * (c.args.loops + 1) ≤ 2 ^ 44) c.args.numbers.now c.loop-i.i c.loop-i-test.false c.loop-i.invariant
