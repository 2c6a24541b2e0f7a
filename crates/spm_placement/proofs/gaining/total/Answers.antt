use Rattle.std.proofs.Common.{pos, arith}
use Rattle.spm_placement.proofs.GainLemmas.{parts_more, parts_none}
use Rattle.spm_placement.proofs.gaining.total.Goals as goal

pub loop-i-preserved : goal.loop-i-preserved
loop-i-preserved c =
    let step = parts_more c.args.parts.now c.loop-i.i (record { at = 0; number = 0; part = pos 0 }) c.loop-i-test.true in
    let before = c.loop-i.invariant in
    let number = c.number_of-all.ensures in
    omega (arith, step, before, number)

pub returns : goal.returns
returns c =
    let none = parts_none c.args.parts.now c.loop-i.i c.loop-i-test.false in
    let all = c.loop-i.invariant in
    omega (arith, none, all)

pub overflow_add-all : goal.overflow_add-all
overflow_add-all c =
    let step = parts_more c.args.parts.now c.loop-i.i (record { at = 0; number = 0; part = pos 0 }) c.loop-i-test.true in
    let before = c.loop-i.invariant in
    let number = c.number_of-all.ensures in
    let few = c.requires in
    omega (arith, step, before, number, few)
