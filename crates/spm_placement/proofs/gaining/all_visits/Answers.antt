use Rattle.std.proofs.Common.{arith}
use Rattle.spm_placement.proofs.GainLemmas.{visits_more, visits_none}
use Rattle.spm_placement.proofs.gaining.all_visits.Goals as goal

pub loop-i-preserved : goal.loop-i-preserved
loop-i-preserved c =
    let step = visits_more c.args.parts.now c.args.places.now c.loop-i.i c.loop-i-test.true in
    let before = c.loop-i.invariant in
    let often = c.visits-all.ensures in
    omega (arith, step, before, often)

pub returns : goal.returns
returns c =
    let none = visits_none c.args.parts.now c.args.places.now c.loop-i.i c.loop-i-test.false in
    let all = c.loop-i.invariant in
    omega (arith, none, all)

pub overflow_add-all : goal.overflow_add-all
overflow_add-all c =
    let step = visits_more c.args.parts.now c.args.places.now c.loop-i.i c.loop-i-test.true in
    let before = c.loop-i.invariant in
    let often = c.visits-all.ensures in
    let few = c.requires.few in
    omega (arith, step, before, often, few)

pub visits-all-requires-clause-few : goal.visits-all-requires-clause-few
visits-all-requires-clause-few c =
    let step = visits_more c.args.parts.now c.args.places.now c.loop-i.i c.loop-i-test.true in
    let before = c.loop-i.invariant in
    let few = c.requires.few in
    omega (arith, step, before, few)
