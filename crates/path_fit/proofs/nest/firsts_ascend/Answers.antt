use Rattle.std.proofs.Common.{◌-◌, ◌<◌, get_or, ap, arith, None, rules}
use Rattle.std.proofs.lemmas.List.{get_or_default}
use Rattle.std.proofs.lemmas.List.Sorted.{all_adjacent_more}
use Rattle.code_flow_system.specs.declared.shapes.LoopShape.{LoopShape}
use Rattle.path_fit.proofs.nest.firsts_ascend.Goals as goal

abbrev first_shape : LoopShape
first_shape = record { header = 0; back = 0; parent = None; first = 0; last = 0 }

pub loop-i-preserved : goal.loop-i-preserved
loop-i-preserved c =
    let up : (get_or c.args.shapes.now (c.loop-i.i - 1) first_shape).first < (get_or c.args.shapes.now c.loop-i.i first_shape).first = search rules in
    all_adjacent_more c.args.shapes.now (λ k m. k.first < m.first) c.loop-i.i (omega (arith, c.loop-i.auto.i)) c.loop-i.invariant
    (λ d.
    let e = ap (λ (l : LoopShape). l.first) (get_or_default c.args.shapes.now (c.loop-i.i - 1) d first_shape (omega (arith, c.loop-i-test.true))) in
    let f = ap (λ (l : LoopShape). l.first) (get_or_default c.args.shapes.now c.loop-i.i d first_shape c.loop-i-test.true) in
    omega (arith, e, f, up))
