use Rattle.std.proofs.Common.{◌≡◌, ap, arith, ◌∙◌}
use Rattle.low_ir.specs.Places.{kept_of, registers_of}
use Rattle.register_eval.proofs.file.kept_registers.Goals as goal

pub returns : goal.returns
returns c =
    let all : c.loop-number.number ≡ 24 = omega (arith, c.loop-number-test.false, c.loop-number.auto.number-end) in
    c.loop-number.invariant ∙ ap (λ n. kept_of (registers_of n c.args.mask) c.args.values.now) all
