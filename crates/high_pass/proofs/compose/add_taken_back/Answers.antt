use Rattle.std.proofs.Common.{arith, get_or}
use Rattle.high_pass.specs.Composing.{no_origin}
use Rattle.high_pass.proofs.Continuing.{product_within}
use Rattle.high_pass.proofs.compose.add_taken_back.Goals as goal

pub overflow_mul-origin : goal.overflow_mul-origin
overflow_mul-origin c =
    let i = c.loop-never.never-index in
    let never = get_or c.args.nevers.now i (record { mark = 0; old = 0; factor = 0 }) in
    omega (arith, product_within (get_or c.args.origins.now never.old no_origin).factor never.factor 67108863 64 (c.requires.small i (record { mark = 0; old = 0; factor = 0 }) c.loop-never-test.true) (c.requires.factors i (record { mark = 0; old = 0; factor = 0 }) c.loop-never-test.true))
