use Rattle.std.proofs.Common.{rules, FitsSigned, ◌∙◌, sym, subst, ℤ, ◌<◌, ◌^◌, unsigned_abs}
use mir.Val.{to_z, of_z}
use Rattle.std.specs.Int.{w128}
use Rattle.std.proofs.lemmas.Int.{to_z-of_z}
use Rattle.loop_worths.proofs.CodeLemmas.{onward_on, no_step}
use Rattle.loop_worths.proofs.walk.onward.Goals as goal

pub loop-k-preserved : goal.loop-k-preserved
loop-k-preserved c =
    let f : FitsSigned w128 c.onward_or-best.result = search rules in
    let e = to_z-of_z w128 c.onward_or-best.result f in (
      e ∙ onward_on (to_z w128 (of_z w128 c.args.low)) c.args.worths.now c.args.steps.now c.loop-k.k no_step _ c.onward_or-best.result c.loop-k-test.true c.loop-k.invariant.0 c.onward_or-best.ensures.value,
      subst (λ (z : ℤ). unsigned_abs z < 2 ^ 125) (sym e) c.onward_or-best.ensures.small,
    )
