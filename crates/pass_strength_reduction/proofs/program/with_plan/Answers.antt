use Rattle.std.proofs.Common.{inr}
use Rattle.low_ir.specs.Programs.{low_of}
use Rattle.low_ir.specs.View.{program}
use Rattle.pass_strength_reduction_law.proofs.Formed.{formed}
use Rattle.pass_strength_reduction.proofs.program.with_plan.Goals as goal

pub invariant_of-result : goal.invariant_of-result
invariant_of-result c =
    let low = c.args.low in
    let made = program c.args.plan.functions.items c.args.plan.claims.items low.objects.items low.main low.marks in
    record { is_low = formed (low_of low) made c.requires.steps low.is_low }

pub returns : goal.returns
returns c = record { steps = inr c.requires.steps; room = c.requires.small }
