use Rattle.std.proofs.Common.{sym, ◌∙◌}
use Rattle.low_ir.specs.View.{end_of, function_of}
use Rattle.pass_jump_threading.specs.Facts.{known_in}
use Rattle.pass_jump_threading.proofs.Blocks.{end_settled}
use Rattle.pass_jump_threading.proofs.ends.settled.Goals as goal

pub returns-in-Some-landing : goal.returns-in-Some-landing
returns-in-Some-landing c = λ all covers.
    end_settled (function_of c.args.function.now) c.args.plan.now (known_in c.args.held.now c.args.facts.now) (end_of c.args.end) c.in-Some.next c.in-Some-landing.block
    (sym c.goal.ensures ∙ c.in-Some.is) (c.in-Some-landing.ensures all covers)
