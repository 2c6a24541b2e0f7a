use Rattle.std.proofs.Common.{ap, sym, ◌∙◌}
use Rattle.pass_jump_threading.specs.Facts.{lookup}
use Rattle.pass_jump_threading.proofs.Knowing.{pushed_says}
use Rattle.pass_jump_threading.proofs.facts.with_fact.Goals as goal

pub returns : goal.returns
returns c = λ r w e. pushed_says c.args.facts.items (record { register = c.args.register; word = c.args.word }) r w (ap (λ fs. lookup fs r) (sym c.in_ok-push.ensures.items) ∙ e)
