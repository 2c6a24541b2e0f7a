use Rattle.std.proofs.Common.{All, ap, map, subst, sym, ◌∙◌}
use Rattle.low_ir.specs.View.{function_of, loop_of}
use Rattle.pass_jump_threading.specs.Facts.{known_in}
use Rattle.pass_jump_threading.specs.Planning.{IsSeen, name_in}
use Rattle.pass_jump_threading.proofs.Blocks.{landed}
use Rattle.pass_jump_threading.proofs.ends.landing.Goals as goal

pub returns : goal.returns
returns c =
    let old = c.lead-old.result in
    landed (function_of c.args.function.now) c.args.plan.now (known_in c.args.held.now c.args.facts.now) c.args.told c.args.block old c.name_at.result
    (c.name_at.ensures ∙ ap (λ stays. name_in stays old) c.deref-2.ensures.value)
    (λ all. c.lead-old.ensures (subst (λ seen. All (IsSeen seen) (map loop_of c.args.function.now.loops.items)) (sym c.deref.ensures.value) all))
    (λ covers. c.begins.ensures c.if-not-begins.false covers)
