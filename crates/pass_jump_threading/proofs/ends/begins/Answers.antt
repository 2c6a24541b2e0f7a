use Rattle.std.proofs.Common.{All, Some, arith, subst}
use Rattle.pass_jump_threading.specs.Facts.{Says, known_in}
use Rattle.pass_jump_threading.proofs.Blocks.{begins_later}
use Rattle.pass_jump_threading.proofs.Lists.{item_at}
use Rattle.pass_jump_threading.proofs.ends.begins.Goals as goal

pub returns-in-Some-Some : goal.returns-in-Some-Some
returns-in-Some-Some c = λ done covers.
    let p = c.args.plan.now in
    let known = known_in c.args.held.now c.args.facts.now in
    let it = c.in-Some-Some in
    begins_later p known c.args.told c.args.block it.stay (omega (arith, c.if-block-eq0.false))
    (item_at c.deref.result.now p.stays.items c.args.block it.field-0.now (Some it.stay) c.deref.ensures.value it.ensures.lookup.3.0 it.ensures.lookup.1 it.field-0-is)
    covers
    (subst (All (Says known c.args.told)) c.deref-in-Some-Some.ensures.value (c.say_all.ensures done))
