use Rattle.command_perform.specs.Asked.{asked_of}
use Rattle.command_perform.proofs.Building.{performs_built}
use Rattle.command_perform.proofs.Endings.{performs}
use Rattle.command_perform.proofs.performing.perform_asked.Goals as goal

pub returns-clause-ends : goal.returns-clause-ends
returns-clause-ends g c = performs (asked_of c.args.asked) c.work-made.result _ _ _ _ _ c.finish.result c.work-made.ensures.reads c.work-made.ensures.made c.finish.ensures

pub returns-clause-built : goal.returns-clause-built
returns-clause-built g c =
    performs_built g.C.Compiler.builds (asked_of c.args.asked) c.work-made.result _ _ _ _ _ c.finish.result c.work-made.ensures.reads c.work-made.ensures.made c.work-made.ensures.built c.finish.ensures
