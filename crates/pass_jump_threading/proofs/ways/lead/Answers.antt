use Rattle.low_ir.specs.View.{function_of}
use Rattle.pass_jump_threading.specs.Facts.{known_in}
use Rattle.pass_jump_threading.proofs.Leading.{leads_here, leads_more}
use Rattle.pass_jump_threading.proofs.ways.lead.Goals as goal

pub loop-init : goal.loop-init
loop-init c = λ all. leads_here (function_of c.args.function.now) (known_in c.args.held.now c.args.facts.now) c.args.block

pub loop-preserved : goal.loop-preserved
loop-preserved c = λ all.
    leads_more (function_of c.args.function.now) (known_in c.args.held.now c.args.facts.now) c.args.block c.loop.at c.in-Some.further (c.loop.invariant all) (c.in-Some.ensures all)
