use Rattle.claims_movables.specs.Listed.{function_in}
use Rattle.claims_definition.specs.Movables.{movable_of}
use Rattle.claims_movables.proofs.RowLemmas.{items_step}
use Rattle.claims_movables.proofs.functions.function_items.Goals as goal

pub loop-function-preserved : goal.loop-function-preserved
loop-function-preserved c =
    items_step movable_of (function_in c.args.laying.now c.args.memory.now) c.loop-function.function c.loop-function.items.items c.push.new.self.items c.in_ok-function_item.field-0
    c.in_ok-push.ensures.items c.in_ok-function_item.ensures c.loop-function.invariant
