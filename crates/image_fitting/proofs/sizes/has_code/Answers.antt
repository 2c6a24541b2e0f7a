use Rattle.std.proofs.Common.{◌≡◌, ◌+◌, ◌<◌, List, map, subst, arith}
use Rattle.std.specs.Prelude.{sum_by}
use Rattle.wcc_base.specs.Budgets.{most_instructions}
use Rattle.low_ir.specs.declared.low.Function as functions
use Rattle.low_ir.specs.Placings.{assignment_of, placed_of}
use Rattle.low_ir.specs.Programs.{low_of}
use Rattle.low_ir.specs.Room.{function_room, room}
use Rattle.low_ir.specs.View.{function_of}
use Rattle.register_places.proofs.Rooms.{room_kept}
use Rattle.image_fitting.proofs.sizes.has_code.Goals as goal

pub returns-in-None-clause-exact : goal.returns-in-None-clause-exact
returns-in-None-clause-exact c = λ e.
    let code = c.args.code.now in
    let less = subst (λ (xs : List functions.Function). most_instructions < sum_by function_room (map function_of xs)) c.deref.ensures.value c.in-None.ensures in
    let same : room (placed_of code) ≡ sum_by function_room (map function_of code.low.functions.items) = room_kept (assignment_of code) (low_of code.low) in
    omega (arith, less, same)

pub returns-in-Some-clause-whole : goal.returns-in-Some-clause-whole
returns-in-Some-clause-whole c = λ e.
    let code = c.args.code.now in
    let left = c.in-Some.field-0 in
    let sum = subst (λ (xs : List functions.Function). most_instructions ≡ left + sum_by function_room (map function_of xs)) c.deref.ensures.value c.in-Some.ensures in
    let same : room (placed_of code) ≡ sum_by function_room (map function_of code.low.functions.items) = room_kept (assignment_of code) (low_of code.low) in
    omega (arith, sum, same)
