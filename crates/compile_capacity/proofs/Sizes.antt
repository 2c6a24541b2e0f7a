-- The low program of a program that keeps the limits has room.
use Rattle.std.proofs.Common.{ap, arith}
use Rattle.high_ir.specs.Tree as high
use Rattle.low_ir.specs.Code.{Low}
use Rattle.low_ir.specs.Places.{Assignment, placed}
use Rattle.register_places.proofs.Rooms.{room_kept}
use Rattle.lower_law.specs.Programs.{KeepsProgram}
use Rattle.image_definition.specs.Sizes.{HasRoom, constants_room, variables_room}
use Rattle.compile_high_definitions.specs.Limits.{HasFewSlots, IsLimited}
use Rattle.compile_capacity.proofs.Arrays.{constants_few, variables_few}
use Rattle.compile_capacity.proofs.Functions.{frames_few, functions_few}

pub limited_fit : (p : high.Program) (q : Low) (a : Assignment) → IsLimited p → KeepsProgram p q → HasFewSlots a q → HasRoom (placed a q)
limited_fit p q a limited keeps few =
    let functions = limited.functions in
    let globals = limited.globals in
    let operations = limited.budgets.operations in
    let locals = limited.budgets.locals in
    let count = functions_few p q keeps in
    let same = room_kept a q in
    let room = keeps.room in
    let frames = frames_few p q keeps a few in
    let constants = constants_few p.objects in
    let variables = variables_few p.objects in
    let constants_are = ap constants_room keeps.objects in
    let variables_are = ap variables_room keeps.objects in
    record {
      code = omega (arith, functions, operations, count, same, room);
      constants = omega (arith, constants, constants_are, globals);
      variables = omega (arith, frames, variables, variables_are, count, functions, globals, operations, locals);
    }
