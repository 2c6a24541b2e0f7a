use Rattle.std.proofs.Common.{◌≡◌, ◌≤◌, ap, map, subst}
use Rattle.std.specs.Prelude.{sum_by}
use Rattle.wcc_base.specs.Budgets.{spare_room}
use Rattle.low_ir.specs.Programs.{low_of}
use Rattle.low_ir.specs.Room.{function_room}
use Rattle.low_ir.specs.View.{function_of}
use Rattle.pass_register_promotion_law.specs.Promoting.{promoted_functions}
use Rattle.pass_register_promotion.specs.Checking.{AreFew, ArePaidBeside, Suit}
use Rattle.pass_register_promotion.specs.Residents.{of_function, row_of, table_of}
use Rattle.pass_register_promotion.proofs.Going.{all_paid}
use Rattle.pass_register_promotion.proofs.program.promoted.Goals as goal

pub made_of-requires : goal.made_of-requires
made_of-requires c =
    let low = low_of c.args.low in
    let plan = c.in-Ok.plan in
    let hss = map of_function plan.residents.items in
    let made : map function_of plan.functions.items ≡ promoted_functions hss 0 low.functions = c.in-Ok.ensures in
    let suits : Suit low (table_of (map row_of plan.rows.items)) hss =
    subst (λ rows. Suit low (table_of (map row_of rows)) hss) c.deref.ensures.value
    (subst (λ residents. Suit low (table_of (map row_of c.deref.result.now)) (map of_function residents)) c.deref-in-Ok.ensures.value (c.suit.ensures c.if-suit.true)) in
    let few : AreFew hss = subst (λ residents. AreFew (map of_function residents)) c.deref-then-suit.ensures.value (c.are_few.ensures c.if-are_few.true) in
    let paid : ArePaidBeside (map function_of plan.functions.items) low.functions =
    subst (λ old. ArePaidBeside (map function_of plan.functions.items) (map function_of old)) c.deref-then-are_few-2.ensures.value
    (subst (λ new. ArePaidBeside (map function_of new) (map function_of c.deref-then-are_few-2.result.now)) c.deref-then-are_few.ensures.value (c.are_paid.ensures c.if-are_paid.true)) in
    let room : sum_by function_room (map function_of plan.functions.items) ≤ spare_room =
    subst (λ new. sum_by function_room (map function_of new) ≤ spare_room) c.deref-then-are_paid.ensures.value (c.has_room.ensures c.if-has_room.true) in
    record {
      residents = hss;
      table = table_of (map row_of plan.rows.items);
      is = ap (λ fns. record { functions = fns; claims = low.claims; objects = low.objects; main = low.main; marks = low.marks }) made;
      may = suits;
      few = few;
      paid = all_paid hss low (map function_of plan.functions.items) made paid;
      room = room;
    }
