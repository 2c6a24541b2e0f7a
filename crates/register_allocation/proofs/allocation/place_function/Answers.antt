use Rattle.std.proofs.Common.{List, subst, sym}
use Rattle.low_ir.specs.Places.{placing_of}
use Rattle.low_ir.specs.View.{function_of}
use Rattle.register_allocation.specs.declared.order.Lasting.{Lasting}
use Rattle.register_allocation.specs.Fitting.{IsScannedPlacing}
use Rattle.register_allocation.specs.Orders.{AreInOrder}
use Rattle.register_allocation.proofs.Listing.{in_order}
use Rattle.register_allocation.proofs.Placed.{is_placing}
use Rattle.register_allocation.proofs.allocation.place_function.Goals as goal

pub placing_in-requires : goal.placing_in-requires
placing_in-requires c =
    let fn = function_of c.args.function.now in
    subst (λ (l : List Lasting). AreInOrder fn.size l) (sym c.deref.ensures.value) (in_order fn c.args.intervals.now c.in_ok-order.order.items c.requires c.in_ok-order.ensures)

pub returns : goal.returns
returns c =
    let fn = function_of c.args.function.now in
    let scanned = subst (λ (l : List Lasting). IsScannedPlacing fn l (placing_of c.in_ok-placing.placing)) c.deref.ensures.value c.in_ok-placing.ensures in
    is_placing fn c.args.intervals.now c.in_ok-order.order.items (placing_of c.in_ok-placing.placing) c.requires c.in_ok-order.ensures scanned
