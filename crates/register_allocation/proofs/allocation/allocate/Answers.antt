use Rattle.std.proofs.Common.{List, map, subst, sym}
use Rattle.low_ir.specs.declared.low.Function.{Function as Function'}
use Rattle.low_ir.specs.Places.{placing_of}
use Rattle.low_ir.specs.Programs.{low_of}
use Rattle.low_ir.specs.View.{function_of}
use Rattle.register_allocation.specs.Fitting.{ArePlacings, HaveIntervals}
use Rattle.register_allocation.proofs.Placed.{all_few, all_spill, assigned}
use Rattle.register_allocation.proofs.allocation.allocate.Goals as goal

pub placings-requires : goal.placings-requires
placings-requires c =
    subst (λ (fns : List Function'). HaveIntervals (map function_of fns) c.args.live.now) (sym c.deref.ensures.value) c.requires

pub invariant_of-result : goal.invariant_of-result
invariant_of-result c =
    let pls = map placing_of c.in_ok-placings.placings.items in
    let placed = subst (λ (fns : List Function'). ArePlacings (map function_of fns) pls) c.deref.ensures.value c.in_ok-placings.ensures in
    record { is_assignment = assigned pls (low_of c.args.low) placed }

pub returns-clause-spills : goal.returns-clause-spills
returns-clause-spills c =
    let pls = map placing_of c.in_ok-placings.placings.items in
    let placed = subst (λ (fns : List Function'). ArePlacings (map function_of fns) pls) c.deref.ensures.value c.in_ok-placings.ensures in
    all_spill pls (low_of c.args.low) placed

pub returns-clause-slots : goal.returns-clause-slots
returns-clause-slots c =
    let pls = map placing_of c.in_ok-placings.placings.items in
    let placed = subst (λ (fns : List Function'). ArePlacings (map function_of fns) pls) c.deref.ensures.value c.in_ok-placings.ensures in
    all_few pls (low_of c.args.low) placed
