use Rattle.std.proofs.Common.{sym, subst}
use Rattle.low_ir.specs.Placings.{placed_of}
use Rattle.image_definition.specs.Sizes.{HasSizes}
use Rattle.image_definition.proofs.FitLemmas.{nothing_fits}
use Rattle.layout_program.specs.Laid.{IsLaid}
use Rattle.layout_fitting.proofs.fitting.lay_unplaced.Goals as goal

pub lay-requires : goal.lay-requires
lay-requires c =
    let p = placed_of c.args.code.now in
    subst (λ pl. HasSizes pl p) (sym c.nothing-placement.ensures) (nothing_fits p (c.has_room.ensures.whole c.if-has_room.true))

pub returns-then-has_room-clause-laid : goal.returns-then-has_room-clause-laid
returns-then-has_room-clause-laid c = subst (λ pl. IsLaid pl c.args.code.now c.in_ok-laid.laid) c.nothing-placement.ensures c.in_ok-laid.ensures.exact

pub returns-clause-laid : goal.returns-clause-laid
returns-clause-laid c = λ room.
    let has = c.has_room.ensures.exact room in
    let none = c.if-has_room.false in
    cc
