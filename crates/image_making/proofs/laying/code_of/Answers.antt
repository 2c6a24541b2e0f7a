use Rattle.low_ir.specs.Placings.{placed_of}
use Rattle.image_making.proofs.LayingLemmas.{starts_low, bases_room}
use Rattle.image_making.proofs.laying.code_of.Goals as goal

pub row-requires-clause-low : goal.row-requires-clause-low
row-requires-clause-low c = starts_low c.args.placement.now (placed_of c.args.code.now) c.args.layout.now c.requires.formed c.requires.fit

pub row-requires-clause-room : goal.row-requires-clause-room
row-requires-clause-room c = bases_room c.args.placement.now (placed_of c.args.code.now) c.args.layout.now c.requires.formed c.requires.fit

pub row-requires-2-clause-low : goal.row-requires-2-clause-low
row-requires-2-clause-low c = starts_low c.args.placement.now (placed_of c.args.code.now) c.args.layout.now c.requires.formed c.requires.fit

pub row-requires-2-clause-room : goal.row-requires-2-clause-room
row-requires-2-clause-room c = bases_room c.args.placement.now (placed_of c.args.code.now) c.args.layout.now c.requires.formed c.requires.fit
