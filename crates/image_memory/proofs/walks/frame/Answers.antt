use Rattle.low_ir.specs.Placings.{assignment_of}
use Rattle.image_memory.proofs.FrameLemmas.{few, frame_is, homes_there}
use Rattle.image_memory.proofs.walks.frame.Goals as goal

pub new-requires : goal.new-requires
new-requires c =
    few c.args.outlines.now c.args.number c.in_ok-saved.saved.items c.in_ok-homes.homes.items c.in_ok-saved.ensures
    (homes_there c.args.outlines.now c.args.number c.index-outlines-number.result c.in_ok-homes.homes.items c.requires.there c.index-outlines-number.is c.in_ok-homes.ensures)

pub returns : goal.returns
returns c =
    frame_is (assignment_of c.args.code.now) c.args.outlines.now c.args.at c.args.number c.in_ok-saved.saved.items c.in_ok-homes.homes.items c.slots.result c.new.result c.in_ok-saved.ensures
    (homes_there c.args.outlines.now c.args.number c.index-outlines-number.result c.in_ok-homes.homes.items c.requires.there c.index-outlines-number.is c.in_ok-homes.ensures) c.slots.ensures c.new.ensures
