use Rattle.std.proofs.Common.{ap, sym, subst}
use Rattle.low_ir.specs.Placings.{placed_of}
use Rattle.image_segments.specs.Rows.{HaveSizes}
use Rattle.image_segments.specs.Segments.{Data}
use Rattle.image_frames.specs.Frames.{frames_end}
use Rattle.image_memory.proofs.RoomLemmas.{arrays_have_sizes}
use Rattle.image_making.proofs.LayingLemmas.{segments_fit}
use Rattle.image_making.proofs.laying.image_of.Goals as goal

pub image-requires-clause-sizes : goal.image-requires-clause-sizes
image-requires-clause-sizes c =
    let p = placed_of c.args.code.now in
    subst HaveSizes (sym (ap (λ (d : Data). d.objects) c.requires.segments)) (arrays_have_sizes (frames_end p) c.args.placement.now.objects p.objects c.requires.fit.memory)

pub image-requires-clause-fit : goal.image-requires-clause-fit
image-requires-clause-fit c =
    segments_fit c.args.placement.now (placed_of c.args.code.now) c.requires.fit _ _ _ c.requires.segments c.in_ok-bytes.ensures.flash c.in_ok-bytes.ensures.scratchpad
