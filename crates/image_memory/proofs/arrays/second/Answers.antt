use Rattle.std.proofs.Common.{sym, subst, map}
use Rattle.low_ir.specs.View.{object_of}
use Rattle.low_ir.specs.Placings.{placed_of}
use Rattle.image_segments.specs.Rows.{HaveSizes}
use Rattle.image_frames.specs.Frames.{frames_end}
use Rattle.image_memory.proofs.RoomLemmas.{arrays_have_sizes}
use Rattle.image_memory.proofs.arrays.second.Goals as goal

pub second_base-requires-clause-sizes : goal.second_base-requires-clause-sizes
second_base-requires-clause-sizes c =
    let p = placed_of c.args.code.now in
    subst (λ xs. HaveSizes (map object_of xs)) (sym c.deref-2.ensures.value) (arrays_have_sizes (frames_end p) c.args.placement.now.objects p.objects c.requires.fit)
