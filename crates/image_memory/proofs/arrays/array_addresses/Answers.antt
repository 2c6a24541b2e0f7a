use Rattle.std.proofs.Common.{ap, sym, subst, ◌∙◌, map}
use Rattle.low_ir.specs.View.{object_of}
use Rattle.low_ir.specs.Placings.{placed_of}
use Rattle.image_segments.specs.Rows.{HaveSizes}
use Rattle.image_frames.specs.Frames.{frames_end}
use Rattle.image_frames.specs.Memories.{Placement}
use Rattle.image_memory.proofs.RoomLemmas.{arrays_have_sizes, addresses_have_room}
use Rattle.image_memory.proofs.arrays.array_addresses.Goals as goal

pub starts-starts-requires-clause-sizes : goal.starts-starts-requires-clause-sizes
starts-starts-requires-clause-sizes c =
    let p = placed_of c.args.code.now in
    subst (λ xs. HaveSizes (map object_of xs)) (sym c.deref-2.ensures.value) (arrays_have_sizes (frames_end p) c.args.placement.now.objects p.objects c.requires.fit)

pub addresses-requires-clause-sizes : goal.addresses-requires-clause-sizes
addresses-requires-clause-sizes c =
    let p = placed_of c.args.code.now in
    subst (λ xs. HaveSizes (map object_of xs)) (sym c.deref-4.ensures.value) (arrays_have_sizes (frames_end p) c.args.placement.now.objects p.objects c.requires.fit)

pub addresses-requires-clause-room : goal.addresses-requires-clause-room
addresses-requires-clause-room c =
    let p = placed_of c.args.code.now in
    let seen = ap (λ (pl : Placement). pl.objects) c.placement.view_is in
    addresses_have_room (frames_end p) c.args.placement.now.objects p.objects _ _ _ _ _ _ c.requires.frames (c.deref.ensures.value ∙ seen) (c.deref-3.ensures.value ∙ seen)
    (ap (map object_of) c.deref-2.ensures.value) (ap (map object_of) c.deref-4.ensures.value) c.starts-starts.ensures c.requires.fit
