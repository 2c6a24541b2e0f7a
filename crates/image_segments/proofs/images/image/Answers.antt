use Rattle.image_segments.specs.Views.{data_of}
use Rattle.image_segments.proofs.SegmentLemmas.{put_loadable}
use Rattle.image_segments.proofs.images.image.Goals as goal

pub new-requires : goal.new-requires
new-requires c = put_loadable (data_of c.args.memory) c.args.code.flash.items c.args.code.scratchpad.items c.requires.fit _ _ _ c.new-segments.ensures.items c.in_ok-put_low.ensures c.in_ok-put_ram.ensures
