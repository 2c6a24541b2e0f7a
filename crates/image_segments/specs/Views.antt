-- The data that a value of the code stands for.
use Rattle.std.specs.Prelude.{map}
use Rattle.low_ir.specs.View.{object_of}
use Rattle.image_segments.specs.declared.images.Data as datas
use Rattle.image_segments.specs.Segments.{Data}

abbrev pub data_of : datas.Data → Data
data_of d = record { frames = d.frames_end; placed = d.placed.now; objects = map object_of d.objects.now }
