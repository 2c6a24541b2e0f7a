-- What an array takes in memory.
use Rattle.std.specs.Prelude.{ℕ, ◌*◌}
use Rattle.wcc_base.specs.Sizes.{rounded}
use Rattle.low_ir.specs.Code.{Object}
use Rattle.low_ir.specs.Kinds.{kind_bytes}

-- the bytes of its elements
abbrev pub bytes_of : Object → ℕ
bytes_of x = kind_bytes x.kind * x.size

-- the same, rounded up to whole words
abbrev pub array_size : Object → ℕ
array_size x = rounded (bytes_of x)
