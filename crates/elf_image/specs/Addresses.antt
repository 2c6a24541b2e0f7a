-- The addresses of segments have 32 bits.
use Rattle.std.specs.Prelude.{◌^◌, ◌<◌, List, [], ◌∷◌}
use Rattle.rv_core.specs.declared.image.Segment.{Segment}

abbrev pub HaveAddresses : List Segment → Type 0
HaveAddresses [] = Unit {0}
HaveAddresses (s ∷ ss) = (s.at < 2 ^ 32) × HaveAddresses ss
