-- Lines that go on for as long as the letters are the same.
use Rattle.std.specs.Prelude.{Bool, ◌&&◌, List, [], ◌∷◌, ◌++◌, if◌then◌else◌}
use Rattle.code_flow_system.specs.declared.claims.Within.{Within}
use Rattle.claims_definition.specs.Lines.{same}

abbrev pub alike : Within → Within → Bool
alike w n = same w.flash n.flash && (same w.spm n.spm && same w.ram n.ram)

-- the line so far, where the next one goes on with it
abbrev pub longer : Within → Within → Within
longer w n = record { first = w.first; end = n.end; flash = w.flash; spm = w.spm; ram = w.ram }

-- the line that is done, if it is, and the one that goes on
abbrev pub done : Within → Within → List Within
done w n = if alike w n then [] else w ∷ []

abbrev pub begun : Within → Within → Within
begun w n = if alike w n then longer w n else n

-- the lines behind one that goes on
abbrev pub merged_behind : Within → List Within → List Within
merged_behind w [] = w ∷ []
merged_behind w (n ∷ ns) = done w n ++ merged_behind (begun w n) ns

abbrev pub merged : List Within → List Within
merged [] = []
merged (w ∷ ws) = merged_behind w ws
