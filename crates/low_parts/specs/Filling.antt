-- Lists that a loop makes of others, as far as it has come.
use Rattle.std.specs.Prelude.{List, ◌++◌}
use Rattle.std.specs.List.{AllZip}

-- lists beside each other so far: whatever goes on beside the rest does so beside the whole
abbrev pub ZipsSoFar : {A B : Type 0} → (A → B → Type 0) → List A → List A → List B → Type 0
ZipsSoFar {A} {B} R whole rest made = (js : List B) → AllZip R rest js → AllZip R whole (made ++ js)
