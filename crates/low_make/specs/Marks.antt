-- Which objects are in a claim, by object.
use Rattle.std.specs.Prelude.{◌≡◌, ◌<◌, ℕ, Bool, false, List, length, slice_index_or}
use Rattle.low_ir.specs.Effects.{is_member}

abbrev pub Marks : List Bool → List ℕ → Type 0
Marks seen claim = (o : ℕ) → o < length seen → slice_index_or seen o false ≡ is_member claim o
