-- The elements of an array at first.
use Rattle.std.specs.Prelude.{ℕ, map, Option, Some, None, slice_index_or}
use Rattle.low_ir.specs.declared.object.Storage.{Storage}
use Rattle.low_ir.specs.declared.object.Storage.TheVariants.{Constant, Global, Local}
use Rattle.low_ir.specs.Code.{Object}
use Rattle.low_ir.specs.Kinds.{converted}

-- one of the given values, or 0 behind them; in a local array nothing
abbrev pub first_word : Object → ℕ → ℕ
first_word o i = slice_index_or (map (converted o.kind) o.values) i 0

abbrev pub first_element : Storage → Object → ℕ → Option ℕ
first_element Constant o i = Some (first_word o i)
first_element Global o i = Some (first_word o i)
first_element Local o i = None
