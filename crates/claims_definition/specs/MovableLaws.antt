-- What is promised of what may be moved.
use Rattle.std.specs.Prelude.{◌≡◌, ℕ, ◌%◌, ◌<◌, ◌≤◌, length}
use Rattle.asm_items.specs.Placings.{blocks_of, blocks_size}
use Rattle.low_ir.specs.Code.{Object}
use Rattle.claims_definition.specs.ClaimLaws.{IsSettled, Rise}
use Rattle.claims_definition.specs.Listed.{Laid, placing}
use Rattle.claims_definition.specs.Movables.{array_item, function_item}

pub record IsMovable (l : Laid) (f : ℕ) : Type 0 where
  -- it is a multiple of 4, and at least what the function takes
  pub fours : (function_item l f).size % 4 ≡ 0
  pub enough : blocks_size (blocks_of (placing l) f) ≤ (function_item l f).size
  pub rise : Rise 0 (function_item l f).at

abbrev pub FunctionsAreMovable : Type 0
FunctionsAreMovable = (l : Laid) → IsSettled l → (f : ℕ) → f < length l.program.functions → IsMovable l f

-- the accesses of an array ascend
abbrev pub ArraysAreMovable : Type 0
ArraysAreMovable = (l : Laid) → IsSettled l → (o : ℕ) (x : Object) → ((array_item l o x).size % 4 ≡ 0) × Rise 0 (array_item l o x).at
