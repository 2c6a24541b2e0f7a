-- Operators whose instruction has a constant.
use Rattle.std.specs.Prelude.{◌≡◌, ℕ, ◌<◌, ℤ, true, Option, Some, None}
use Rattle.rv_core.specs.declared.op.Op.{Op}
use Rattle.rv_core.specs.Instructions.{instruction, in_row}

-- with any registers it keeps the ranges of its fields
abbrev pub FormFits : Option (Op × ℤ) → Type 0
FormFits None = Unit {0}
FormFits (Some form) = (rd left : ℕ) → rd < 32 → left < 32 → in_row (instruction form.0 rd left 0 form.1) ≡ true
