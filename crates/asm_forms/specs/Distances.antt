-- The shortest form in which an item reaches its target.
use Rattle.std.specs.Prelude.{ℕ, ◌+◌, ◌^◌, ℤ, nat_lt, Bool, not, if◌then◌else◌}
use Rattle.rv_core.specs.Instructions.{is_within}
use Rattle.asm_items.specs.declared.item.Form.{Form}
use Rattle.asm_items.specs.declared.item.Form.TheVariants.{Short, Inverted, Far}
use Rattle.asm_items.specs.Offsets.{offset}

-- from an item that stands between two addresses to its target: forward from its last four bytes, which is as far as it would be if the item were that short
abbrev pub distance : ℕ → ℕ → ℕ → ℤ
distance at end to = if nat_lt at to then offset end (to + 4) else offset at to

-- too far for one instruction
abbrev pub is_far : ℕ → ℕ → ℕ → Bool
is_far at end to = not (is_within (2 ^ 20) (distance at end to))

-- the jump of an inverted branch stands behind the branch
abbrev pub form_of : ℕ → ℕ → ℕ → Form
form_of at end to = if is_within (2 ^ 12) (distance at end to) then Short else (if is_far (at + 4) end to then Far else Inverted)
