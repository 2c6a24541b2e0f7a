-- What the limits of sources leave of programs in the high form.
use Rattle.std.specs.Prelude.{◌≡◌, ℕ, ◌≤◌, ◌^◌, List, length, Some, slice_get, sum_by}
use Rattle.high_ir.specs.declared.object.Storage.{Storage}
use Rattle.high_ir.specs.declared.object.Storage.TheVariants.{Constant, Global, Local}
use Rattle.high_ir.specs.Size.{object_bytes}
use Rattle.high_ir.specs.Tree as high
use Rattle.high_pass.specs.Law.{WithinBudgets}
use Rattle.low_ir.specs.Code.{Function, Low, Note}
use Rattle.low_ir.specs.Places.{Assignment}

-- the bytes of what doesn't belong to a function
abbrev pub global_object_bytes : Storage → high.Object → ℕ
global_object_bytes Constant o = object_bytes o
global_object_bytes Global o = object_bytes o
global_object_bytes Local o = 0

abbrev pub global_bytes : List high.Object → ℕ
global_bytes os = sum_by (λ (o : high.Object). global_object_bytes o.storage o) os

-- a program as large as that of a source can be, and as passes can make it
pub record IsLimited (p : high.Program) : Type 0 where
  pub functions : length p.functions ≤ 256
  pub globals : global_bytes p.objects ≤ 2 ^ 18
  pub budgets : WithinBudgets p

-- no function has more slots than registers
abbrev pub HasFewSlots : Assignment → Low → Type 0
HasFewSlots a q = (f : ℕ) (fn : Function ℕ Note) → slice_get q.functions f ≡ Some fn → a.slots f ≤ fn.size
