-- Worlds in which each element of an array is what the array's kind keeps of it.
use Rattle.std.specs.Prelude.{◌≡◌, ℕ, Option, Some, None, slice_get}
use Rattle.high_ir.specs.declared.object.Kind.{Kind}
use Rattle.high_ir.specs.Meaning.{Contents, World, element}
use Rattle.high_ir.specs.Words.{converted}

-- a kind keeps this as it is
abbrev pub IsOf : Kind → Option ℕ → Type 0
IsOf kind None = Unit {0}
IsOf kind (Some v) = converted kind v ≡ v

pub record IsKept (w : World) : Type 0 where
  pub by : (n i : ℕ) (c : Contents) → slice_get w.objects n ≡ Some c → IsOf c.kind (element c i)
