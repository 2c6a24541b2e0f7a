-- The arrays of a low program: how many bytes they take, and which of them an access may touch.
use Rattle.std.specs.Prelude.{◌≡◌, ◌⊎◌, ℕ, ◌<◌, true, [], ◌∷◌, length, Some, slice_get, slice_index_or, sum_by}
use Rattle.high_ir.specs.Tree as high
use Rattle.low_ir.specs.declared.object.Storage.{Storage}
use Rattle.low_ir.specs.declared.object.Storage.TheVariants.{Constant, Global, Local}
use Rattle.low_ir.specs.Arrays.{array_size}
use Rattle.low_ir.specs.Code.{Base, Fixed, Through, Low, Object}
use Rattle.low_ir.specs.Effects.{is_member}
use Rattle.lower_origins.specs.Passing.{IsPassed}

-- the bytes of arrays that belong to a function
abbrev pub local_array_bytes : Storage → Object → ℕ
local_array_bytes Constant o = 0
local_array_bytes Global o = 0
local_array_bytes Local o = array_size o

abbrev pub local_bytes : Low → ℕ
local_bytes q = sum_by (λ o. local_array_bytes o.storage o) q.objects

-- a claim that lists exactly the arrays that calls pass for an array parameter of function f
pub record IsOfParameter (p : high.Program) (q : Low) (f : ℕ) (h : high.Function) (claim : ℕ) : Type 0 where
  pub parameter : ℕ
  pub there : parameter < h.arrays
  pub passed : (o : ℕ) → is_member (slice_index_or q.claims claim []) o ≡ true → IsPassed p f parameter o
  pub listed : (o : ℕ) → IsPassed p f parameter o → is_member (slice_index_or q.claims claim []) o ≡ true

-- a claim that lists one array alone
pub record IsOfOne (p : high.Program) (q : Low) (claim : ℕ) : Type 0 where
  pub object : ℕ
  pub there : object < length p.objects
  pub is : slice_get q.claims claim ≡ Some (object ∷ [])

-- where an access begins: at the one object that it touches, or where a register points to, which is into an array that is passed for
-- a parameter, or into one array alone
abbrev pub IsAccess : high.Program → Low → ℕ → high.Function → Base ℕ → Type 0
IsAccess p q f h (Fixed o) = o < length p.objects
IsAccess p q f h (Through r claim) = IsOfParameter p q f h claim ⊎ IsOfOne p q claim
