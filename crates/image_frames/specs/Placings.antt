-- Placements: of just the functions and arrays with these numbers, and of items alone.
use Rattle.std.specs.Prelude.{◌≡◌, ◌≢◌, ℕ, ◌+◌, ◌<◌, ◌==◌, ◌||◌, Bool, true, false, List, [], ◌∷◌, length, Some, slice_get, slice_index_or}
use Rattle.low_ir.specs.declared.object.Storage.TheVariants.{Local}
use Rattle.low_ir.specs.Code.{Object}
use Rattle.low_ir.specs.Places.{Placed}
use Rattle.image_frames.specs.Memories.{Placement}

abbrev pub is_among : List ℕ → ℕ → Bool
is_among [] n = false
is_among (m ∷ ms) n = (m == n) || is_among ms n

abbrev pub mark_at : List Bool → ℕ → Bool
mark_at marks k = slice_index_or marks k false

-- arrays have the numbers behind those of functions
pub record HasPlaced (ids : List ℕ) (fs os : ℕ) (pl : Placement) : Type 0 where
  pub function_count : length pl.functions ≡ fs
  pub array_count : length pl.objects ≡ os
  pub functions : (f : ℕ) → f < fs → mark_at pl.functions f ≡ is_among ids f
  pub arrays : (o : ℕ) → o < os → mark_at pl.objects o ≡ is_among ids (fs + o)

-- the start code is no item, and a local array is none
pub record MovesItems (pl : Placement) (p : Placed) : Type 0 where
  pub start : slice_index_or pl.functions (length p.functions) false ≡ false
  pub arrays : (o : ℕ) (x : Object) → slice_get p.objects o ≡ Some x → slice_index_or pl.objects o false ≡ true → x.storage ≢ Local
