-- An array lies in the region of its row.
use Rattle.std.proofs.Common.{◌≡◌, ℕ, zero, suc, ◌+◌, Bool, true, false, List, [], ◌∷◌, refl, ap, ◌∙◌, arith, if◌then◌else◌}
use Rattle.std.specs.Prelude.{nat_le, slice_get, slice_index_or}
use Rattle.rv_core.specs.declared.regions.Region.TheVariants.{Ram}
use Rattle.low_ir.specs.Arrays.{array_size}
use Rattle.low_ir.specs.declared.object.Storage.{Storage}
use Rattle.low_ir.specs.declared.object.Storage.TheVariants.{Constant, Global, Local}
use Rattle.low_ir.specs.Code.{Object}
use Rattle.image_segments.specs.declared.rows.Row.TheVariants.{Scratchpad}
use Rattle.image_segments.specs.Rows.{row_by, small_room}
use Rattle.image_segments.specs.Starts.{region_of}
use Rattle.image_frames.specs.Memories.{region_by}
use Rattle.image_making.specs.Regions.{region, regions_from, stored}

stored-is : (s : Storage) (small : Bool) → region_of (row_by s small) ≡ stored s
stored-is Constant small = refl
stored-is Global true = refl
stored-is Global false = refl
stored-is Local true = refl
stored-is Local false = refl

region-is : (placed : Bool) (s : Storage) (small : Bool) → region_of (if placed then Scratchpad else row_by s small) ≡ region placed s
region-is true s small = refl
region-is false s small = stored-is s small

none_at : (placed : Bool) (o : ℕ) → region_by placed (slice_get [] o) ≡ slice_index_or [] o Ram
none_at placed zero = refl
none_at placed (suc o) = refl

regions_at : (placed : List Bool) (k : ℕ) (xs : List Object) (o : ℕ) → region_by (slice_index_or placed (k + o) false) (slice_get xs o) ≡ slice_index_or (regions_from placed k xs) o Ram
regions_at placed k [] o = none_at (slice_index_or placed (k + o) false) o
regions_at placed k (x ∷ xs) zero =
    let e : k + 0 ≡ k = omega arith in
    ap (λ n. region_by (slice_index_or placed n false) (slice_get (x ∷ xs) 0)) e ∙ region-is (slice_index_or placed k false) x.storage (nat_le (array_size x) small_room)
regions_at placed k (x ∷ xs) (suc o) =
    let e : k + suc o ≡ suc k + o = omega arith in
    ap (λ n. region_by (slice_index_or placed n false) (slice_get xs o)) e ∙ regions_at placed (suc k) xs o

pub regions_are : (placed : List Bool) (xs : List Object) (o : ℕ) → region_by (slice_index_or placed o false) (slice_get xs o) ≡ slice_index_or (regions_from placed 0 xs) o Ram
regions_are placed xs o = let e : o ≡ 0 + o = omega arith in ap (λ n. region_by (slice_index_or placed n false) (slice_get xs o)) e ∙ regions_at placed 0 xs o
