-- What may be moved into the scratchpad: the code of a function, or an array that isn't local.
use Rattle.std.specs.Prelude.{ℕ, zero, suc, ◌+◌, ◌/◌, ◌==◌, ◌&&◌, Bool, true, false, List, [], ◌∷◌, ◌++◌, length, map, slice_index_or, if◌then◌else◌}
use Rattle.std.specs.List.{flat_map, range_with_len}
use Rattle.rv_core.specs.declared.regions.Region.{Region}
use Rattle.rv_core.specs.declared.regions.Region.TheVariants.{Flash, Spm}
use Rattle.asm_items.specs.declared.item.Item.{Item}
use Rattle.asm_items.specs.Items.{size, total}
use Rattle.asm_items.specs.Placings.{Blocks, base_of, blocks_of, blocks_size}
use Rattle.asm_placed.specs.Written.{in_scratchpad}
use Rattle.low_ir.specs.declared.object.Storage.{Storage}
use Rattle.low_ir.specs.declared.object.Storage.TheVariants.{Constant, Global, Local}
use Rattle.low_ir.specs.Arrays.{array_size}
use Rattle.low_ir.specs.Code.{Object}
use Rattle.asm_sound.specs.Functions.{function_size}
use Rattle.claims_definition.specs.Touches.{Touch, Nothing, OfFrame, OfArrays, program_touches}
use Rattle.claims_definition.specs.Listed.{Laid, by_address, placing}
use Rattle.claims_definition.specs.declared.item.LaidItem as items

-- at: the addresses of its instructions, or of the loads and stores that touch this array alone
pub record Movable : Type 0 where
  pub id : ℕ
  pub size : ℕ
  pub code : Bool
  pub region : Region
  pub at : List ℕ

-- as it stands in a list
abbrev pub movable_of : items.LaidItem → Movable
movable_of i = record { id = i.id; size = i.size; code = i.code; region = i.region; at = i.at }

abbrev pub code_region : Bool → Region
code_region true = Spm
code_region false = Flash

abbrev pub words_at : ℕ → ℕ → List ℕ
words_at a zero = []
words_at a (suc n) = a ∷ words_at (a + 4) n

-- functions have the numbers that they have in the program
abbrev pub function_item : Laid → ℕ → Movable
function_item l f = record {
  id = f;
  size = function_size l.memory l.program f;
  code = true;
  region = code_region (in_scratchpad l.rows f);
  at = words_at (base_of (placing l) f) (blocks_size (blocks_of (placing l) f) / 4);
}

-- all of these are this array
abbrev pub is_only : ℕ → List ℕ → Bool
is_only o [] = true
is_only o (x ∷ xs) = (x == o) && is_only o xs

abbrev pub only_at : ℕ → ℕ → Touch → List ℕ
only_at o a Nothing = []
only_at o a OfFrame = []
only_at o a (OfArrays os) = if is_only o os then a ∷ [] else []

abbrev pub items_only : ℕ → ℕ → List Touch → List Item → List ℕ
items_only o a [] xs = []
items_only o a (t ∷ ts) [] = []
items_only o a (t ∷ ts) (x ∷ xs) = only_at o a t ++ items_only o (a + size x) ts xs

abbrev pub blocks_only : ℕ → ℕ → List (List Touch) → Blocks → List ℕ
blocks_only o a [] bs = []
blocks_only o a (ts ∷ tss) [] = []
blocks_only o a (ts ∷ tss) (xs ∷ bs) = items_only o a ts xs ++ blocks_only o (a + total xs) tss bs

abbrev pub only_in : Laid → ℕ → ℕ → List ℕ
only_in l o f = blocks_only o (base_of (placing l) f) (slice_index_or (program_touches l.memory l.program) f []) (blocks_of (placing l) f)

-- arrays have the numbers behind those of functions
abbrev pub array_item : Laid → ℕ → Object → Movable
array_item l o x = record {
  id = length l.program.functions + o;
  size = array_size x;
  code = false;
  region = l.regions o;
  at = flat_map (only_in l o) (by_address l);
}

-- a local array is no item
abbrev pub is_local : Storage → Bool
is_local Constant = false
is_local Global = false
is_local Local = true

abbrev pub unless : Bool → Movable → List Movable
unless true m = []
unless false m = m ∷ []

-- the arrays from number o on
abbrev pub arrays_from : Laid → ℕ → List Object → List Movable
arrays_from l o [] = []
arrays_from l o (x ∷ xs) = unless (is_local x.storage) (array_item l o x) ++ arrays_from l (suc o) xs

abbrev pub movables_of : Laid → List Movable
movables_of l = map (function_item l) (range_with_len 0 (length l.program.functions)) ++ arrays_from l 0 l.program.objects
