-- What may be moved of a laid program: its functions, and its arrays that aren't local.
use Rattle.std.specs.Prelude.{ℕ, suc, ◌+◌, ◌*◌, ◌/◌, true, false, List, [], ◌∷◌, ◌++◌, map, slice_index_or}
use Rattle.std.specs.List.{flat_map, range_with_len}
use Rattle.rv_core.specs.declared.regions.Region.{Region}
use Rattle.asm_items.specs.Placings.{blocks_size}
use Rattle.asm_forms.specs.Shorter.{blocks_longest}
use Rattle.low_ir.specs.Arrays.{array_size}
use Rattle.low_ir.specs.Code.{Block, Function, Object, Note}
use Rattle.low_ir.specs.Programs.{low_of}
use Rattle.asm_program.specs.Frames.{Memory}
use Rattle.claims_definition.specs.Movables.{Movable, code_region, is_local, only_in, unless, words_at}
use Rattle.claims_definition.specs.Listed.{Laid, by_address}
use Rattle.claims_lists.specs.declared.laying.Laying.{Laying}
use Rattle.claims_lists.specs.Places.{base_in, blocks_in}
use Rattle.claims_movables.specs.Near.{blocks_near}

-- the addresses of the accesses that touch an array alone, of the arrays below n
abbrev pub lists_below : Laid → ℕ → List (List ℕ)
lists_below l n = map (λ o. flat_map (only_in l o) (by_address l)) (range_with_len 0 n)

-- functions by the layout

abbrev pub no_low_function : Function ℕ Note
no_low_function = record { parameters = []; size = 0; loops = []; blocks = [] }

abbrev pub low_blocks : Laying → ℕ → List (Block ℕ Note)
low_blocks y f = (slice_index_or (low_of y.code.now.low).functions f no_low_function).blocks

abbrev pub size_in : Laying → Memory → ℕ → ℕ
size_in y m f = blocks_size (blocks_longest (blocks_in y.layout.now f)) + 4 * blocks_near m (low_blocks y f)

abbrev pub function_in : Laying → Memory → ℕ → Movable
function_in y m f = record {
  id = f;
  size = size_in y m f;
  code = true;
  region = code_region (slice_index_or y.placed.now f false);
  at = words_at (base_in y.layout.now f) (blocks_size (blocks_in y.layout.now f) / 4);
}

-- by the regions of arrays, and the addresses of the accesses that touch each of them alone
module _ (functions : ℕ) (regions : ℕ → Region) (lists : List (List ℕ)) where
  abbrev pub array_in : ℕ → Object → Movable
  array_in o x = record { id = functions + o; size = array_size x; code = false; region = regions o; at = slice_index_or lists o [] }

  abbrev pub arrays_in : ℕ → List Object → List Movable
  arrays_in o [] = []
  arrays_in o (x ∷ xs) = unless (is_local x.storage) (array_in o x) ++ arrays_in (suc o) xs
