-- Sizes that are room enough, and what is too much.
use Rattle.std.proofs.Common.{◌≡◌, ℕ, suc, ◌+◌, ◌^◌, ◌<◌, ◌≤◌, true, false, List, [], ◌∷◌, length, map, refl, sym, ap, ◌∙◌, subst, arith}
use Rattle.std.specs.Prelude.{Bool, drop, if◌then◌else◌, slice_index, slice_index_or}
use Rattle.std.proofs.lemmas.List.{drop_more, length-map}
use Rattle.wcc_base.specs.Budgets.{most_instructions}
use Rattle.low_ir.specs.declared.places.LowReg.{LowReg}
use Rattle.low_ir.specs.Code.{Function, Note}
use Rattle.low_ir.specs.Places.{Assignment, Placed, place_functions}
use Rattle.low_ir.specs.Placings.{assignment_of, placed_of}
use Rattle.low_ir.specs.Room.{room}
use Rattle.low_ir.specs.View.{function_of}
use Rattle.image_frames.specs.Memories.{Placement}
use Rattle.image_definition.specs.Sizes.{HasRoom, HasSizes, array_sizes, constants_room, frames_room, function_sizes, sizes_placed, variables_room}

-- there are as many functions over places
placed_length : (a : Assignment) (k : ℕ) (fns : List (Function ℕ Note)) → length (place_functions a k fns) ≡ length fns
placed_length a k [] = refl
placed_length a k (fn ∷ fns) = ap suc (placed_length a (suc k) fns)

pub start_is : (code : LowReg) (placed : List Bool) → slice_index_or placed (length code.low.functions.items) false ≡ slice_index_or placed (length (placed_of code).functions) false
start_is code placed =
    sym (ap (λ n. slice_index_or placed n false) (placed_length (assignment_of code) 0 (map function_of code.low.functions.items) ∙ length-map code.low.functions.items function_of))

module _ (p : Placed) where
  pub has_parts : room p ≤ most_instructions → constants_room p.objects ≤ 2 ^ 18 → frames_room p.functions + variables_room p.objects ≤ 2 ^ 21 → HasRoom p
  has_parts code constants variables = record { code = code; constants = constants; variables = variables }

  pub no_code : most_instructions < room p → HasRoom p → false ≡ true
  no_code h s = absurd (let k = s.code in omega (arith, h, k))

  pub no_constants : 2 ^ 18 < constants_room p.objects → HasRoom p → false ≡ true
  no_constants h s = absurd (let k = s.constants in omega (arith, h, k))

  pub no_variables : 2 ^ 21 < frames_room p.functions + variables_room p.objects → HasRoom p → false ≡ true
  no_variables h s = absurd (let k = s.variables in omega (arith, h, k))

-- with a placement, by the sizes of functions
module _ (pl : Placement) (p : Placed) where
  pub has_all : (sizes : List ℕ) → sizes ≡ function_sizes p → HasRoom p → sizes_placed pl.objects 0 (array_sizes p) + sizes_placed pl.functions 0 sizes ≤ 2 ^ 16 → slice_index_or pl.functions (length p.functions) false ≡ false → HasSizes pl p
  has_all sizes are room placed start = record { room = room; placed = subst (λ ns. sizes_placed pl.objects 0 (array_sizes p) + sizes_placed pl.functions 0 ns ≤ 2 ^ 16) are placed; start = start }

  pub no_room : (HasRoom p → false ≡ true) → HasSizes pl p → false ≡ true
  no_room h s = h s.room

  pub no_placed : (sizes : List ℕ) → sizes ≡ function_sizes p → 2 ^ 16 < sizes_placed pl.objects 0 (array_sizes p) + sizes_placed pl.functions 0 sizes → HasSizes pl p → false ≡ true
  no_placed sizes are h s =
      absurd (let k = s.placed in let more = subst (λ ns. 2 ^ 16 < sizes_placed pl.objects 0 (array_sizes p) + sizes_placed pl.functions 0 ns) are h in omega (arith, more, k))

-- one size more
pub one_more : (placed : List Bool) (ns : List ℕ) (k : ℕ) → k < length ns → sizes_placed placed k (drop k ns) ≡ (if slice_index_or placed k false then slice_index ns k else 0) + sizes_placed placed (k + 1) (drop (k + 1) ns)
one_more placed ns k less =
    ap (sizes_placed placed k) (drop_more ns k 0 less)
    ∙ ap (λ n. (if slice_index_or placed k false then slice_index ns k else 0) + sizes_placed placed n (drop (k + 1) ns)) (next k)
  where
    next : (n : ℕ) → suc n ≡ n + 1
    next n = omega arith
