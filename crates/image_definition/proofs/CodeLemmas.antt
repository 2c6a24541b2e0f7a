-- The code of placed functions takes no more than their sizes.
use Rattle.std.proofs.Common.{◌≡◌, ℕ, suc, ◌+◌, ◌≤◌, Bool, true, false, List, [], ◌∷◌, ◌++◌, length, map, ap, ◌∙◌, subst, arith, if◌then◌else◌}
use Rattle.std.specs.Prelude.{slice_index_or}
use Rattle.std.specs.List.{range_with_len}
use Rattle.asm_items.specs.Placings.{blocks_size}
use Rattle.asm_forms.specs.Shorter.{blocks_longest, functions_longest}
use Rattle.low_ir.specs.Places.{Placed}
use Rattle.asm_program.specs.Frames.{Memory}
use Rattle.asm_program.specs.Functions.{PlacedFunction, function_items, functions_from, start_items}
use Rattle.image_definition.specs.Images.{row_size}
use Rattle.image_definition.specs.Sizes.{code_size, sizes_placed}

module _ (m : Memory) (p : Placed) (most : (f : ℕ) → blocks_size (blocks_longest (function_items m p f)) ≤ code_size p f) (placed : List Bool) (main : ℕ) where
  abbrev row : ℕ → List PlacedFunction → ℕ
  row k fns = row_size (λ f. slice_index_or placed f false) k (functions_longest (functions_from m p k fns ++ start_items m.second main ∷ []))

  abbrev sizes : ℕ → ℕ → ℕ → ℕ
  sizes k from n = sizes_placed placed k (map (code_size p) (range_with_len from n))

  -- the start code, behind them, isn't placed
  pub placed_few : (k : ℕ) (fns : List PlacedFunction) → slice_index_or placed (k + length fns) false ≡ false → row k fns ≤ sizes k k (length fns)
  placed_few k [] start = last (slice_index_or placed k false) (ap (λ n. slice_index_or placed n false) (own k) ∙ start)
    where
      own : (n : ℕ) → n ≡ n + 0
      own n = omega arith

      last : (b : Bool) → b ≡ false → (if b then blocks_size (blocks_longest (start_items m.second main)) else 0) + 0 ≤ 0
      last false e = omega arith
      last true e = cc
  placed_few k (fn ∷ fns) start =
      by (slice_index_or placed k false) (most k)
      (subst (λ n. row (suc k) fns ≤ sizes (suc k) n (length fns)) (next k) (placed_few (suc k) fns (ap (λ n. slice_index_or placed n false) (on k (length fns)) ∙ start)))
    where
      next : (n : ℕ) → suc n ≡ n + 1
      next n = omega arith

      on : (n i : ℕ) → suc n + i ≡ n + suc i
      on n i = omega arith

      by : (b : Bool) → blocks_size (blocks_longest (function_items m p k)) ≤ code_size p k → row (suc k) fns ≤ sizes (suc k) (k + 1) (length fns)
          → (if b then blocks_size (blocks_longest (function_items m p k)) else 0) + row (suc k) fns ≤ (if b then code_size p k else 0) + sizes (suc k) (k + 1) (length fns)
      by true a b = omega (arith, a, b)
      by false a b = omega (arith, b)
