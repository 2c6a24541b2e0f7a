-- Functions and arrays lie where the placement says.
use Rattle.std.proofs.Common.{◌≡◌, ℕ, zero, suc, ◌+◌, ◌<◌, ◌≤◌, Bool, true, false, not, List, [], ◌∷◌, length, refl, ap, ◌∙◌, subst, arith, if◌then◌else◌}
use Rattle.std.specs.Prelude.{Some, nat_le, slice_get, slice_index, slice_index_or}
use Rattle.asm_items.specs.Placings.{Blocks, base_of, blocks_of, blocks_size}
use Rattle.asm_forms.specs.Regions.{bases_from}
use Rattle.asm_placed.specs.Written.{in_scratchpad}
use Rattle.low_ir.specs.Arrays.{array_size}
use Rattle.low_ir.specs.declared.object.Storage.{Storage}
use Rattle.low_ir.specs.declared.object.Storage.TheVariants.{Constant as Fixed', Global, Local}
use Rattle.low_ir.specs.Code.{Object}
use Rattle.low_ir.specs.Places.{Placed}
use Rattle.asm_program.specs.Numbers.{ram}
use Rattle.simulation_relation.specs.Plans.{LiesIn}
use Rattle.simulation_loaded.proofs.ObjectLemmas.{objects_lie}
use Rattle.image_segments.specs.declared.rows.Row.TheVariants.{Scratchpad}
use Rattle.image_segments.specs.Rows.{small_room, row_by}
use Rattle.image_segments.specs.Starts.{placed_end, region_of}
use Rattle.image_segments.specs.Segments.{spots_in}
use Rattle.image_frames.specs.Memories.{Placement, region_by, regions_of}
use Rattle.image_frames.proofs.FrameLemmas.{ends, frames_end_even}
use Rattle.image_definition.specs.Images.{FitsImage, data_in, formed_in, row_size, rows_in}
use Rattle.image_definition.proofs.LaidLemmas.{fit_segments}
use Rattle.claims_definition.specs.ClaimLaws.{IsSettled}
use Rattle.claims_definition.specs.Listed.{placing}
use Rattle.claims_definition.proofs.Blocks.{count}
use Rattle.claims_image.specs.Images.{laid_of}
use Rattle.claims_definition.specs.Movables.{code_region}
use Rattle.layout_relation.specs.Items.{array_region}
use Rattle.layout_relation.specs.Images.{LieWherePlaced}
use Rattle.layout_law.proofs.Counting.{flash_row, scratchpad_row}

-- n bytes lie in one of two rows, which begin at x and y
abbrev pub InRow : Bool → (x x_size y y_size at n : ℕ) → Type 0
InRow false x x_size y y_size at n = (x ≤ at) × (at + n ≤ x + x_size)
InRow true x x_size y y_size at n = (y ≤ at) × (at + n ≤ y + y_size)

module _ (placed : List Bool) where
  abbrev here : ℕ → Bool
  here f = slice_index_or placed f false

  abbrev elsewhere : ℕ → Bool
  elsewhere f = not (here f)

  -- function number j behind number f lies in its row
  in_row : (f x y : ℕ) (fs : List Blocks) (j : ℕ) → j < length fs → InRow (here (f + j)) x (row_size elsewhere f fs) y (row_size here f fs) (slice_index (bases_from placed f x y fs) j) (blocks_size (slice_index_or fs j []))
  in_row f x y [] j low = absurd (omega (arith, low))
  in_row f x y (bs ∷ fs) zero low =
      subst (λ k. InRow (here k) x (row_size elsewhere f (bs ∷ fs)) y (row_size here f (bs ∷ fs)) (slice_index (bases_from placed f x y (bs ∷ fs)) 0) (blocks_size bs)) (own f) (first (here f))
    where
      own : (n : ℕ) → n ≡ n + 0
      own n = omega arith

      first : (b : Bool)
          → InRow b x ((if not b then blocks_size bs else 0) + row_size elsewhere (suc f) fs) y ((if b then blocks_size bs else 0) + row_size here (suc f) fs) (slice_index (if b then y ∷ bases_from placed (suc f) x (y + blocks_size bs) fs else x ∷ bases_from placed (suc f) (x + blocks_size bs) y fs) 0) (blocks_size bs)
      first true = (omega arith, omega arith)
      first false = (omega arith, omega arith)
  in_row f x y (bs ∷ fs) (suc j) low =
      subst (λ k. InRow (here k) x (row_size elsewhere f (bs ∷ fs)) y (row_size here f (bs ∷ fs)) (slice_index (bases_from placed f x y (bs ∷ fs)) (suc j)) (blocks_size (slice_index_or fs j []))) (onward f j)
      (later (here f) (here (suc f + j)) (λ u w. in_row (suc f) u w fs j (omega (arith, low))))
    where
      onward : (n m : ℕ) → suc n + m ≡ n + suc m
      onward n m = omega arith

      later : (b c : Bool) → ((u w : ℕ) → InRow c u (row_size elsewhere (suc f) fs) w (row_size here (suc f) fs) (slice_index (bases_from placed (suc f) u w fs) j) (blocks_size (slice_index_or fs j [])))
          → InRow c x ((if not b then blocks_size bs else 0) + row_size elsewhere (suc f) fs) y ((if b then blocks_size bs else 0) + row_size here (suc f) fs) (slice_index (if b then y ∷ bases_from placed (suc f) x (y + blocks_size bs) fs else x ∷ bases_from placed (suc f) (x + blocks_size bs) y fs) (suc j)) (blocks_size (slice_index_or fs j []))
      later true true go = let h = go x (y + blocks_size bs) in let from = h.0 in let to = h.1 in (omega (arith, from), omega (arith, to))
      later true false go = let h = go x (y + blocks_size bs) in let from = h.0 in let to = h.1 in (omega (arith, from), omega (arith, to))
      later false true go = let h = go (x + blocks_size bs) y in let from = h.0 in let to = h.1 in (omega (arith, from), omega (arith, to))
      later false false go = let h = go (x + blocks_size bs) y in let from = h.0 in let to = h.1 in (omega (arith, from), omega (arith, to))

-- arrays
by_storage : (placed : Bool) (s : Storage) (small : Bool) → region_of (if placed then Scratchpad else row_by s small) ≡ array_region placed s
by_storage true s small = refl
by_storage false Fixed' small = refl
by_storage false Global true = refl
by_storage false Global false = refl
by_storage false Local true = refl
by_storage false Local false = refl

module _ (pl : Placement) (p : Placed) where
  pub region_is : (o : ℕ) (x : Object) → slice_get p.objects o ≡ Some x → regions_of pl p o ≡ array_region (slice_index_or pl.objects o false) x.storage
  region_is o x e = ap (region_by (slice_index_or pl.objects o false)) e ∙ by_storage (slice_index_or pl.objects o false) x.storage (nat_le (array_size x) small_room)

  module _ (is : IsSettled (laid_of pl p)) where
    abbrev base : ℕ → ℕ
    base f = base_of (placing (laid_of pl p)) f

    abbrev size : ℕ → ℕ
    size f = blocks_size (blocks_of (placing (laid_of pl p)) f)

    -- a function, or the start code
    pub function_in_row : (f : ℕ) → f ≤ length p.functions → InRow (in_scratchpad (rows_in pl p) f) 0 (row_size (λ g. not (in_scratchpad (rows_in pl p) g)) 0 (formed_in pl p)) (placed_end (spots_in (data_in pl p))) (row_size (in_scratchpad (rows_in pl p)) 0 (formed_in pl p)) (base f) (size f)
    function_in_row f low =
        let many = count (laid_of pl p) is in
        subst
        (λ k. InRow (in_scratchpad (rows_in pl p) k) 0 (row_size (λ g. not (in_scratchpad (rows_in pl p) g)) 0 (formed_in pl p)) (placed_end (spots_in (data_in pl p))) (row_size (in_scratchpad (rows_in pl p)) 0 (formed_in pl p)) (base f) (size f)) (own f)
        (in_row pl.functions 0 0 (placed_end (spots_in (data_in pl p))) (formed_in pl p) f (omega (arith, low, many)))
      where
        own : (n : ℕ) → 0 + n ≡ n
        own n = omega arith

    module _ (fits : FitsImage pl p) where
      in_region : (b : Bool) (at n : ℕ) → InRow b 0 (row_size (λ g. not (in_scratchpad (rows_in pl p) g)) 0 (formed_in pl p)) (placed_end (spots_in (data_in pl p))) (row_size (in_scratchpad (rows_in pl p)) 0 (formed_in pl p)) at n → LiesIn (code_region b) at n
      in_region true at n h =
          let from = h.0 in
          let to = h.1 in
          let row = scratchpad_row pl p in
          let room = (fit_segments pl p fits).scratchpad_code in
          record { from = omega (arith, from); to = omega (arith, to, row, room) }
      in_region false at n h =
          let to = h.1 in
          let row = flash_row pl p in
          let room = (fit_segments pl p fits).flash_code in
          record { from = omega arith; to = omega (arith, to, row, room) }

      pub all_lie : LieWherePlaced pl p
      all_lie = record {
        functions = λ f low. in_region (in_scratchpad (rows_in pl p) f) (base f) (size f) (function_in_row f low);
        function_regions = λ f. refl;
        arrays = λ o x e. objects_lie pl p fits.memory (ends p ram 0 p.functions) (frames_end_even p ram 0 p.functions refl) o x e;
        array_regions = region_is;
      }
