-- The ranges of functions.
use Rattle.std.proofs.Common.{◌≡◌, ℕ, suc, ◌<◌, ◌≤◌, List, [], ◌∷◌, length, map, refl, sym, ap, ◌∙◌, subst, arith, Contains}
use Rattle.std.specs.Prelude.{slice_index, slice_index_or}
use Rattle.std.proofs.lemmas.List.{get_or-map, get_or_past, length-map}
use Rattle.asm_items.specs.Items.{total}
use Rattle.asm_items.specs.Placings.{Blocks, base_of, blocks_of, blocks_size, end_of, starts_from}
use Rattle.low_ir.specs.Formed.{opening}
use Rattle.asm_program.specs.Functions.{PlacedFunction, block_count, no_function}
use Rattle.asm_program.proofs.GraphLemmas.{shaped}
use Rattle.claims_definition.specs.ClaimLaws.{AreRanges, IsSettled, RangesAscend}
use Rattle.claims_definition.specs.Listed.{CodeRange, Laid, by_address, code_range, code_ranges, functions_of, placing}
use Rattle.claims_definition.proofs.Along.{last_end}
use Rattle.claims_definition.proofs.Blocks.{AllBelow, all_in_order, block_some, blocks_count, order_below}
use Rattle.claims_definition.proofs.Ordered.{Spaced, formed_spaced}
use Rattle.asm_program.specs.Functions.{program_items}

first_start : (a : ℕ) (bs : Blocks) → 0 < length bs → slice_index (starts_from a bs) 0 ≡ a
first_start a [] h = absurd (omega (arith, h))
first_start a (xs ∷ bs) h = refl

first_room : (bs : Blocks) → 0 < length bs → total (slice_index_or bs 0 []) ≤ blocks_size bs
first_room [] h = absurd (omega (arith, h))
first_room (xs ∷ bs) h = omega arith

module _ (l : Laid) (is : IsSettled l) where
  abbrev range : ℕ → CodeRange
  range f = code_range l f

  has_block : (f : ℕ) → f < suc (length l.program.functions) → 0 < block_count l.memory l.program f
  has_block f low = let g = shaped l.memory l.program is.program in g.some f low

  has_blocks : (f : ℕ) → f < suc (length l.program.functions) → 0 < length (blocks_of (placing l) f)
  has_blocks f low = subst (λ n. 0 < n) (sym (blocks_count l is f)) (has_block f low)

  ascend : (a : ℕ) (fs : List ℕ) (end : ℕ) → AllBelow (suc (length l.program.functions)) fs → Spaced l.rows (functions_of l) a fs end → RangesAscend a (map range fs)
  ascend a [] end there h = tt
  ascend a (f ∷ fs) end there h =
      let some = block_some l is f 0 there.0 (has_block f there.0) in
      let room = first_room (blocks_of (placing l) f) (has_blocks f there.0) in
      (h.0, (omega (arith, some, room), ascend (end_of (placing l) f) fs end there.1 h.1.1))

  lower : (a b : ℕ) (rs : List CodeRange) → b ≤ a → RangesAscend a rs → RangesAscend b rs
  lower a b [] low h = tt
  lower a b (r ∷ rs) low h = let k = h.0 in (omega (arith, low, k), h.1)

  listed : (f : ℕ) → f ≤ length l.program.functions → Contains (code_ranges l) (range f)
  listed f low =
      let c = all_in_order l is f (omega (arith, low)) in
      let size = length-map (by_address l) range in
      let there = c.1 in
      (c.0, omega (arith, size, there), get_or-map range (by_address l) c.0 f (range f) there ∙ ap range c.2)

  pub ranges_hold : AreRanges l
  ranges_hold = record {
    ascend = lower l.rows.flash 0 (code_ranges l) (omega arith) (ascend l.rows.flash (by_address l) (last_end l) (order_below l is) (formed_spaced l.rows (program_items l.memory l.program) is.rows));
    every = listed;
    begins = λ f low. sym (first_start (base_of (placing l) f) (blocks_of (placing l) f) (has_blocks f (omega (arith, low))));
    unnamed = ap (λ (fn : PlacedFunction). opening fn) (get_or_past l.program.functions (length l.program.functions) no_function (omega arith));
  }
