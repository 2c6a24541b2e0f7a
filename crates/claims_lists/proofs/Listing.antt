-- The lists by layout are those of a laid program.
use Rattle.std.proofs.Common.{◌≡◌, ℕ, zero, suc, ◌+◌, List, [], ◌∷◌, ◌++◌, length, map, refl, sym, ap, ◌∙◌, arith, add-one}
use Rattle.std.specs.Prelude.{Option, slice_get, slice_index, slice_index_or}
use Rattle.std.specs.List.{flat_map, range_with_len}
use Rattle.std.proofs.lemmas.List.{length-map}
use Rattle.std.proofs.lemmas.List.FromFn.{map-range_with_len_more}
use Rattle.code_flow_system.specs.declared.claims.LoopClaim.{LoopClaim}
use Rattle.code_flow_system.specs.declared.shapes.Span.{Span}
use Rattle.asm_items.specs.Items.{total}
use Rattle.asm_items.specs.Placings.{Blocks, Placing, base_of, block_of, blocks_of, blocks_size, end_of, start_of, starts_from}
use Rattle.asm_forms.specs.declared.layouts.Layout.{Layout}
use Rattle.asm_forms.specs.Layouts.{formed}
use Rattle.asm_forms.specs.Regions.{Rows, bases_of}
use Rattle.asm_forms.specs.Shorter.{blocks_longest}
use Rattle.asm_forms.proofs.Formed.{formed_longest}
use Rattle.asm_graphs.specs.Laid.{last_of, span_of, spans_from}
use Rattle.low_ir.specs.Code.{Loop}
use Rattle.low_ir.specs.Formed.{opening}
use Rattle.low_ir.specs.Turns as turns
use Rattle.low_ir.specs.Places.{Placed}
use Rattle.asm_program.specs.Frames.{Memory}
use Rattle.asm_program.specs.Functions.{PlacedBlock, PlacedFunction, function_in, functions_from, program_items, start_items}
use Rattle.claims_definition.specs.Listed.{CodeRange, Laid, by_address, code_range, functions_of, loop_claim, loops_at, loops_from, loops_in, places_in, placing}
use Rattle.claims_definition.specs.Listed as listed
use Rattle.claims_definition.specs.Shapes.{AreShaped}
use Rattle.claims_lists.specs.declared.laying.Laying.{Laying}
use Rattle.claims_lists.specs.Lists.{IsOf, first_mark, range_in}
use Rattle.claims_lists.specs.Loops.{claim_in, claims_in, loops_under}
use Rattle.claims_lists.specs.Marks.{marked_from, marks_in, places_among}
use Rattle.claims_lists.specs.Outlines.{Outline, mark_in, outline, outline_at}
use Rattle.claims_lists.specs.Places.{base_in, block_in, blocks_in, end_in, last_in, start_in, starts_in}
use Rattle.claims_lists.specs.Rows.{ordered}
use Rattle.claims_lists.specs.Spans.{shape_in, span_in, spans_in}
use Rattle.claims_lists.proofs.Marking.{among_all, among_blocks}
use Rattle.claims_lists.proofs.Outlined.{outline_same}
use Rattle.claims_lists.proofs.Rooms.{table_at}

map_same : {A B : Type 0} (g h : A → B) → ((x : A) → g x ≡ h x) → (xs : List A) → map g xs ≡ map h xs
map_same g h same [] = refl
map_same g h same (x ∷ xs) = ap (λ y. y ∷ map g xs) (same x) ∙ ap (λ ys. h x ∷ ys) (map_same g h same xs)

flat_same : {A B : Type 0} (g h : A → List B) → ((x : A) → g x ≡ h x) → (xs : List A) → flat_map g xs ≡ flat_map h xs
flat_same g h same [] = refl
flat_same g h same (x ∷ xs) = ap (λ ys. ys ++ flat_map g xs) (same x) ∙ ap (λ ys. h x ++ ys) (flat_same g h same xs)

first_is : (bs : List PlacedBlock) → first_mark (map mark_in bs) ≡ turns.mark_in (slice_get bs 0)
first_is [] = refl
first_is (b ∷ bs) = refl

under_is : (ks : List Loop) (b : ℕ) (bs : List PlacedBlock) → loops_under ks b (length (map mark_in bs)) ≡ loops_from ks b bs
under_is ks b [] = refl
under_is ks b (x ∷ bs) = ap (λ l. loops_at b ks ++ l) (under_is ks (suc b) bs)

items_count : (m : Memory) (p : Placed) (f : ℕ) (fns : List PlacedFunction) → length (functions_from m p f fns ++ start_items m.second p.main ∷ []) ≡ suc (length fns)
items_count m p f [] = refl
items_count m p f (fn ∷ fns) = ap suc (items_count m p (suc f) fns)

formed_count : (r : Rows) (fs : List Blocks) → length (formed r fs) ≡ length fs
formed_count r fs = sym (length-map (formed r fs) blocks_longest) ∙ ap length (formed_longest r fs) ∙ length-map fs blocks_longest

functions_count : (l : Laid) → length (functions_of l) ≡ suc (length l.program.functions)
functions_count l = formed_count l.rows (program_items l.memory l.program) ∙ items_count l.memory l.program 0 l.program.functions

module _ (y : Laying) (l : Laid) (is : IsOf y l) where
  abbrev at : Placing
  at = placing l

  pub order_same : ordered y.placed.now (length y.layout.now.functions.items) ≡ by_address l
  order_same =
      ap (λ fs. ordered y.placed.now (length fs)) is.laid.functions
      ∙ ap (λ p. ordered p (length (functions_of l))) (sym is.placed)

  outline_is : (f : ℕ) → outline_at y.code.now f ≡ outline (function_in l.program f)
  outline_is f = sym (outline_same y.code.now f) ∙ ap (λ p. outline (function_in p f)) (sym is.program)

  pub base_same : (f : ℕ) → base_in y.layout.now f ≡ base_of at f
  base_same f = ap (λ bs. slice_index bs f) is.laid.bases

  pub blocks_same : (f : ℕ) → blocks_in y.layout.now f ≡ blocks_of at f
  blocks_same f = ap (λ fs. slice_index_or fs f []) is.laid.functions

  end_same : (f : ℕ) → end_in y.layout.now f ≡ end_of at f
  end_same f = ap (λ a. a + blocks_size (blocks_in y.layout.now f)) (base_same f) ∙ ap (λ bs. base_of at f + blocks_size bs) (blocks_same f)

  starts_same : (f : ℕ) → starts_in y.layout.now f ≡ starts_from (base_of at f) (blocks_of at f)
  starts_same f =
      let z : 0 + f ≡ f = omega arith in
      ap (λ t. slice_index_or t f []) is.laid.starts
      ∙ table_at (bases_of l.rows (functions_of l)) 0 (functions_of l) f
      ∙ ap (λ n. starts_from (slice_index (bases_of l.rows (functions_of l)) n) (blocks_of at f)) z

  start_same : (f b : ℕ) → start_in y.layout.now f b ≡ start_of at f b
  start_same f b = ap (λ t. slice_index t b) (starts_same f)

  last_same : (f b : ℕ) → last_in y.layout.now f b ≡ last_of at f b
  last_same f b =
      let here : start_in y.layout.now f b ≡ start_of at f b = start_same f b in
      let size : total (block_in y.layout.now f b) ≡ total (block_of at f b) = ap (λ bs. total (slice_index_or bs b [])) (blocks_same f) in
      omega (arith, here, size)

  pub ranges_same : map (range_in y.code.now y.layout.now) (ordered y.placed.now (length y.layout.now.functions.items)) ≡ listed.code_ranges l
  ranges_same =
      ap (map (range_in y.code.now y.layout.now)) order_same
      ∙ map_same (range_in y.code.now y.layout.now) (code_range l) each (by_address l)
    where
      each : (f : ℕ) → range_in y.code.now y.layout.now f ≡ code_range l f
      each f =
          let y' = y.layout.now in
          let named : first_mark (outline_at y.code.now f).marks ≡ opening (function_in l.program f) = ap (λ (o : Outline). first_mark o.marks) (outline_is f) ∙ first_is (function_in l.program f).blocks in
          let build : Option ℕ → ℕ → ℕ → CodeRange = λ o a b. record { function = o; first = a; end = b } in
          ap (λ o. build o (base_in y' f) (end_in y' f)) named
          ∙ ap (λ a. build (opening (function_in l.program f)) a (end_in y' f)) (base_same f)
          ∙ ap (λ b. build (opening (function_in l.program f)) (base_of at f) b) (end_same f)

  claim_same : (f : ℕ) (k : Loop) → claim_in y.layout.now f k ≡ loop_claim l f k
  claim_same f k =
      let build : ℕ → ℕ → LoopClaim = λ a b. record { source = k.id; factor = 1; min = k.least; max = k.most; header = a; back = b } in
      ap (λ a. build a (last_in y.layout.now f k.latch)) (start_same f k.header)
      ∙ ap (λ b. build (start_of at f k.header) b) (last_same f k.latch)

  claims_same : (f : ℕ) → claims_in y.code.now y.layout.now f ≡ loops_in l f
  claims_same f =
      let fn = function_in l.program f in
      ap (λ (o : Outline). map (claim_in y.layout.now f) (loops_under o.loops 0 (length o.marks))) (outline_is f)
      ∙ ap (map (claim_in y.layout.now f)) (under_is fn.loops 0 fn.blocks)
      ∙ map_same (claim_in y.layout.now f) (loop_claim l f) (claim_same f) (loops_from fn.loops 0 fn.blocks)

  pub loops_same : flat_map (claims_in y.code.now y.layout.now) (ordered y.placed.now (length y.layout.now.functions.items)) ≡ listed.loops_of l
  loops_same =
      ap (flat_map (claims_in y.code.now y.layout.now)) order_same
      ∙ flat_same (claims_in y.code.now y.layout.now) (loops_in l) claims_same (by_address l)

  pub places_same : (mark : ℕ) → places_among mark (flat_map (marks_in y.code.now y.layout.now) (ordered y.placed.now (length y.layout.now.functions.items))) ≡ listed.places_of l mark
  places_same mark =
      ap (λ fs. places_among mark (flat_map (marks_in y.code.now y.layout.now) fs)) order_same
      ∙ among_all mark (marks_in y.code.now y.layout.now) (places_in l mark) each (by_address l)
    where
      each : (f : ℕ) → places_among mark (marks_in y.code.now y.layout.now f) ≡ places_in l mark f
      each f =
          let bs = (function_in l.program f).blocks in
          ap (λ (o : Outline). places_among mark (marked_from (starts_in y.layout.now f) 0 o.marks)) (outline_is f)
          ∙ among_blocks mark (starts_in y.layout.now f) 0 bs
          ∙ ap (λ t. map (slice_index t) (listed.marked_from mark 0 bs)) (starts_same f)

  span_same : (f : ℕ) → span_in y.layout.now f ≡ span_of at f
  span_same f =
      let build : ℕ → ℕ → Span = λ a b. record { first = a; end = b } in
      ap (λ a. build a (end_in y.layout.now f)) (start_same f 0) ∙ ap (λ b. build (start_of at f 0) b) (end_same f)

  spans_from_same : (k n : ℕ) → map (span_in y.layout.now) (range_with_len k n) ≡ spans_from at k n
  spans_from_same k zero = refl
  spans_from_same k (suc n) =
      ap (λ s. s ∷ map (span_in y.layout.now) (range_with_len (k + 1) n)) (span_same k)
      ∙ ap (λ ss. span_of at k ∷ ss) (spans_from_same (k + 1) n)
      ∙ ap (λ j. span_of at k ∷ spans_from at j n) (add-one k)

  pub spans_same : spans_in y.layout.now (length y.layout.now.functions.items) ≡ spans_from at 0 (suc (length l.program.functions))
  spans_same =
      ap (λ fs. spans_in y.layout.now (length fs)) is.laid.functions
      ∙ spans_from_same 0 (length (functions_of l))
      ∙ ap (spans_from at 0) (functions_count l)

pub are_shaped : (cs : List LoopClaim) → AreShaped cs (map shape_in cs)
are_shaped [] = tt
are_shaped (c ∷ cs) = (record { header = refl; back = refl; first = refl; last = refl }, are_shaped cs)

pub spans_more : (y : Layout) (n : ℕ) (old new : List Span) → old ≡ spans_in y n → new ≡ old ++ span_in y n ∷ [] → new ≡ spans_in y (n + 1)
spans_more y n old new h e =
    let z : 0 + n ≡ n = omega arith in
    e ∙ ap (λ l. l ++ span_in y n ∷ []) h ∙ sym (map-range_with_len_more (span_in y) 0 n n z)
