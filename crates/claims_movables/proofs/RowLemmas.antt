-- What may be moved by the layout is what may be moved of a laid program.
use Rattle.std.proofs.Common.{◌≡◌, ℕ, zero, suc, ◌+◌, ◌*◌, ◌/◌, ◌<◌, ◌≤◌, true, false, List, [], ◌∷◌, ◌++◌, length, map, refl, sym, ap, ◌∙◌, arith, add-one}
use Rattle.std.specs.Prelude.{slice_index_or}
use Rattle.std.specs.List.{flat_map, range_with_len}
use Rattle.std.proofs.lemmas.List.{length-map, map-append}
use Rattle.std.proofs.lemmas.List.FromFn.{map-range_with_len_more}
use Rattle.rv_core.specs.declared.regions.Region.{Region}
use Rattle.asm_items.specs.Placings.{Blocks, base_of, blocks_size}
use Rattle.asm_forms.specs.Layouts.{formed}
use Rattle.asm_forms.specs.Shorter.{blocks_longest, functions_longest}
use Rattle.asm_forms.proofs.Formed.{formed_longest}
use Rattle.low_ir.specs.Arrays.{array_size}
use Rattle.low_ir.specs.Code.{Function, Note, Object}
use Rattle.low_ir.specs.View.{function_of}
use Rattle.low_ir.specs.Places.{Assignment, place_functions}
use Rattle.low_ir.specs.Placings.{assignment_of, placed_of}
use Rattle.low_ir.specs.Programs.{low_of}
use Rattle.asm_program.specs.Frames.{Memory}
use Rattle.asm_program.specs.Functions as low
use Rattle.asm_program.proofs.ItemLemmas.{of_function}
use Rattle.asm_sound.specs.Functions.{near_blocks}
use Rattle.claims_definition.specs.Listed.{Laid, by_address, placing}
use Rattle.claims_definition.specs.Movables.{Movable, array_item, arrays_from, code_region, function_item, is_local, movables_of, only_in, unless, words_at}
use Rattle.claims_lists.specs.declared.laying.Laying.{Laying}
use Rattle.claims_lists.specs.declared.marks.Marked.{Marked}
use Rattle.claims_lists.specs.Lists.{IsOf}
use Rattle.claims_lists.specs.Marks.{places_among}
use Rattle.claims_lists.specs.Places.{base_in, blocks_in}
use Rattle.claims_lists.proofs.Listing.{base_same, blocks_same}
use Rattle.claims_places.specs.Places.{sorted}
use Rattle.claims_movables.specs.Listed.{array_in, arrays_in, function_in, lists_below, low_blocks, size_in}
use Rattle.claims_movables.specs.Near.{blocks_near}
use Rattle.claims_movables.proofs.NearLemmas.{near_at}

-- one instruction more
words_suc : (a n : ℕ) → words_at a (suc n) ≡ words_at a n ++ (a + 4 * n) ∷ []
words_suc a zero = let z : a ≡ a + 4 * 0 = omega arith in ap (λ k. k ∷ []) z
words_suc a (suc n) = let e : a + 4 + 4 * n ≡ a + 4 * suc n = omega arith in ap (λ l. a ∷ l) (words_suc (a + 4) n ∙ ap (λ k. words_at (a + 4) n ++ k ∷ []) e)

pub words_step : (a n x : ℕ) (old new : List ℕ) → new ≡ old ++ x ∷ [] → x ≡ a + 4 * n → old ≡ words_at a n → new ≡ words_at a (n + 1)
words_step a n x old new e is h =
    e
    ∙ ap (λ k. old ++ k ∷ []) is
    ∙ ap (λ l. l ++ (a + 4 * n) ∷ []) h
    ∙ sym (words_suc a n)
    ∙ ap (words_at a) (sym (add-one n))

-- one function more
pub items_step : {A : Type 0} (view : A → Movable) (g : ℕ → Movable) (n : ℕ) (old new : List A) (x : A) → new ≡ old ++ x ∷ [] → view x ≡ g n → map view old ≡ map g (range_with_len 0 n) → map view new ≡ map g (range_with_len 0 (n + 1))
items_step view g n old new x e is h =
    let z : 0 + n ≡ n = omega arith in
    ap (map view) e
    ∙ map-append view old (x ∷ [])
    ∙ ap (λ l. l ++ view x ∷ []) h
    ∙ ap (λ i. map g (range_with_len 0 n) ++ i ∷ []) is
    ∙ sym (map-range_with_len_more g 0 n n z)

longest_at : (fs : List Blocks) (f : ℕ) → blocks_longest (slice_index_or fs f []) ≡ slice_index_or (functions_longest fs) f []
longest_at [] zero = refl
longest_at [] (suc f) = refl
longest_at (x ∷ fs) zero = refl
longest_at (x ∷ fs) (suc f) = longest_at fs f

pub functions_count : (a : Assignment) (k : ℕ) (fns : List (Function ℕ Note)) → length (place_functions a k fns) ≡ length fns
functions_count a k [] = refl
functions_count a k (fn ∷ fns) = ap suc (functions_count a (suc k) fns)

-- maps that are the same below a number
maps_same : {A : Type 0} (g h : ℕ → A) (k n : ℕ) → ((j : ℕ) → j < k + n → g j ≡ h j) → map g (range_with_len k n) ≡ map h (range_with_len k n)
maps_same g h k zero same = refl
maps_same g h k (suc n) same =
    ap (λ x. x ∷ map g (range_with_len (k + 1) n)) (same k (omega arith))
    ∙ ap (λ xs. h k ∷ xs) (maps_same g h (k + 1) n (λ j less. same j (omega (arith, less))))

module _ (y : Laying) (l : Laid) (is : IsOf y l) (m : Memory) (memory : l.memory ≡ m) where
  size_same : (f : ℕ) → f < length l.program.functions → size_in y m f ≡ blocks_size (blocks_longest (low.function_items l.memory l.program f)) + 4 * near_blocks l.memory (low.function_in l.program f).blocks
  size_same f less =
      let fs = low.program_items l.memory l.program in
      let code = y.code.now in
      let longest : blocks_longest (blocks_in y.layout.now f) ≡ blocks_longest (low.function_items l.memory l.program f) =
      ap (λ gs. blocks_longest (slice_index_or gs f [])) is.laid.functions
      ∙ longest_at (formed l.rows fs) f
      ∙ ap (λ gs. slice_index_or gs f []) (formed_longest l.rows fs)
      ∙ sym (longest_at fs f)
      ∙ ap blocks_longest (of_function l.memory l.program f less) in
      let near : blocks_near m (low_blocks y f) ≡ near_blocks l.memory (low.function_in l.program f).blocks =
      sym (near_at m (assignment_of code) 0 (low_of code.low).functions f)
      ∙ ap (λ k. near_blocks k (low.function_in (placed_of code) f).blocks) (sym memory)
      ∙ ap (λ p. near_blocks l.memory (low.function_in p f).blocks) (sym is.program) in
      ap (λ bs. blocks_size bs + 4 * blocks_near m (low_blocks y f)) longest
      ∙ ap (λ k. blocks_size (blocks_longest (low.function_items l.memory l.program f)) + 4 * k) near

  function_same : (f : ℕ) → f < length l.program.functions → function_in y m f ≡ function_item l f
  function_same f less =
      let build : ℕ → Region → ℕ → Blocks → Movable = λ s r a bs. record { id = f; size = s; code = true; region = r; at = words_at a (blocks_size bs / 4) } in
      let s = size_in y m f in
      let r = code_region (slice_index_or y.placed.now f false) in
      let size = low.function_items l.memory l.program f in
      let own = blocks_size (blocks_longest size) + 4 * near_blocks l.memory (low.function_in l.program f).blocks in
      let row = code_region (slice_index_or l.rows.placed f false) in
      ap (λ k. build k r (base_in y.layout.now f) (blocks_in y.layout.now f)) (size_same f less)
      ∙ ap (λ placed. build own (code_region (slice_index_or placed f false)) (base_in y.layout.now f) (blocks_in y.layout.now f)) (sym is.placed)
      ∙ ap (λ a. build own row a (blocks_in y.layout.now f)) (base_same y l is f)
      ∙ ap (λ bs. build own row (base_of (placing l) f) bs) (blocks_same y l is f)

  pub functions_same : map (function_in y m) (range_with_len 0 (length y.code.now.low.functions.items)) ≡ map (function_item l) (range_with_len 0 (length l.program.functions))
  functions_same =
      let fns = y.code.now.low.functions.items in
      let count : length l.program.functions ≡ length fns = ap (λ p. length p.functions) is.program ∙ functions_count (assignment_of y.code.now) 0 (map function_of fns) ∙ length-map fns function_of in
      ap (λ n. map (function_in y m) (range_with_len 0 n)) (sym count)
      ∙ maps_same (function_in y m) (function_item l) 0 (length l.program.functions) (λ j less. function_same j (omega (arith, less)))

each_same : {A B : Type 0} (g h : A → B) → ((x : A) → g x ≡ h x) → (xs : List A) → map g xs ≡ map h xs
each_same g h same [] = refl
each_same g h same (x ∷ xs) = ap (λ y. y ∷ map g xs) (same x) ∙ ap (λ ys. h x ∷ ys) (each_same g h same xs)

pub lists_are : (l : Laid) (accesses : List Marked) (n : ℕ) → ((o : ℕ) → places_among o accesses ≡ flat_map (only_in l o) (by_address l)) → sorted n accesses ≡ lists_below l n
lists_are l accesses n same = each_same (λ o. places_among o accesses) (λ o. flat_map (only_in l o) (by_address l)) same (range_with_len 0 n)

-- a list of these, by its number
list_at : (g : ℕ → List ℕ) (k n o : ℕ) → o < n → slice_index_or (map g (range_with_len k n)) o [] ≡ g (k + o)
list_at g k zero o less = absurd (omega (arith, less))
list_at g k (suc n) zero less = let z : k ≡ k + 0 = omega arith in ap g z
list_at g k (suc n) (suc o) less = let e : k + 1 + o ≡ k + suc o = omega arith in list_at g (k + 1) n o (omega (arith, less)) ∙ ap g e

module _ (l : Laid) (functions : ℕ) (regions : ℕ → Region) (same : (o : ℕ) → l.regions o ≡ regions o) (count : length l.program.functions ≡ functions) (n : ℕ) where
  abbrev lists : List (List ℕ)
  lists = lists_below l n

  array_same : (o : ℕ) (x : Object) → o < n → array_in functions regions lists o x ≡ array_item l o x
  array_same o x less =
      let build : ℕ → Region → List ℕ → Movable = λ k r at. record { id = k + o; size = array_size x; code = false; region = r; at = at } in
      let z : 0 + o ≡ o = omega arith in
      let at : slice_index_or lists o [] ≡ flat_map (only_in l o) (by_address l) = list_at (λ i. flat_map (only_in l i) (by_address l)) 0 n o less ∙ ap (λ i. flat_map (only_in l i) (by_address l)) z in
      ap (λ k. build k (regions o) (slice_index_or lists o [])) (sym count)
      ∙ ap (λ r. build (length l.program.functions) r (slice_index_or lists o [])) (sym (same o))
      ∙ ap (build (length l.program.functions) (l.regions o)) at

  arrays_same : (o : ℕ) (xs : List Object) → o + length xs ≤ n → arrays_in functions regions lists o xs ≡ arrays_from l o xs
  arrays_same o [] room = refl
  arrays_same o (x ∷ xs) room =
      ap (λ i. unless (is_local x.storage) i ++ arrays_in functions regions lists (suc o) xs) (array_same o x (omega (arith, room)))
      ∙ ap (λ is. unless (is_local x.storage) (array_item l o x) ++ is) (arrays_same (suc o) xs (omega (arith, room)))

  -- the functions, and behind them the arrays
  pub movables_same : (made : List Movable) (before : List Movable) → made ≡ before ++ arrays_in functions regions lists 0 l.program.objects → before ≡ map (function_item l) (range_with_len 0 (length l.program.functions)) → length l.program.objects ≤ n → made ≡ movables_of l
  movables_same made before e fs room =
      e
      ∙ ap (λ is. before ++ is) (arrays_same 0 l.program.objects (omega (arith, room)))
      ∙ ap (λ is. is ++ arrays_from l 0 l.program.objects) fs
