-- The noted items of a program are its items, with what they touch.
use Rattle.std.proofs.Common.{◌≡◌, ℕ, zero, suc, ◌+◌, ◌-◌, ◌<◌, ◌≤◌, Bool, true, false, List, [], ◌∷◌, ◌++◌, length, map, Option, Some, None, refl, sym, ap, ◌∙◌, subst, ⊎_elim, arith, append_assoc}
use Rattle.std.specs.Prelude.{slice_get, slice_index_or}
use Rattle.std.proofs.lemmas.Bool.{cases_lt}
use Rattle.std.proofs.lemmas.List.{append-nil, map-append, get_or_append_left, get_or-append-add, get_or_past}
use Rattle.rv_core.specs.Instructions.{Instruction, instruction}
use Rattle.asm_items.specs.declared.item.Item.{Item}
use Rattle.asm_items.specs.declared.item.Item.TheVariants as items
use Rattle.low_ir.specs.declared.places.Place.{Place}
use Rattle.low_ir.specs.Code.{Set, Operate, Point, Load, Store, Put, Get, Instr, Do, Call, End}
use Rattle.low_ir.specs.Places.{Placed}
use Rattle.asm_program.specs.Numbers.{first_free, second_free}
use Rattle.asm_program.specs.Frames.{Memory, frame_of}
use Rattle.asm_program.specs.Operands.{address_code, address_offset, address_register, operand_code, operand_register, place_register, result_code}
use Rattle.asm_program.specs.Emission.{load_op, store_op, plain_code, before_call, behind_call}
use Rattle.asm_program.specs.Functions.{PlacedBlock, PlacedFunction, no_function, function_in, own_frame, at_once, passed_in, instr_items, end_items, body_items, filled, opening_items, block_items, blocks_from, leaving_blocks, start_items, items_at}
use Rattle.asm_program.specs.Functions as plain
use Rattle.asm_program.proofs.ItemLemmas.{of_block, of_function as items_of_function, of_start as items_of_start, blocks_length as items_blocks_length}
use Rattle.claims_definition.specs.Touches.{Touch, Nothing, OfArrays, item_touch, touches, named, instr_touches, body_touches, filled_touches, block_touches, blocks_touches, leaving_touches, function_touches, functions_touches, program_touches}
use Rattle.simulation_relation.specs.Noted.{Noted, noted, singles, touching, noted_filled, noted_instr, noted_body, noted_block, noted_by, noted_at}

abbrev pub item_of : Noted → Item
item_of x = x.item

abbrev pub touch_of : Noted → Touch
touch_of x = x.touch

items_noted : (xs : List Item) → map item_of (map noted xs) ≡ xs
items_noted [] = refl
items_noted (x ∷ xs) = ap (λ ys. x ∷ ys) (items_noted xs)

touches_noted : (xs : List Item) → map touch_of (map noted xs) ≡ touches xs
touches_noted [] = refl
touches_noted (x ∷ xs) = ap (λ ts. item_touch x ∷ ts) (touches_noted xs)

-- code before noted items
code_items : (is : List Instruction) (xs : List Noted) → map item_of (singles is ++ xs) ≡ plain.singles is ++ map item_of xs
code_items [] xs = refl
code_items (i ∷ is) xs = ap (λ ys. items.Single i ∷ ys) (code_items is xs)

code_touches : (is : List Instruction) (xs : List Noted) → map touch_of (singles is ++ xs) ≡ touches (plain.singles is) ++ map touch_of xs
code_touches [] xs = refl
code_touches (i ∷ is) xs = ap (λ ts. item_touch (items.Single i) ∷ ts) (code_touches is xs)

split : (is js : List Instruction) (xs : List Item) → plain.singles (is ++ js) ++ xs ≡ plain.singles is ++ (plain.singles js ++ xs)
split [] js xs = refl
split (i ∷ is) js xs = ap (λ ys. items.Single i ∷ ys) (split is js xs)

module _ (m : Memory) (p : Placed) (f : ℕ) where
  instr_is : (i : Instr Place (List ℕ)) (xs : List Noted) → map item_of (noted_instr m p f i xs) ≡ instr_items m p f i (map item_of xs)
  instr_is (Do (Load kind d a)) xs =
      let fr = own_frame m p f in
      let address = address_code fr m a in
      let behind = result_code fr first_free second_free d in
      let load = instruction (load_op kind) (place_register fr first_free d) (address_register fr m a) 0 (address_offset fr m a) in
      code_items address (touching (OfArrays (named p a.base)) load ∷ (singles behind ++ xs))
      ∙ ap (λ ys. plain.singles address ++ (items.Single load ∷ ys)) (code_items behind xs)
      ∙ sym (split address (load ∷ behind) (map item_of xs))
  instr_is (Do (Store kind a x)) xs =
      let fr = own_frame m p f in
      let address = address_code fr m a in
      let value = operand_code fr second_free x in
      let store = instruction (store_op kind) 0 (address_register fr m a) (operand_register fr second_free x) (address_offset fr m a) in
      code_items address (singles value ++ (touching (OfArrays (named p a.base)) store ∷ xs))
      ∙ ap (λ ys. plain.singles address ++ ys) (code_items value (touching (OfArrays (named p a.base)) store ∷ xs) ∙ sym (split value (store ∷ []) (map item_of xs)))
      ∙ sym (split address (value ++ (store ∷ [])) (map item_of xs))
  instr_is (Do (Set d x)) xs = code_items (plain_code (own_frame m p f) m (Set d x)) xs
  instr_is (Do (Operate operator d x y)) xs = code_items (plain_code (own_frame m p f) m (Operate operator d x y)) xs
  instr_is (Do (Point d a)) xs = code_items (plain_code (own_frame m p f) m (Point d a)) xs
  instr_is (Do (Put x)) xs = code_items (plain_code (own_frame m p f) m (Put x)) xs
  instr_is (Do (Get d)) xs = code_items (plain_code (own_frame m p f) m (Get d)) xs
  instr_is (Call d callee args note) xs =
      let before = before_call (own_frame m p f) (frame_of m callee) (passed_in m p f callee args) note args in
      let behind = behind_call (own_frame m p f) d (passed_in m p f callee args) note in
      code_items before (noted (items.Call true callee) ∷ (singles behind ++ xs)) ∙ ap (λ ys. plain.singles before ++ (items.Call true callee ∷ ys)) (code_items behind xs)

  plainly : (is : List Instruction) (xs : List Noted) → map touch_of (singles is ++ xs) ≡ touches (plain.singles is ++ []) ++ map touch_of xs
  plainly is xs = code_touches is xs ∙ ap (λ ys. touches ys ++ map touch_of xs) (sym (append-nil (plain.singles is)))

  instr_touch : (i : Instr Place (List ℕ)) (xs : List Noted) → map touch_of (noted_instr m p f i xs) ≡ instr_touches m p f i ++ map touch_of xs
  instr_touch (Do (Load kind d a)) xs =
      let fr = own_frame m p f in
      let address = address_code fr m a in
      let behind = result_code fr first_free second_free d in
      let access = OfArrays (named p a.base) in
      let load = instruction (load_op kind) (place_register fr first_free d) (address_register fr m a) 0 (address_offset fr m a) in
      code_touches address (touching access load ∷ (singles behind ++ xs))
      ∙ ap (λ ts. touches (plain.singles address) ++ (access ∷ ts)) (code_touches behind xs)
      ∙ sym (append_assoc (touches (plain.singles address)) (access ∷ touches (plain.singles behind)) (map touch_of xs))
  instr_touch (Do (Store kind a x)) xs =
      let fr = own_frame m p f in
      let address = address_code fr m a in
      let value = operand_code fr second_free x in
      let access = OfArrays (named p a.base) in
      let store = instruction (store_op kind) 0 (address_register fr m a) (operand_register fr second_free x) (address_offset fr m a) in
      let ts = touches (plain.singles value) in
      code_touches address (singles value ++ (touching access store ∷ xs))
      ∙ ap (λ us. touches (plain.singles address) ++ us) (code_touches value (touching access store ∷ xs) ∙ sym (append_assoc ts (access ∷ []) (map touch_of xs)))
      ∙ sym (append_assoc (touches (plain.singles address)) (ts ++ (access ∷ [])) (map touch_of xs))
  instr_touch (Do (Set d x)) xs = plainly (plain_code (own_frame m p f) m (Set d x)) xs
  instr_touch (Do (Operate operator d x y)) xs = plainly (plain_code (own_frame m p f) m (Operate operator d x y)) xs
  instr_touch (Do (Point d a)) xs = plainly (plain_code (own_frame m p f) m (Point d a)) xs
  instr_touch (Do (Put x)) xs = plainly (plain_code (own_frame m p f) m (Put x)) xs
  instr_touch (Do (Get d)) xs = plainly (plain_code (own_frame m p f) m (Get d)) xs
  instr_touch (Call d callee args note) xs =
      let before = before_call (own_frame m p f) (frame_of m callee) (passed_in m p f callee args) note args in
      let behind = behind_call (own_frame m p f) d (passed_in m p f callee args) note in
      let first = touches (plain.singles before) in
      let last = touches (plain.singles behind) in
      let call = items.Call true callee in
      code_touches before (noted call ∷ (singles behind ++ xs))
      ∙ ap (λ ts. first ++ (Nothing ∷ ts)) (code_touches behind xs)
      ∙ sym
      (ap (λ ys. touches (plain.singles before ++ (call ∷ ys)) ++ map touch_of xs) (append-nil (plain.singles behind))
      ∙ ap (λ ts. ts ++ map touch_of xs) (map-append item_touch (plain.singles before) (call ∷ plain.singles behind))
      ∙ append_assoc first (Nothing ∷ last) (map touch_of xs))

  body_is : (b : ℕ) (is : List (Instr Place (List ℕ))) (end : End Place) → map item_of (noted_body m p f b is end) ≡ body_items m p f b is end
  body_is b [] end = items_noted (end_items m p f b end)
  body_is b (i ∷ is) end = instr_is i (noted_body m p f b is end) ∙ ap (instr_items m p f i) (body_is b is end)

  body_touch : (b : ℕ) (is : List (Instr Place (List ℕ))) (end : End Place) → map touch_of (noted_body m p f b is end) ≡ body_touches m p f b is end
  body_touch b [] end = touches_noted (end_items m p f b end)
  body_touch b (i ∷ is) end = instr_touch i (noted_body m p f b is end) ∙ ap (λ ts. instr_touches m p f i ++ ts) (body_touch b is end)

  filled_is : (xs : List Noted) → map item_of (noted_filled xs) ≡ filled m p f (map item_of xs)
  filled_is [] = refl
  filled_is (x ∷ xs) = refl

  filled_touch : (xs : List Noted) → map touch_of (noted_filled xs) ≡ filled_touches m p f (map touch_of xs)
  filled_touch [] = refl
  filled_touch (x ∷ xs) = refl

  block_is : (b : ℕ) (block : PlacedBlock) → map item_of (noted_block m p f b block) ≡ block_items m p f b block
  block_is b block =
      let opening = opening_items m p f b in
      let body = noted_body m p f b block.code block.end in
      filled_is (map noted opening ++ body)
      ∙ ap (filled m p f)
      (map-append item_of (map noted opening) body
      ∙ ap (λ ys. ys ++ map item_of body) (items_noted opening)
      ∙ ap (λ ys. opening ++ ys) (body_is b block.code block.end))

  block_touch : (b : ℕ) (block : PlacedBlock) → map touch_of (noted_block m p f b block) ≡ block_touches m p f b block
  block_touch b block =
      let opening = opening_items m p f b in
      let body = noted_body m p f b block.code block.end in
      filled_touch (map noted opening ++ body)
      ∙ ap (filled_touches m p f)
      (map-append touch_of (map noted opening) body
      ∙ ap (λ ts. ts ++ map touch_of body) (touches_noted opening)
      ∙ ap (λ ts. touches opening ++ ts) (body_touch b block.code block.end))

  blocks_length : (b : ℕ) (bs : List PlacedBlock) → length (blocks_touches m p f b bs) ≡ length bs
  blocks_length b [] = refl
  blocks_length b (x ∷ bs) = ap suc (blocks_length (suc b) bs)

  block_at_number : (k : ℕ) (bs : List PlacedBlock) (b : ℕ) (block : PlacedBlock) → slice_get bs b ≡ Some block → slice_index_or (blocks_touches m p f k bs) b [] ≡ block_touches m p f (k + b) block
  block_at_number k [] b block e = cc
  block_at_number k (x ∷ bs) zero block e =
      let same : x ≡ block = cc in
      let number : k ≡ k + 0 = omega arith in
      ap (block_touches m p f k) same ∙ ap (λ n. block_touches m p f n block) number
  block_at_number k (x ∷ bs) (suc b) block e =
      let number : suc k + b ≡ k + suc b = omega arith in
      block_at_number (suc k) bs b block e ∙ ap (λ n. block_touches m p f n block) number

  -- the block behind the others
  leaving_touch : (once : Bool) (j : ℕ) → slice_index_or (leaving_touches m p f once) j [] ≡ touches (slice_index_or (leaving_blocks m p f once) j [])
  leaving_touch true j = refl
  leaving_touch false zero = refl
  leaving_touch false (suc j) = refl

none_past : {A : Type 0} (xs : List A) (n : ℕ) → slice_get xs n ≡ None → length xs ≤ n
none_past [] n e = omega arith
none_past (x ∷ xs) zero e = cc
none_past (x ∷ xs) (suc n) e = let h = none_past xs n e in omega (arith, h)

some_within : {A : Type 0} (xs : List A) (n : ℕ) (x : A) → slice_get xs n ≡ Some x → n < length xs
some_within [] n x e = cc
some_within (y ∷ xs) zero x e = omega arith
some_within (y ∷ xs) (suc n) x e = let h = some_within xs n x e in omega (arith, h)

start_touch : (second main b : ℕ) → slice_index_or (map touches (start_items second main)) b [] ≡ touches (slice_index_or (start_items second main) b [])
start_touch second main zero = refl
start_touch second main (suc b) = refl

module _ (m : Memory) (p : Placed) where
  functions_length : (k : ℕ) (fns : List PlacedFunction) → length (functions_touches m p k fns) ≡ length fns
  functions_length k [] = refl
  functions_length k (fn ∷ fns) = ap suc (functions_length (suc k) fns)

  function_at_number : (k : ℕ) (fns : List PlacedFunction) (f : ℕ) → f < length fns → slice_index_or (functions_touches m p k fns) f [] ≡ function_touches m p (k + f)
  function_at_number k [] f h = absurd (omega (arith, h))
  function_at_number k (fn ∷ fns) zero h = let e : k ≡ k + 0 = omega arith in ap (function_touches m p) e
  function_at_number k (fn ∷ fns) (suc f) h = let e : suc k + f ≡ k + suc f = omega arith in function_at_number (suc k) fns f (omega (arith, h)) ∙ ap (function_touches m p) e

  of_function : (f : ℕ) → f < length p.functions → slice_index_or (program_touches m p) f [] ≡ function_touches m p f
  of_function f h =
      let n = functions_length 0 p.functions in
      let number : 0 + f ≡ f = omega arith in
      get_or_append_left (functions_touches m p 0 p.functions) (map touches (start_items m.second p.main) ∷ []) [] f (omega (arith, h, n)) ∙ function_at_number 0 p.functions f h ∙ ap (function_touches m p) number

  of_start : slice_index_or (program_touches m p) (length p.functions) [] ≡ map touches (start_items m.second p.main)
  of_start =
      let n = functions_length 0 p.functions in
      let number : length p.functions ≡ length (functions_touches m p 0 p.functions) + 0 = omega (arith, n) in
      ap (λ k. slice_index_or (program_touches m p) k []) number ∙ get_or-append-add (functions_touches m p 0 p.functions) (map touches (start_items m.second p.main) ∷ []) 0 []

  -- what the items of a block touch
  abbrev pub touches_in : ℕ → ℕ → List Touch
  touches_in f b = slice_index_or (slice_index_or (program_touches m p) f []) b []

  abbrev blocks_of : ℕ → List PlacedBlock
  blocks_of f = (function_in p f).blocks

  of_own : (f b : ℕ) (block : PlacedBlock) → f < length p.functions → slice_get (blocks_of f) b ≡ Some block → touches_in f b ≡ block_touches m p f b block
  of_own f b block h e =
      let n = blocks_length m p f 0 (blocks_of f) in
      let less = some_within (blocks_of f) b block e in
      let number : 0 + b ≡ b = omega arith in
      ap (λ ts. slice_index_or ts b []) (of_function f h)
      ∙ get_or_append_left (blocks_touches m p f 0 (blocks_of f)) (leaving_touches m p f (at_once m p f)) [] b (omega (arith, less, n))
      ∙ block_at_number m p f 0 (blocks_of f) b block e
      ∙ ap (λ k. block_touches m p f k block) number

  of_leaving : (f b : ℕ) → f < length p.functions → length (blocks_of f) ≤ b → touches_in f b ≡ touches (items_at m p f b)
  of_leaving f b h past =
      let n = blocks_length m p f 0 (blocks_of f) in
      let k = items_blocks_length m p f 0 (blocks_of f) in
      let once = at_once m p f in
      let j = b - length (blocks_of f) in
      let number : b ≡ length (blocks_touches m p f 0 (blocks_of f)) + j = omega (arith, n, past) in
      let number_of : b ≡ length (blocks_from m p f 0 (blocks_of f)) + j = omega (arith, k, past) in
      ap (λ ts. slice_index_or ts b []) (of_function f h)
      ∙ ap (λ c. slice_index_or (function_touches m p f) c []) number
      ∙ get_or-append-add (blocks_touches m p f 0 (blocks_of f)) (leaving_touches m p f once) j []
      ∙ leaving_touch m p f once j
      ∙ ap touches
      (sym
      (ap (λ bs. slice_index_or bs b []) (items_of_function m p f h)
      ∙ ap (λ c. slice_index_or (blocks_from m p f 0 (blocks_of f) ++ leaving_blocks m p f once) c []) number_of
      ∙ get_or-append-add (blocks_from m p f 0 (blocks_of f)) (leaving_blocks m p f once) j []))

  of_home : (b : ℕ) → touches_in (length p.functions) b ≡ touches (items_at m p (length p.functions) b)
  of_home b = ap (λ ts. slice_index_or ts b []) of_start ∙ start_touch m.second p.main b ∙ ap touches (sym (ap (λ bs. slice_index_or bs b []) (items_of_start m p)))

  -- the start code has no block of the program
  no_block : (f b : ℕ) (block : PlacedBlock) → length p.functions ≤ f → slice_get (blocks_of f) b ≡ Some block → ⊥
  no_block f b block past e =
      let none : function_in p f ≡ no_function = get_or_past p.functions f no_function past in
      let less = some_within (blocks_of f) b block e in
      let size : length (blocks_of f) ≡ 0 = ap (λ (fn : PlacedFunction). length fn.blocks) none in
      omega (arith, less, size)

  module _ (f b : ℕ) (there : f ≤ length p.functions) where
    items_by : (o : Option PlacedBlock) → slice_get (blocks_of f) b ≡ o → map item_of (noted_by m p f b o) ≡ items_at m p f b
    items_by None e = items_noted (items_at m p f b)
    items_by (Some block) e =
        ⊎_elim
        (λ (less : f < length p.functions). block_is m p f b block ∙ sym (of_block m p f b block less e))
        (λ (past : length p.functions ≤ f). absurd (no_block f b block past e))
        (cases_lt f (length p.functions))

    touches_by : (o : Option PlacedBlock) → slice_get (blocks_of f) b ≡ o → map touch_of (noted_by m p f b o) ≡ touches_in f b
    touches_by None e =
        touches_noted (items_at m p f b)
        ∙ sym
        (⊎_elim
        (λ (less : f < length p.functions). of_leaving f b less (none_past (blocks_of f) b e))
        (λ (past : length p.functions ≤ f). let same : length p.functions ≡ f = omega (arith, past, there) in subst (λ h. touches_in h b ≡ touches (items_at m p h b)) same (of_home b))
        (cases_lt f (length p.functions)))
    touches_by (Some block) e =
        ⊎_elim
        (λ (less : f < length p.functions). block_touch m p f b block ∙ sym (of_own f b block less e))
        (λ (past : length p.functions ≤ f). absurd (no_block f b block past e))
        (cases_lt f (length p.functions))

    -- the items of each block, and what they touch
    pub items_are : map item_of (noted_at m p f b) ≡ items_at m p f b
    items_are = items_by (slice_get (blocks_of f) b) refl

    pub touches_are : map touch_of (noted_at m p f b) ≡ touches_in f b
    touches_are = touches_by (slice_get (blocks_of f) b) refl
