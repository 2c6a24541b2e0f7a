-- The size of a function doesn't depend on where arrays lie.
use Rattle.std.proofs.Common.{◌≡◌, ℕ, suc, ◌+◌, ◌*◌, ◌%◌, ◌^◌, Bool, true, false, List, [], ◌∷◌, ◌++◌, length, Option, Some, None, refl, sym, ap, ◌∙◌, arith, length-append}
use Rattle.std.specs.Prelude.{◌||◌, if◌then◌else◌}
use Rattle.rv_core.specs.Instructions.{Instruction, addi, instruction}
use Rattle.asm_items.specs.declared.item.Item.{Item}
use Rattle.asm_items.specs.declared.item.Item.TheVariants as items
use Rattle.asm_items.specs.Items.{total}
use Rattle.asm_items.specs.Placings.{Blocks, blocks_size}
use Rattle.asm_forms.specs.Shorter.{blocks_longest, items_longest}
use Rattle.low_ir.specs.declared.places.Place.{Place}
use Rattle.low_ir.specs.Code.{Base, Fixed, Through, Set, Operate, Point, Load, Store, Put, Get, Instr, Do, Call, End, Plain}
use Rattle.low_ir.specs.Places.{Placed}
use Rattle.asm_program.specs.Emission.{before_call, behind_call, load_op, plain_code, store_op}
use Rattle.asm_program.specs.Frames.{Frame, Memory, frame_of, object_at}
use Rattle.asm_program.specs.Numbers.{first_free, is_near, is_beside, is_reached, load_upper, reach_code, object_code, object_register, second_free}
use Rattle.asm_program.specs.Operands.{address_code, address_offset, address_register, code_to, fetch_code, offset_code, operand_code, operand_register, place_register, result_code}
use Rattle.asm_program.specs.Functions.{PlacedBlock, at_once, block_items, blocks_from, body_items, filled, function_in, instr_items, leaving_blocks, opening_items, own_frame, passed_in, singles}
use Rattle.asm_sound.specs.Functions.{SizesAreKept, function_size, near_base, near_blocks, near_code, near_instr}

-- bytes in longest forms
abbrev room : List Item → ℕ
room xs = total (items_longest xs)

room_append : (xs ys : List Item) → room (xs ++ ys) ≡ room xs + room ys
room_append [] ys = omega arith
room_append (x ∷ xs) ys = let h = room_append xs ys in omega (arith, h)

room_singles : (is : List Instruction) → room (singles is) ≡ 4 * length is
room_singles [] = refl
room_singles (i ∷ is) = let h = room_singles is in omega (arith, h)

abbrev rooms : Blocks → ℕ
rooms bs = blocks_size (blocks_longest bs)

rooms_append : (xs ys : Blocks) → rooms (xs ++ ys) ≡ rooms xs + rooms ys
rooms_append [] ys = omega arith
rooms_append (x ∷ xs) ys = let h = rooms_append xs ys in omega (arith, h)

abbrev is_none : List Item → Bool
is_none [] = true
is_none (x ∷ xs) = false

none_front : (is : List Instruction) (xs ys : List Item) → is_none xs ≡ is_none ys → is_none (singles is ++ xs) ≡ is_none (singles is ++ ys)
none_front [] xs ys h = h
none_front (i ∷ is) xs ys h = refl

none_middle : (is js : List Instruction) (i : Instruction) (xs : List Item) → is_none (singles (is ++ i ∷ js) ++ xs) ≡ false
none_middle [] js i xs = refl
none_middle (k ∷ is) js i xs = refl

-- two lists with so many near accesses take the same where all are far
record IsSame (k : ℕ) (xs : List Item) (j : ℕ) (ys : List Item) : Type 0 where
  bytes : room xs + 4 * k ≡ room ys + 4 * j
  none : is_none xs ≡ is_none ys

reach_near : (t a : ℕ) → length (reach_code t a) + (if is_near a then 1 else 0) ≡ 1
reach_near t a = by_test (is_near a) refl
  where
    by_test : (b : Bool) → is_near a ≡ b → length (reach_code t a) + (if is_near a then 1 else 0) ≡ 1
    by_test true e = ap (λ b. length (if b then [] else load_upper t a ∷ []) + (if b then 1 else 0)) e
    by_test false e = ap (λ b. length (if b then [] else load_upper t a ∷ []) + (if b then 1 else 0)) e

object_near : (second t a : ℕ) → length (object_code second t a) + (if is_reached second a then 1 else 0) ≡ 1
object_near second t a = by_test (is_beside second a)
  where
    by_test : (b : Bool) → length (if b then [] else reach_code t a) + (if b || is_near a then 1 else 0) ≡ 1
    by_test true = refl
    by_test false = reach_near t a

-- where a program's data lie, but for its frames
record Spread : Type 0 where
  objects : List ℕ
  second : ℕ

abbrev with_frames : List Frame → Spread → Memory
with_frames fs s = record { frames = fs; objects = s.objects; second = s.second }

module _ (fr : Frame) (here there : Spread) (fs : List Frame) where
  abbrev m : Memory
  m = with_frames fs here

  abbrev n : Memory
  n = with_frames fs there

  offset_long : (r s : ℕ) (o : Option Place) → length (offset_code fr m r o) ≡ length (offset_code fr m s o)
  offset_long r s None = refl
  offset_long r s (Some p) = length-append (fetch_code fr second_free p) _ ∙ sym (length-append (fetch_code fr second_free p) _)

  base_same : (b : Base Place) (o : Option Place) (d : ℕ) → length (code_to fr m b o d) + near_base m b d ≡ length (code_to fr n b o d) + near_base n b d
  base_same (Through p claim) o d = refl
  base_same (Fixed x) o d =
      let a = (object_at m x + d) % 2 ^ 32 in
      let c = (object_at n x + d) % 2 ^ 32 in
      let r = object_register here.second first_free a in
      let s = object_register there.second first_free c in
      let la = length-append (object_code here.second first_free a) (offset_code fr m r o) in
      let lc = length-append (object_code there.second first_free c) (offset_code fr n s o) in
      let ra = object_near here.second first_free a in
      let rc = object_near there.second first_free c in
      let same = offset_long r s o in
      omega (arith, la, lc, ra, rc, same)

  plain_same : (i : Plain Place) → length (plain_code fr m i) + near_instr m (Do i) ≡ length (plain_code fr n i) + near_instr n (Do i)
  plain_same (Set d x) = refl
  plain_same (Operate operator d x y) = refl
  plain_same (Put x) = refl
  plain_same (Get d) = refl
  plain_same (Point d a) =
      let h = base_same a.base a.offset a.displacement in
      let x = length-append (address_code fr m a) (addi (place_register fr first_free d) (address_register fr m a) (address_offset fr m a) ∷ result_code fr first_free second_free d) in
      let y = length-append (address_code fr n a) (addi (place_register fr first_free d) (address_register fr n a) (address_offset fr n a) ∷ result_code fr first_free second_free d) in
      omega (arith, h, x, y)
  plain_same (Load kind d a) =
      let h = base_same a.base a.offset a.displacement in
      let x = length-append (address_code fr m a) (instruction (load_op kind) (place_register fr first_free d) (address_register fr m a) 0 (address_offset fr m a) ∷ result_code fr first_free second_free d) in
      let y = length-append (address_code fr n a) (instruction (load_op kind) (place_register fr first_free d) (address_register fr n a) 0 (address_offset fr n a) ∷ result_code fr first_free second_free d) in
      omega (arith, h, x, y)
  plain_same (Store kind a v) =
      let h = base_same a.base a.offset a.displacement in
      let sx = instruction (store_op kind) 0 (address_register fr m a) (operand_register fr second_free v) (address_offset fr m a) in
      let sy = instruction (store_op kind) 0 (address_register fr n a) (operand_register fr second_free v) (address_offset fr n a) in
      let x = length-append (address_code fr m a) (operand_code fr second_free v ++ (sx ∷ [])) in
      let y = length-append (address_code fr n a) (operand_code fr second_free v ++ (sy ∷ [])) in
      let u = length-append (operand_code fr second_free v) (sx ∷ []) in
      let w = length-append (operand_code fr second_free v) (sy ∷ []) in
      omega (arith, h, x, y, u, w)

module _ (fs : List Frame) (here there : Spread) (p : Placed) (f : ℕ) where
  abbrev m2 : Memory
  m2 = with_frames fs here

  abbrev n2 : Memory
  n2 = with_frames fs there

  abbrev fr : Frame
  fr = own_frame m2 p f

  plain_bytes : (i : Plain Place) (k : ℕ) (xs : List Item) (j : ℕ) (ys : List Item) → room xs + 4 * k ≡ room ys + 4 * j → room (instr_items m2 p f (Do i) xs) + 4 * (near_instr m2 (Do i) + k) ≡ room (instr_items n2 p f (Do i) ys) + 4 * (near_instr n2 (Do i) + j)
  plain_bytes i k xs j ys h =
      let e = plain_same fr here there fs i in
      let x = room_append (singles (plain_code fr m2 i)) xs in
      let y = room_append (singles (plain_code fr n2 i)) ys in
      let u = room_singles (plain_code fr m2 i) in
      let w = room_singles (plain_code fr n2 i) in
      omega (arith, e, x, y, u, w, h)

  instr_same : (i : Instr Place (List ℕ)) (k : ℕ) (xs : List Item) (j : ℕ) (ys : List Item) → IsSame k xs j ys → IsSame (near_instr m2 i + k) (instr_items m2 p f i xs) (near_instr n2 i + j) (instr_items n2 p f i ys)
  instr_same (Do (Set d x)) k xs j ys h = record { bytes = plain_bytes (Set d x) k xs j ys h.bytes; none = none_front (plain_code fr m2 (Set d x)) xs ys h.none }
  instr_same (Do (Operate operator d x y)) k xs j ys h = record { bytes = plain_bytes (Operate operator d x y) k xs j ys h.bytes; none = none_front (plain_code fr m2 (Operate operator d x y)) xs ys h.none }
  instr_same (Do (Put x)) k xs j ys h = record { bytes = plain_bytes (Put x) k xs j ys h.bytes; none = none_front (plain_code fr m2 (Put x)) xs ys h.none }
  instr_same (Do (Get d)) k xs j ys h = record { bytes = plain_bytes (Get d) k xs j ys h.bytes; none = none_front (plain_code fr m2 (Get d)) xs ys h.none }
  instr_same (Do (Point d a)) k xs j ys h = record {
    bytes = plain_bytes (Point d a) k xs j ys h.bytes;
    none =
        none_middle (address_code fr m2 a) (result_code fr first_free second_free d) (addi (place_register fr first_free d) (address_register fr m2 a) (address_offset fr m2 a)) xs
        ∙ sym (none_middle (address_code fr n2 a) (result_code fr first_free second_free d) (addi (place_register fr first_free d) (address_register fr n2 a) (address_offset fr n2 a)) ys);
  }
  instr_same (Do (Load kind d a)) k xs j ys h = record {
    bytes = plain_bytes (Load kind d a) k xs j ys h.bytes;
    none =
        none_middle (address_code fr m2 a) (result_code fr first_free second_free d) (instruction (load_op kind) (place_register fr first_free d) (address_register fr m2 a) 0 (address_offset fr m2 a)) xs
        ∙ sym (none_middle (address_code fr n2 a) (result_code fr first_free second_free d) (instruction (load_op kind) (place_register fr first_free d) (address_register fr n2 a) 0 (address_offset fr n2 a)) ys);
  }
  instr_same (Do (Store kind a v)) k xs j ys h = record { bytes = plain_bytes (Store kind a v) k xs j ys h.bytes; none = store_none m2 xs ∙ sym (store_none n2 ys) }
    where
      value_none : (is : List Instruction) (i : Instruction) (zs : List Item) → is_none (singles (is ++ (i ∷ [])) ++ zs) ≡ false
      value_none [] i zs = refl
      value_none (k ∷ is) i zs = refl

      both_none : (is js : List Instruction) (i : Instruction) (zs : List Item) → is_none (singles (is ++ (js ++ (i ∷ []))) ++ zs) ≡ false
      both_none [] js i zs = value_none js i zs
      both_none (k ∷ is) js i zs = refl

      store_none : (c : Memory) (zs : List Item) → is_none (singles (address_code fr c a ++ (operand_code fr second_free v ++ (instruction (store_op kind) 0 (address_register fr c a) (operand_register fr second_free v) (address_offset fr c a) ∷ []))) ++ zs) ≡ false
      store_none c zs = both_none (address_code fr c a) (operand_code fr second_free v) (instruction (store_op kind) 0 (address_register fr c a) (operand_register fr second_free v) (address_offset fr c a)) zs
  instr_same (Call d callee args note) k xs j ys h =
      let before = before_call fr (frame_of m2 callee) (passed_in m2 p f callee args) note args in
      let behind = behind_call fr d (passed_in m2 p f callee args) note in
      let x = room_append (singles before) (items.Call true callee ∷ (singles behind ++ xs)) in
      let y = room_append (singles before) (items.Call true callee ∷ (singles behind ++ ys)) in
      let u = room_append (singles behind) xs in
      let w = room_append (singles behind) ys in
      let e = h.bytes in
      record { bytes = omega (arith, x, y, u, w, e); none = none_front before (items.Call true callee ∷ (singles behind ++ xs)) (items.Call true callee ∷ (singles behind ++ ys)) refl }

  body_same : (b : ℕ) (is : List (Instr Place (List ℕ))) (end : End Place) → IsSame (near_code m2 is) (body_items m2 p f b is end) (near_code n2 is) (body_items n2 p f b is end)
  body_same b [] end = record { bytes = refl; none = refl }
  body_same b (i ∷ is) end = instr_same i (near_code m2 is) (body_items m2 p f b is end) (near_code n2 is) (body_items n2 p f b is end) (body_same b is end)

  filled_same : (k : ℕ) (xs : List Item) (j : ℕ) (ys : List Item) → IsSame k xs j ys → room (filled m2 p f xs) + 4 * k ≡ room (filled n2 p f ys) + 4 * j
  filled_same k [] j [] h = let e = h.bytes in omega (arith, e)
  filled_same k [] j (y ∷ ys) h = let no : true ≡ false = h.none in cc
  filled_same k (x ∷ xs) j [] h = let no : false ≡ true = h.none in cc
  filled_same k (x ∷ xs) j (y ∷ ys) h = h.bytes

  opened : (is : List Item) (k : ℕ) (xs : List Item) (j : ℕ) (ys : List Item) → IsSame k xs j ys → IsSame k (is ++ xs) j (is ++ ys)
  opened [] k xs j ys h = h
  opened (i ∷ is) k xs j ys h =
      let x = room_append (i ∷ is) xs in
      let y = room_append (i ∷ is) ys in
      let e = h.bytes in
      record { bytes = omega (arith, x, y, e); none = refl }

  block_same : (b : ℕ) (x : PlacedBlock) → room (block_items m2 p f b x) + 4 * near_code m2 x.code ≡ room (block_items n2 p f b x) + 4 * near_code n2 x.code
  block_same b x =
      filled_same (near_code m2 x.code) (opening_items m2 p f b ++ body_items m2 p f b x.code x.end) (near_code n2 x.code) (opening_items n2 p f b ++ body_items n2 p f b x.code x.end)
      (opened (opening_items m2 p f b) (near_code m2 x.code) (body_items m2 p f b x.code x.end) (near_code n2 x.code) (body_items n2 p f b x.code x.end) (body_same b x.code x.end))

  blocks_same : (b : ℕ) (bs : List PlacedBlock) → rooms (blocks_from m2 p f b bs) + 4 * near_blocks m2 bs ≡ rooms (blocks_from n2 p f b bs) + 4 * near_blocks n2 bs
  blocks_same b [] = refl
  blocks_same b (x ∷ bs) = let h = block_same b x in let k = blocks_same (suc b) bs in omega (arith, h, k)

  sizes_same : function_size m2 p f ≡ function_size n2 p f
  sizes_same =
      let h = blocks_same 0 (function_in p f).blocks in
      let x = rooms_append (blocks_from m2 p f 0 (function_in p f).blocks) (leaving_blocks m2 p f (at_once m2 p f)) in
      let y = rooms_append (blocks_from n2 p f 0 (function_in p f).blocks) (leaving_blocks n2 p f (at_once n2 p f)) in
      omega (arith, h, x, y)

pub sizes_kept : SizesAreKept
sizes_kept m n p f e =
    let there : Spread = record { objects = n.objects; second = n.second } in
    sizes_same m.frames (record { objects = m.objects; second = m.second }) there p f ∙ ap (λ fs. function_size (with_frames fs there) p f) e
