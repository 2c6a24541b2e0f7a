-- The items of each block keep to the program's graph.
use Rattle.std.proofs.Common.{◌≡◌, ◌⊎◌, inl, inr, ℕ, zero, suc, ◌+◌, ◌%◌, ◌^◌, ℤ, Bool, true, false, List, [], ◌∷◌, ◌++◌, length, Contains, Option, Some, None, refl, subst, arith}
use Rattle.std.specs.Prelude.{◌==◌, if◌then◌else◌}
use Rattle.std.proofs.lemmas.Bool.Decides.{nat_tests}
use Rattle.rv_core.specs.declared.op.Op.{Op}
use Rattle.rv_core.specs.declared.op.Op.TheVariants as ops
use Rattle.rv_core.specs.declared.row.Alu.{Alu}
use Rattle.rv_core.specs.declared.row.Alu.TheVariants.{Sum, Difference, ShiftLeft, IsLess, IsLessUnsigned, BitXor, ShiftRight, ShiftRightSigned, BitOr, BitAnd, Product, HighProduct, HighProductMixed, HighProductUnsigned, Quotient, QuotientUnsigned, Remainder, RemainderUnsigned}
use Rattle.rv_core.specs.declared.row.Condition.{Condition}
use Rattle.rv_core.specs.Rows.{row_of}
use Rattle.rv_core.specs.Instructions.{Instruction}
use Rattle.asm_items.specs.declared.item.Item.{Item}
use Rattle.asm_items.specs.Promises.{goes_on, GoesOn, Keeps}
use Rattle.low_ir.specs.declared.object.Kind.{Kind}
use Rattle.low_ir.specs.declared.object.Kind.TheVariants.{Unsigned8, Signed8, Unsigned16, Signed16, Word}
use Rattle.low_ir.specs.declared.places.Place.{Place}
use Rattle.low_ir.specs.declared.places.Place.TheVariants.{Register as InRegister, Slot}
use Rattle.low_ir.specs.Code.{Operand, Register, Constant, Base, Fixed, Through, Plain, Set, Operate, Point, Load, Store, Put, Get, Instr, Do, Call, End, Jump, Branch, Return}
use Rattle.low_ir.specs.Places.{Placed}
use Rattle.asm_program.specs.Numbers.{second_base, result, first_free, second_free, machine_register, is_near, is_beside, reach_code, object_register, object_code, constant_code, is_short, move_code}
use Rattle.asm_program.specs.Frames.{Frame, Memory, frame_of, slot_at, home_at, object_at}
use Rattle.asm_program.specs.Operands.{place_register, operand_register, offset_register, load_code, store_code, fetch_code, operand_code, into_code, result_code, put_code, offset_code, far_code, code_to}
use Rattle.asm_program.specs.Emission.{register_op, load_op, store_op, immediate_form, immediate_of, is_direct, kept_among, set_code, operate_by, plain_code, home_code, return_code, store_argument, pass_code, late_code, value_code, before_call, behind_call}
use Rattle.asm_program.specs.Functions.{singles, PlacedBlock, function_in, is_leaf, is_frame_near, frame_code, link_store, link_load, saves, loads, saves_nothing, entry_code, exit_code, at_once, passed_in, instr_items, jump_items, two_way_items, leave_items, end_items, body_items, filled, opening_items, block_items, based, bases_code, main_items, ends_at}

-- all of them go on
abbrev pub AllGoOn : List Instruction → Type 0
AllGoOn [] = Unit {0}
AllGoOn (i ∷ is) = GoesOn i × AllGoOn is

both : (is js : List Instruction) → AllGoOn is → AllGoOn js → AllGoOn (is ++ js)
both [] js h k = k
both (i ∷ is) js h k = (h.0, both is js h.1 k)

either : (b : Bool) (is js : List Instruction) → AllGoOn is → AllGoOn js → AllGoOn (if b then is else js)
either true is js h k = h
either false is js h k = k

reach_on : (t a : ℕ) → AllGoOn (reach_code t a)
reach_on t a = either (is_near a) [] _ tt (refl, tt)

object_on : (second t a : ℕ) → AllGoOn (object_code second t a)
object_on second t a = either (is_beside second a) [] _ tt (reach_on t a)

constant_on : (r n : ℕ) → AllGoOn (constant_code r n)
constant_on r n = either (is_short n) _ _ (refl, tt) (either (n % 2 ^ 12 == 0) _ _ (refl, tt) (refl, (refl, tt)))

move_on : (r from : ℕ) → AllGoOn (move_code r from)
move_on r from = either (r == from) [] _ tt (refl, tt)

load_on : (r a : ℕ) → AllGoOn (load_code r a)
load_on r a = both (reach_code r a) _ (reach_on r a) (refl, tt)

store_on : (t r a : ℕ) → AllGoOn (store_code t r a)
store_on t r a = both (reach_code t a) _ (reach_on t a) (refl, tt)

register_op_on : (operator : Alu) → goes_on (row_of (register_op operator)).effect ≡ true
register_op_on Sum = refl
register_op_on Difference = refl
register_op_on ShiftLeft = refl
register_op_on IsLess = refl
register_op_on IsLessUnsigned = refl
register_op_on BitXor = refl
register_op_on ShiftRight = refl
register_op_on ShiftRightSigned = refl
register_op_on BitOr = refl
register_op_on BitAnd = refl
register_op_on Product = refl
register_op_on HighProduct = refl
register_op_on HighProductMixed = refl
register_op_on HighProductUnsigned = refl
register_op_on Quotient = refl
register_op_on QuotientUnsigned = refl
register_op_on Remainder = refl
register_op_on RemainderUnsigned = refl

load_op_on : (kind : Kind) → goes_on (row_of (load_op kind)).effect ≡ true
load_op_on Unsigned8 = refl
load_op_on Signed8 = refl
load_op_on Unsigned16 = refl
load_op_on Signed16 = refl
load_op_on Word = refl

store_op_on : (kind : Kind) → goes_on (row_of (store_op kind)).effect ≡ true
store_op_on Unsigned8 = refl
store_op_on Signed8 = refl
store_op_on Unsigned16 = refl
store_op_on Signed16 = refl
store_op_on Word = refl

-- so does the form with a constant, where there is one
abbrev FormGoesOn : Option (Op × ℤ) → Type 0
FormGoesOn None = Unit {0}
FormGoesOn (Some form) = goes_on (row_of form.0).effect ≡ true

form_if : (b : Bool) (op : Op) (z : ℤ) → goes_on (row_of op).effect ≡ true → FormGoesOn (if b then Some (op, z) else None)
form_if true op z h = h
form_if false op z h = tt

form_on : (operator : Alu) (n : ℕ) → FormGoesOn (immediate_form operator n)
form_on Sum n = form_if _ ops.Addi _ refl
form_on Difference n = tt
form_on ShiftLeft n = form_if _ ops.Slli _ refl
form_on IsLess n = form_if _ ops.Slti _ refl
form_on IsLessUnsigned n = form_if _ ops.Sltiu _ refl
form_on BitXor n = form_if _ ops.Xori _ refl
form_on ShiftRight n = form_if _ ops.Srli _ refl
form_on ShiftRightSigned n = form_if _ ops.Srai _ refl
form_on BitOr n = form_if _ ops.Ori _ refl
form_on BitAnd n = form_if _ ops.Andi _ refl
form_on Product n = tt
form_on HighProduct n = tt
form_on HighProductMixed n = tt
form_on HighProductUnsigned n = tt
form_on Quotient n = tt
form_on QuotientUnsigned n = tt
form_on Remainder n = tt
form_on RemainderUnsigned n = tt

immediate_on : (operator : Alu) (x : Operand Place) → FormGoesOn (immediate_of operator x)
immediate_on operator (Register p) = tt
immediate_on operator (Constant w) = form_on operator (w % 2 ^ 32)

module _ (fr : Frame) where
  fetch_on : (t : ℕ) (p : Place) → AllGoOn (fetch_code fr t p)
  fetch_on t (InRegister q) = tt
  fetch_on t (Slot k) = load_on t (slot_at fr k)

  operand_on : (t : ℕ) (x : Operand Place) → AllGoOn (operand_code fr t x)
  operand_on t (Register p) = fetch_on t p
  operand_on t (Constant w) = either (w % 2 ^ 32 == 0) [] _ tt (constant_on t (w % 2 ^ 32))

  into_on : (r : ℕ) (x : Operand Place) → AllGoOn (into_code fr r x)
  into_on r (Register (InRegister q)) = move_on r (machine_register q)
  into_on r (Register (Slot k)) = load_on r (slot_at fr k)
  into_on r (Constant w) = constant_on r (w % 2 ^ 32)

  result_on : (t u : ℕ) (p : Place) → AllGoOn (result_code fr t u p)
  result_on t u (InRegister q) = tt
  result_on t u (Slot k) = store_on u t (slot_at fr k)

  put_on : (r : ℕ) (p : Place) → AllGoOn (put_code fr r p)
  put_on r (InRegister q) = move_on (machine_register q) r
  put_on r (Slot k) = store_on first_free r (slot_at fr k)

  set_on : (d : Place) (x : Operand Place) → AllGoOn (set_code fr d x)
  set_on (InRegister q) x = into_on (machine_register q) x
  set_on (Slot k) x = both (operand_code fr first_free x) _ (operand_on first_free x) (store_on second_free _ (slot_at fr k))

  operate_on : (form : Option (Op × ℤ)) → FormGoesOn form → (operator : Alu) (d : Place) (x y : Operand Place) → AllGoOn (operate_by fr form operator d x y)
  operate_on None h operator d x y =
      both (operand_code fr first_free x) _ (operand_on first_free x) (both (operand_code fr second_free y) _ (operand_on second_free y) (register_op_on operator, result_on first_free second_free d))
  operate_on (Some form) h operator d x y = both (operand_code fr first_free x) _ (operand_on first_free x) (h, result_on first_free second_free d)

  store_argument_on : (callee : Frame) (all : List Place) (x : Operand Place) (a : ℕ) → AllGoOn (store_argument fr callee all x a)
  store_argument_on callee all x a = both (operand_code fr first_free x) _ (operand_on first_free x) (store_on second_free _ a)

  home_on : (qs : List ℕ) → AllGoOn (home_code fr qs)
  home_on [] = tt
  home_on (q ∷ qs) = both (store_code first_free (machine_register q) (home_at fr q)) _ (store_on first_free (machine_register q) (home_at fr q)) (home_on qs)

  return_on : (qs : List ℕ) → AllGoOn (return_code fr qs)
  return_on [] = tt
  return_on (q ∷ qs) = both (load_code (machine_register q) (home_at fr q)) _ (load_on (machine_register q) (home_at fr q)) (return_on qs)

  pass_on : (callee : Frame) (all : List Place) (xs : List (Operand Place)) (ps : List Place) → AllGoOn (pass_code fr callee all xs ps)
  pass_on callee all [] ps = tt
  pass_on callee all (x ∷ xs) [] = tt
  pass_on callee all (x ∷ xs) (InRegister q ∷ ps) =
      both _ (pass_code fr callee all xs ps) (either (is_direct all q xs) _ _ (into_on (machine_register q) x) (store_argument_on callee all x (home_at callee q))) (pass_on callee all xs ps)
  pass_on callee all (x ∷ xs) (Slot k ∷ ps) = both _ (pass_code fr callee all xs ps) (store_argument_on callee all x (slot_at callee k)) (pass_on callee all xs ps)

  late_on : (callee : Frame) (all : List Place) (xs : List (Operand Place)) (ps : List Place) → AllGoOn (late_code fr callee all xs ps)
  late_on callee all [] ps = tt
  late_on callee all (x ∷ xs) [] = tt
  late_on callee all (x ∷ xs) (InRegister q ∷ ps) =
      both _ (late_code fr callee all xs ps) (either (is_direct all q xs) [] _ tt (load_on (machine_register q) (home_at callee q))) (late_on callee all xs ps)
  late_on callee all (x ∷ xs) (Slot k ∷ ps) = late_on callee all xs ps

  value_on : (d : Option Place) → AllGoOn (value_code fr d)
  value_on None = tt
  value_on (Some d) = put_on result d

  before_on : (callee : Frame) (params : List Place) (note : List ℕ) (args : List (Operand Place)) → AllGoOn (before_call fr callee params note args)
  before_on callee params note args =
      both (home_code fr (kept_among params note)) _ (home_on (kept_among params note))
      (both (pass_code fr callee params args params) _ (pass_on callee params args params) (late_on callee params args params))

  behind_on : (d : Option Place) (params : List Place) (note : List ℕ) → AllGoOn (behind_call fr d params note)
  behind_on d params note = both (return_code fr (kept_among params note)) _ (return_on (kept_among params note)) (value_on d)

  frame_on : (near : Bool) → AllGoOn (frame_code near fr)
  frame_on true = tt
  frame_on false = (refl, (refl, tt))

  link_store_on : (near leaf : Bool) → AllGoOn (link_store near fr leaf)
  link_store_on near true = tt
  link_store_on near false = (refl, tt)

  link_load_on : (near leaf : Bool) → AllGoOn (link_load near fr leaf)
  link_load_on near true = tt
  link_load_on near false = (refl, tt)

  saves_on : (near : Bool) (qs : List ℕ) → AllGoOn (saves near fr qs)
  saves_on near [] = tt
  saves_on near (q ∷ qs) = (refl, saves_on near qs)

  loads_on : (near : Bool) (qs : List ℕ) → AllGoOn (loads near fr qs)
  loads_on near [] = tt
  loads_on near (q ∷ qs) = (refl, loads_on near qs)

  entry_on : (leaf : Bool) → AllGoOn (entry_code leaf fr)
  entry_on leaf =
      let near = is_frame_near fr in
      either (saves_nothing leaf fr) [] _ tt (both (frame_code near fr) _ (frame_on near) (both (link_store near fr leaf) _ (link_store_on near leaf) (saves_on near fr.saved)))

  exit_on : (leaf : Bool) → AllGoOn (exit_code leaf fr)
  exit_on leaf =
      let near = is_frame_near fr in
      either (saves_nothing leaf fr) [] _ tt (both (frame_code near fr) _ (frame_on near) (both (link_load near fr leaf) _ (link_load_on near leaf) (loads_on near fr.saved)))

  module _ (m : Memory) where
    offset_on : (r : ℕ) (o : Option Place) → AllGoOn (offset_code fr m r o)
    offset_on r None = tt
    offset_on r (Some p) = both (fetch_code fr second_free p) _ (fetch_on second_free p) (refl, tt)

    far_on : (b : Bool) (r n : ℕ) → AllGoOn (far_code fr m b r n)
    far_on true r n = tt
    far_on false r n = (refl, (refl, tt))

    to_on : (base : Base Place) (o : Option Place) (n : ℕ) → AllGoOn (code_to fr m base o n)
    to_on (Fixed object) o n =
        let at = (object_at m object + n) % 2 ^ 32 in
        let r = object_register m.second first_free at in
        both (object_code m.second first_free at) (offset_code fr m r o) (object_on m.second first_free at) (offset_on r o)
    to_on (Through p claim) o n =
        let r = place_register fr first_free p in
        let by_offset = offset_code fr m r o in
        let far = far_code fr m (is_short (n % 2 ^ 32)) (offset_register fr m r o) (n % 2 ^ 32) in
        both (fetch_code fr first_free p) (by_offset ++ far) (fetch_on first_free p) (both by_offset far (offset_on r o) (far_on (is_short (n % 2 ^ 32)) (offset_register fr m r o) (n % 2 ^ 32)))

    plain_on : (i : Plain Place) → AllGoOn (plain_code fr m i)
    plain_on (Set d x) = set_on d x
    plain_on (Operate operator d x y) = operate_on (immediate_of operator y) (immediate_on operator y) operator d x y
    plain_on (Point d a) = both (code_to fr m a.base a.offset a.displacement) _ (to_on a.base a.offset a.displacement) (refl, result_on first_free second_free d)
    plain_on (Load kind d a) = both (code_to fr m a.base a.offset a.displacement) _ (to_on a.base a.offset a.displacement) (load_op_on kind, result_on first_free second_free d)
    plain_on (Store kind a x) =
        both (code_to fr m a.base a.offset a.displacement) _ (to_on a.base a.offset a.displacement) (both (operand_code fr second_free x) _ (operand_on second_free x) (store_op_on kind, tt))
    plain_on (Put x) = both (into_code fr result x) _ (into_on result x) (refl, (refl, tt))
    plain_on (Get d) = (refl, (refl, put_on result d))

bases_on : (second : ℕ) → AllGoOn (bases_code second)
bases_on second = (refl, (refl, either (second == 0) [] (based second_base second) tt (refl, (refl, tt))))

abbrev pub Calls : Instr Place (List ℕ) → ℕ → Type 0
Calls (Do i) g = ⊥
Calls (Call d callee args note) g = callee ≡ g

abbrev pub AllCall : List (Instr Place (List ℕ)) → ℕ → Type 0
AllCall [] g = ⊥
AllCall (i ∷ is) g = Calls i g ⊎ AllCall is g

module _ (m : Memory) (p : Placed) (f : ℕ) (follows calls : List ℕ) (b : ℕ) where
  singles_keep : (is : List Instruction) (xs : List Item) → AllGoOn is → Keeps follows calls b xs → Keeps follows calls b (singles is ++ xs)
  singles_keep [] xs h k = k
  singles_keep (i ∷ is) xs h k = (h.0, singles_keep is xs h.1 k)

  instr_keep : (i : Instr Place (List ℕ)) (xs : List Item) → ((g : ℕ) → Calls i g → Contains calls g) → Keeps follows calls b xs → Keeps follows calls b (instr_items m p f i xs)
  instr_keep (Do i) xs h k = singles_keep (plain_code (frame_of m f) m i) xs (plain_on (frame_of m f) m i) k
  instr_keep (Call d g args note) xs h k =
      let params = passed_in m p f g args in
      singles_keep (before_call (frame_of m f) (frame_of m g) params note args) _ (before_on (frame_of m f) (frame_of m g) params note args)
      (h g refl, singles_keep (behind_call (frame_of m f) d params note) xs (behind_on (frame_of m f) d params note) k)

  jump_keep : (o : Bool) (n : ℕ) → (n == suc b) ≡ o → Contains follows n → Keeps follows calls b (jump_items m p f o n)
  jump_keep true n e h = let same : n ≡ suc b = grind (arith, nat_tests) in subst (Contains follows) same h
  jump_keep false n e h = (h, refl)

  two_way_keep : (next : Bool) (c : Condition) (u v taken other : ℕ) → (taken == suc b) ≡ next → Contains follows taken → Contains follows other → Keeps follows calls b (two_way_items m p f next b c u v taken other)
  two_way_keep true c u v taken other e h k = (k, jump_keep true taken e h)
  two_way_keep false c u v taken other e h k = (h, jump_keep (other == suc b) other refl k)

  filled_keep : (xs : List Item) → Keeps follows calls b xs → Keeps follows calls b (filled m p f xs)
  filled_keep [] h = (refl, h)
  filled_keep (x ∷ xs) h = h

  opening_keep : (n : ℕ) (xs : List Item) → Keeps follows calls b xs → Keeps follows calls b (opening_items m p f n ++ xs)
  opening_keep zero xs h = singles_keep (entry_code (is_leaf (function_in p f)) (frame_of m f)) xs (entry_on (frame_of m f) (is_leaf (function_in p f))) h
  opening_keep (suc n) xs h = h

  pub leave_keep : (leaves : Bool) → (leaves ≡ false → Contains follows (length (function_in p f).blocks)) → Keeps follows calls b (leave_items m p f leaves b)
  leave_keep true h = singles_keep (exit_code (is_leaf (function_in p f)) (frame_of m f)) _ (exit_on (frame_of m f) (is_leaf (function_in p f))) refl
  leave_keep false h = jump_keep (length (function_in p f).blocks == suc b) (length (function_in p f).blocks) refl (h refl)

  end_keep : (end : End Place) → ((n : ℕ) → Contains (ends_at (at_once m p f) (length (function_in p f).blocks) end) n → Contains follows n) → Keeps follows calls b (end_items m p f b end)
  end_keep (Jump n) h = jump_keep (n == suc b) n refl (h n (0, omega arith, refl))
  end_keep (Branch c x y taken other) h =
      singles_keep _ _ (both (operand_code (frame_of m f) first_free x) _ (operand_on (frame_of m f) first_free x) (operand_on (frame_of m f) second_free y))
      (two_way_keep (taken == suc b) c (operand_register (frame_of m f) first_free x) (operand_register (frame_of m f) second_free y) taken other refl (h taken (0, omega arith, refl)) (h other (1, omega arith, refl)))
  end_keep (Return x) h =
      singles_keep (into_code (frame_of m f) result x) _ (into_on (frame_of m f) result x)
      (leave_keep (at_once m p f) (λ e. h (length (function_in p f).blocks) (by_leaves (at_once m p f) e)))
    where
      by_leaves : (leaves : Bool) → leaves ≡ false → Contains (ends_at leaves (length (function_in p f).blocks) (Return x)) (length (function_in p f).blocks)
      by_leaves true e = cc
      by_leaves false e = (0, omega arith, refl)

  body_keep : (is : List (Instr Place (List ℕ))) (end : End Place) → ((g : ℕ) → AllCall is g → Contains calls g) → ((n : ℕ) → Contains (ends_at (at_once m p f) (length (function_in p f).blocks) end) n → Contains follows n) → Keeps follows calls b (body_items m p f b is end)
  body_keep [] end h k = end_keep end k
  body_keep (i ∷ is) end h k = instr_keep i (body_items m p f b is end) (λ g c. h g (inl c)) (body_keep is end (λ g c. h g (inr c)) k)

  -- the start code puts addresses into the bases, and calls main
  pub start_keeps : (second main : ℕ) → Contains calls main → Keeps follows calls b (singles (bases_code second) ++ main_items main)
  start_keeps second main h = singles_keep (bases_code second) (main_items main) (bases_on second) (h, (refl, refl))

  -- the items of a block go where its end leads and call what it calls
  pub block_keeps : (block : PlacedBlock) → ((g : ℕ) → AllCall block.code g → Contains calls g) → ((n : ℕ) → Contains (ends_at (at_once m p f) (length (function_in p f).blocks) block.end) n → Contains follows n) → Keeps follows calls b (block_items m p f b block)
  block_keeps block h k = filled_keep _ (opening_keep b _ (body_keep block.code block.end h k))
