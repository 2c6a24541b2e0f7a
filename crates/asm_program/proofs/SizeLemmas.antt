-- The code of each instruction has room.
use Rattle.std.proofs.Common.{◌≡◌, ◌⊎◌, inl, inr, ℕ, ◌+◌, ◌-◌, ◌*◌, ◌%◌, ◌^◌, ◌≤◌, ◌<◌, ℤ, pos, Bool, true, false, List, [], ◌∷◌, ◌++◌, length, Option, Some, None, refl, ap, arith, length-append}
use Rattle.std.specs.Prelude.{◌==◌, ◌||◌, nat_lt, nat_le, if◌then◌else◌}
use Rattle.std.proofs.lemmas.Bool.Decides.{nat_tests}
use Rattle.rv_core.specs.declared.op.Op.{Op}
use Rattle.rv_core.specs.declared.row.Alu.{Alu}
use Rattle.rv_core.specs.Instructions.{Instruction, instruction, addi}
use Rattle.low_ir.specs.declared.places.Place.{Place}
use Rattle.low_ir.specs.declared.places.Place.TheVariants.{Register as InRegister, Slot}
use Rattle.low_ir.specs.Code.{Operand, Register, Constant, Base, Fixed, Through, Plain, Set, Operate, Point, Load, Store, Put, Get}
use Rattle.low_ir.specs.Room.{is_near as is_near_zero, far_room, offset_room, access_room, address_room, plain_room}
use Rattle.asm_program.specs.Numbers.{result, first_free, second_free, machine_register, is_near, is_beside, reach_code, object_register, object_code, constant_code, is_short, upper_of, move_code}
use Rattle.asm_program.specs.Frames.{Frame, Memory, slot_at, home_at, object_at}
use Rattle.asm_program.specs.Operands.{place_register, operand_register, offset_register, address_register, address_offset, load_code, store_code, fetch_code, operand_code, into_code, result_code, put_code, offset_code, far_code, code_to}
use Rattle.asm_program.specs.Emission.{register_op, load_op, store_op, immediate_of, is_direct, set_code, operate_by, plain_code, home_code, return_code, store_argument, pass_code, late_code, value_code}
use Rattle.asm_program.specs.Laws.{HasWords}

joined : (is js : List Instruction) (n k : ℕ) → length is ≤ n → length js ≤ k → length (is ++ js) ≤ n + k
joined is js n k h q = let e = length-append is js in omega arith

either : (b : Bool) (is js : List Instruction) (n : ℕ) → length is ≤ n → length js ≤ n → length (if b then is else js) ≤ n
either true is js n h k = h
either false is js n h k = k

reach_few : (t a : ℕ) → length (reach_code t a) ≤ 1
reach_few t a = either (is_near a) [] _ 1 (omega arith) (omega arith)

object_few : (second t a : ℕ) → length (object_code second t a) ≤ 1
object_few second t a = either (is_beside second a) [] _ 1 (omega arith) (reach_few t a)

constant_few : (r n : ℕ) → length (constant_code r n) ≤ 2
constant_few r n = either (is_short n) _ _ 2 (omega arith) (either (n % 2 ^ 12 == 0) _ _ 2 (omega arith) (omega arith))

move_few : (r from : ℕ) → length (move_code r from) ≤ 1
move_few r from = either (r == from) [] _ 1 (omega arith) (omega arith)

load_few : (r a : ℕ) → length (load_code r a) ≤ 2
load_few r a = joined (reach_code r a) _ 1 1 (reach_few r a) (omega arith)

store_few : (t r a : ℕ) → length (store_code t r a) ≤ 2
store_few t r a = joined (reach_code t a) _ 1 1 (reach_few t a) (omega arith)

-- a displacement near to 0 is short
short_of : (n : ℕ) → n < 2 ^ 32 → (n < 2 ^ 11) ⊎ (2 ^ 32 - 2 ^ 11 ≤ n) → is_short (n % 2 ^ 32) ≡ true
short_of n s (inl h) = let e : upper_of (n % 2 ^ 32) ≡ 0 = omega arith in ap (λ u. u == 0) e
short_of n s (inr h) = let e : upper_of (n % 2 ^ 32) ≡ 0 = omega arith in ap (λ u. u == 0) e

near_parts : (n : ℕ) → is_near_zero n ≡ true → (n < 2 ^ 11) ⊎ (2 ^ 32 - 2 ^ 11 ≤ n)
near_parts n h = by_test (nat_lt n (2 ^ 11)) refl h
  where
    less : nat_lt n (2 ^ 11) ≡ true → n < 2 ^ 11
    less e = grind (arith, nat_tests)

    more : nat_le (2 ^ 32 - 2 ^ 11) n ≡ true → 2 ^ 32 - 2 ^ 11 ≤ n
    more e = grind (arith, nat_tests)

    by_test : (b : Bool) → nat_lt n (2 ^ 11) ≡ b → (b || nat_le (2 ^ 32 - 2 ^ 11) n) ≡ true → (n < 2 ^ 11) ⊎ (2 ^ 32 - 2 ^ 11 ≤ n)
    by_test true e h = inl (less e)
    by_test false e h = inr (more h)

module _ (fr : Frame) where
  fetch_few : (t : ℕ) (p : Place) → length (fetch_code fr t p) ≤ 2
  fetch_few t (InRegister q) = omega arith
  fetch_few t (Slot k) = load_few t (slot_at fr k)

  pub operand_few : (t : ℕ) (x : Operand Place) → length (operand_code fr t x) ≤ 2
  operand_few t (Register p) = fetch_few t p
  operand_few t (Constant w) = either (w % 2 ^ 32 == 0) [] _ 2 (omega arith) (constant_few t (w % 2 ^ 32))

  pub into_few : (r : ℕ) (x : Operand Place) → length (into_code fr r x) ≤ 2
  into_few r (Register (InRegister q)) = let h = move_few r (machine_register q) in omega arith
  into_few r (Register (Slot k)) = load_few r (slot_at fr k)
  into_few r (Constant w) = constant_few r (w % 2 ^ 32)

  result_few : (t u : ℕ) (p : Place) → length (result_code fr t u p) ≤ 2
  result_few t u (InRegister q) = omega arith
  result_few t u (Slot k) = store_few u t (slot_at fr k)

  put_few : (r : ℕ) (p : Place) → length (put_code fr r p) ≤ 2
  put_few r (InRegister q) = let h = move_few (machine_register q) r in omega arith
  put_few r (Slot k) = store_few first_free r (slot_at fr k)

  set_few : (d : Place) (x : Operand Place) → length (set_code fr d x) ≤ 4
  set_few (InRegister q) x = let h = into_few (machine_register q) x in omega arith
  set_few (Slot k) x = joined (operand_code fr first_free x) _ 2 2 (operand_few first_free x) (store_few second_free _ (slot_at fr k))

  operate_few : (form : Option (Op × ℤ)) (operator : Alu) (d : Place) (x y : Operand Place) → length (operate_by fr form operator d x y) ≤ 7
  operate_few None operator d x y =
      let r = result_few first_free second_free d in
      let last : List Instruction = instruction (register_op operator) (place_register fr first_free d) (operand_register fr first_free x) (operand_register fr second_free y) (pos 0) ∷ result_code fr first_free second_free d in
      joined (operand_code fr first_free x) (operand_code fr second_free y ++ last) 2 5 (operand_few first_free x) (joined (operand_code fr second_free y) last 2 3 (operand_few second_free y) (omega arith))
  operate_few (Some form) operator d x y =
      let r = result_few first_free second_free d in
      let last : List Instruction = instruction form.0 (place_register fr first_free d) (operand_register fr first_free x) 0 form.1 ∷ result_code fr first_free second_free d in
      let h : length (operand_code fr first_free x ++ last) ≤ 5 = joined (operand_code fr first_free x) last 2 3 (operand_few first_free x) (omega arith) in omega arith

  argument_few : (callee : Frame) (all : List Place) (x : Operand Place) (a : ℕ) → length (store_argument fr callee all x a) ≤ 4
  argument_few callee all x a = joined (operand_code fr first_free x) _ 2 2 (operand_few first_free x) (store_few second_free _ a)

  pub home_few : (qs : List ℕ) → length (home_code fr qs) ≤ 2 * length qs
  home_few [] = omega arith
  home_few (q ∷ qs) = let h = joined (store_code first_free (machine_register q) (home_at fr q)) (home_code fr qs) 2 (2 * length qs) (store_few first_free (machine_register q) (home_at fr q)) (home_few qs) in omega arith

  pub return_few : (qs : List ℕ) → length (return_code fr qs) ≤ 2 * length qs
  return_few [] = omega arith
  return_few (q ∷ qs) = let h = joined (load_code (machine_register q) (home_at fr q)) (return_code fr qs) 2 (2 * length qs) (load_few (machine_register q) (home_at fr q)) (return_few qs) in omega arith

  pub pass_few : (callee : Frame) (all : List Place) (xs : List (Operand Place)) (ps : List Place) → length (pass_code fr callee all xs ps) ≤ 4 * length xs
  pass_few callee all [] ps = omega arith
  pass_few callee all (x ∷ xs) [] = omega arith
  pass_few callee all (x ∷ xs) (InRegister q ∷ ps) =
      let i = into_few (machine_register q) x in
      let direct = into_code fr (machine_register q) x in
      let kept = store_argument fr callee all x (home_at callee q) in
      let first = if is_direct all q xs then direct else kept in
      let few : length first ≤ 4 = either (is_direct all q xs) direct kept 4 (omega arith) (argument_few callee all x (home_at callee q)) in
      let h : length (first ++ pass_code fr callee all xs ps) ≤ 4 + 4 * length xs = joined first (pass_code fr callee all xs ps) 4 (4 * length xs) few (pass_few callee all xs ps) in omega arith
  pass_few callee all (x ∷ xs) (Slot k ∷ ps) = let h = joined (store_argument fr callee all x (slot_at callee k)) (pass_code fr callee all xs ps) 4 (4 * length xs) (argument_few callee all x (slot_at callee k)) (pass_few callee all xs ps) in omega arith

  pub late_few : (callee : Frame) (all : List Place) (xs : List (Operand Place)) (ps : List Place) → length (late_code fr callee all xs ps) ≤ 2 * length xs
  late_few callee all [] ps = omega arith
  late_few callee all (x ∷ xs) [] = omega arith
  late_few callee all (x ∷ xs) (InRegister q ∷ ps) =
      let kept = load_code (machine_register q) (home_at callee q) in
      let first : List Instruction = if is_direct all q xs then [] else kept in
      let few : length first ≤ 2 = either (is_direct all q xs) [] kept 2 (omega arith) (load_few (machine_register q) (home_at callee q)) in
      let h : length (first ++ late_code fr callee all xs ps) ≤ 2 + 2 * length xs = joined first (late_code fr callee all xs ps) 2 (2 * length xs) few (late_few callee all xs ps) in omega arith
  late_few callee all (x ∷ xs) (Slot k ∷ ps) = let h = late_few callee all xs ps in omega arith

  pub value_few : (d : Option Place) → length (value_code fr d) ≤ 2
  value_few None = omega arith
  value_few (Some d) = put_few result d

  module _ (m : Memory) where
    offset_few : (r : ℕ) (o : Option Place) → length (offset_code fr m r o) ≤ offset_room o
    offset_few r None = omega arith
    offset_few r (Some p) = joined (fetch_code fr second_free p) _ 2 1 (fetch_few second_free p) (omega arith)

    far_few : (b : Bool) (r n : ℕ) → length (far_code fr m b r n) ≤ 2
    far_few true r n = omega arith
    far_few false r n = omega arith

    far_fits : (r n k : ℕ) → n < 2 ^ 32 → length (far_code fr m (is_short (n % 2 ^ 32)) r k) ≤ far_room n
    far_fits r n k s = by_test (is_near_zero n) refl
      where
        by_test : (b : Bool) → is_near_zero n ≡ b → length (far_code fr m (is_short (n % 2 ^ 32)) r k) ≤ (if b then 0 else 2)
        by_test false e = far_few (is_short (n % 2 ^ 32)) r k
        by_test true e = let q = ap (λ b. length (far_code fr m b r k)) (short_of n s (near_parts n e)) in omega arith

    to_few : (base : Base Place) (o : Option Place) (n : ℕ) → n < 2 ^ 32 → length (code_to fr m base o n) ≤ address_room base o n
    to_few (Fixed object) o n s =
        let at = (object_at m object + n) % 2 ^ 32 in
        let r = object_register m.second first_free at in
        let by_offset = offset_code fr m r o in
        joined (object_code m.second first_free at) by_offset 1 (offset_room o) (object_few m.second first_free at) (offset_few r o)
    to_few (Through p claim) o n s =
        let r = place_register fr first_free p in
        let by_offset = offset_code fr m r o in
        let far = far_code fr m (is_short (n % 2 ^ 32)) (offset_register fr m r o) (n % 2 ^ 32) in
        let rest : length (by_offset ++ far) ≤ offset_room o + far_room n = joined by_offset far (offset_room o) (far_room n) (offset_few r o) (far_fits (offset_register fr m r o) n (n % 2 ^ 32) s) in
        let h : length (fetch_code fr first_free p ++ (by_offset ++ far)) ≤ 2 + (offset_room o + far_room n) = joined (fetch_code fr first_free p) (by_offset ++ far) 2 (offset_room o + far_room n) (fetch_few first_free p) rest in omega arith

    access_more : (base : Base Place) (o : Option Place) (n : ℕ) → address_room base o n ≤ access_room base o n
    access_more (Fixed object) None n = omega arith
    access_more (Fixed object) (Some r) n = omega arith
    access_more (Through p claim) o n = omega arith

    access_few : (base : Base Place) (o : Option Place) (n : ℕ) → n < 2 ^ 32 → length (code_to fr m base o n) ≤ access_room base o n
    access_few base o n s = let few = to_few base o n s in let more = access_more base o n in omega (arith, few, more)

    pub plain_few : (i : Plain Place) → HasWords i → length (plain_code fr m i) ≤ plain_room i
    plain_few (Set d x) h = set_few d x
    plain_few (Operate operator d x y) h = operate_few (immediate_of operator y) operator d x y
    plain_few (Point d a) h = let r = result_few first_free second_free d in joined (code_to fr m a.base a.offset a.displacement) (addi (place_register fr first_free d) (address_register fr m a) (address_offset fr m a) ∷ result_code fr first_free second_free d) (address_room a.base a.offset a.displacement) 3 (to_few a.base a.offset a.displacement h) (omega arith)
    plain_few (Load kind d a) h = let r = result_few first_free second_free d in joined (code_to fr m a.base a.offset a.displacement) (instruction (load_op kind) (place_register fr first_free d) (address_register fr m a) 0 (address_offset fr m a) ∷ result_code fr first_free second_free d) (access_room a.base a.offset a.displacement) 3 (access_few a.base a.offset a.displacement h) (omega arith)
    plain_few (Store kind a x) h =
        let last : List Instruction = instruction (store_op kind) 0 (address_register fr m a) (operand_register fr second_free x) (address_offset fr m a) ∷ [] in
        joined (code_to fr m a.base a.offset a.displacement) (operand_code fr second_free x ++ last) (access_room a.base a.offset a.displacement) 3 (access_few a.base a.offset a.displacement h) (joined (operand_code fr second_free x) last 2 1 (operand_few second_free x) (omega arith))
    plain_few (Put x) h = joined (into_code fr result x) _ 2 2 (into_few result x) (omega arith)
    plain_few (Get d) h = let r = put_few result d in omega arith
