-- The items of a program have room.
use Rattle.std.proofs.Common.{◌≡◌, ℕ, suc, ◌+◌, ◌*◌, ◌≤◌, ◌<◌, Bool, true, false, List, [], ◌∷◌, ◌++◌, length, Option, refl, arith, length-append}
use Rattle.std.specs.Prelude.{◌==◌, nat_lt, if◌then◌else◌}
use Rattle.std.proofs.lemmas.Bool.Decides.{nat_tests}
use Rattle.std.proofs.lemmas.List.{length-take}
use Rattle.rv_core.specs.declared.row.Condition.{Condition}
use Rattle.rv_core.specs.Instructions.{Instruction}
use Rattle.asm_items.specs.declared.item.Item.{Item}
use Rattle.asm_items.specs.declared.item.Item.TheVariants as items
use Rattle.asm_items.specs.Items.{total}
use Rattle.low_ir.specs.declared.places.Place.{Place}
use Rattle.low_ir.specs.declared.places.Place.TheVariants.{Register as InRegister, Slot}
use Rattle.low_ir.specs.Code.{Operand, Instr, Do, Call, End, Jump, Branch, Return}
use Rattle.low_ir.specs.Effects.{is_member}
use Rattle.low_ir.specs.Room.{instr_room, end_room}
use Rattle.low_ir.specs.Places.{Placed}
use Rattle.asm_program.specs.Numbers.{result, first_free, second_free}
use Rattle.asm_program.specs.Frames.{Frame, Memory, frame_of}
use Rattle.asm_program.specs.Operands.{operand_register, operand_code, into_code}
use Rattle.asm_program.specs.Emission.{plain_code, kept_among, home_code, return_code, pass_code, late_code, value_code, before_call, behind_call}
use Rattle.asm_program.specs.Functions.{singles, function_in, is_leaf, exit_code, at_once, passed_in, instr_items, jump_items, two_way_items, leave_items, end_items}
use Rattle.asm_program.specs.Laws.{AreWords}
use Rattle.asm_program.proofs.SizeLemmas.{plain_few, operand_few, into_few, home_few, return_few, pass_few, late_few, value_few}

kept_few : (ps : List Place) (note : List ℕ) → length (kept_among ps note) ≤ length ps
kept_few [] note = omega arith
kept_few (InRegister q ∷ ps) note = by_test (is_member note q) (kept_few ps note)
  where
    by_test : (b : Bool) → length (kept_among ps note) ≤ length ps → length (if b then q ∷ kept_among ps note else kept_among ps note) ≤ suc (length ps)
    by_test true h = omega arith
    by_test false h = omega arith
kept_few (Slot k ∷ ps) note = let h = kept_few ps note in omega arith

singles_total : (is : List Instruction) (xs : List Item) → total (singles is ++ xs) ≡ 4 * length is + total xs
singles_total [] xs = omega arith
singles_total (i ∷ is) xs = let h = singles_total is xs in omega arith

before_few : (fr callee : Frame) (params : List Place) (note : List ℕ) (args : List (Operand Place)) → length params ≤ length args → length (before_call fr callee params note args) ≤ 8 * length args
before_few fr callee params note args less =
    let kept = kept_among params note in
    let k = kept_few params note in
    let h = home_few fr kept in
    let q = pass_few fr callee params args params in
    let l = late_few fr callee params args params in
    let e1 = length-append (home_code fr kept) (pass_code fr callee params args params ++ late_code fr callee params args params) in
    let e2 = length-append (pass_code fr callee params args params) (late_code fr callee params args params) in
    omega arith

behind_few : (fr : Frame) (d : Option Place) (params : List Place) (note : List ℕ) (n : ℕ) → length params ≤ n → length (behind_call fr d params note) ≤ 2 * n + 2
behind_few fr d params note n less =
    let kept = kept_among params note in
    let k = kept_few params note in
    let h = return_few fr kept in
    let v = value_few fr d in
    let e = length-append (return_code fr kept) (value_code fr d) in
    omega arith

module _ (m : Memory) (p : Placed) (f : ℕ) where
  pub instr_total : (i : Instr Place (List ℕ)) (xs : List Item) → AreWords i → total (instr_items m p f i xs) ≤ 4 * instr_room i + total xs
  instr_total (Do i) xs h = let n = plain_few (frame_of m f) m i h in let e = singles_total (plain_code (frame_of m f) m i) xs in omega arith
  instr_total (Call d g args note) xs h =
      let params = passed_in m p f g args in
      let taken = length-take (length args) (function_in p g).parameters in
      let less : length params ≤ length args = omega arith in
      let before = before_call (frame_of m f) (frame_of m g) params note args in
      let behind = behind_call (frame_of m f) d params note in
      let b = before_few (frame_of m f) (frame_of m g) params note args less in
      let r = behind_few (frame_of m f) d params note (length args) less in
      let e2 = singles_total behind xs in
      let e1 = singles_total before (items.Call true g ∷ (singles behind ++ xs)) in
      omega arith

  jump_total : (o : Bool) (n : ℕ) → total (jump_items m p f o n) ≤ 8
  jump_total true n = omega arith
  jump_total false n = omega arith

  two_way_total : (next : Bool) (b : ℕ) (c : Condition) (u v taken other : ℕ) → total (two_way_items m p f next b c u v taken other) ≤ 20
  two_way_total true b c u v taken other = omega arith
  two_way_total false b c u v taken other = let j = jump_total (other == suc b) other in omega arith

  leave_total : (o : Bool) (b : ℕ) → at_once m p f ≡ o → total (leave_items m p f o b) ≤ 8
  leave_total true b e =
      let few : length (exit_code (is_leaf (function_in p f)) (frame_of m f)) < 2 = less (length (exit_code (is_leaf (function_in p f)) (frame_of m f))) e in
      let s = singles_total (exit_code (is_leaf (function_in p f)) (frame_of m f)) (items.Return ∷ []) in
      omega arith
    where
      less : (n : ℕ) → nat_lt n 2 ≡ true → n < 2
      less n h = grind (arith, nat_tests)
  leave_total false b e = jump_total (length (function_in p f).blocks == suc b) (length (function_in p f).blocks)

  pub end_total : (b : ℕ) (end : End Place) → total (end_items m p f b end) ≤ 4 * end_room end
  end_total b (Jump n) = jump_total (n == suc b) n
  end_total b (Branch c x y taken other) =
      let fr = frame_of m f in
      let q = operand_few fr first_free x in
      let r = operand_few fr second_free y in
      let both = length-append (operand_code fr first_free x) (operand_code fr second_free y) in
      let u = operand_register fr first_free x in
      let v = operand_register fr second_free y in
      let j = two_way_total (taken == suc b) b c u v taken other in
      let e = singles_total (operand_code fr first_free x ++ operand_code fr second_free y) (two_way_items m p f (taken == suc b) b c u v taken other) in
      omega arith
  end_total b (Return x) =
      let n = into_few (frame_of m f) result x in
      let l = leave_total (at_once m p f) b refl in
      let e = singles_total (into_code (frame_of m f) result x) (leave_items m p f (at_once m p f) b) in
      omega arith
