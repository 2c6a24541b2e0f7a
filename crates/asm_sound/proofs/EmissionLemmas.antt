-- The items of a program: their longest forms, their size and what they call.
use Rattle.std.proofs.Common.{◌≡◌, ℕ, zero, suc, ◌+◌, ◌*◌, ◌≤◌, Bool, true, false, List, [], ◌∷◌, ◌++◌, length, All, refl, ◌∙◌, arith, length-append}
use Rattle.std.specs.Prelude.{◌==◌, if◌then◌else◌, sum_by}
use Rattle.std.proofs.lemmas.List.Elements.{All-head, All-tail}
use Rattle.std.proofs.lemmas.List.Sums.{sum_by-cons}
use Rattle.rv_core.specs.declared.row.Condition.{Condition}
use Rattle.rv_core.specs.Instructions.{Instruction}
use Rattle.asm_items.specs.declared.item.Item.{Item}
use Rattle.asm_items.specs.declared.item.Item.TheVariants as items
use Rattle.asm_items.specs.Items.{total}
use Rattle.low_ir.specs.declared.places.Place.{Place}
use Rattle.low_ir.specs.Code.{Instr, Do, Call, End, Jump, Branch, Return}
use Rattle.low_ir.specs.Room.{instr_room, end_room, block_room, called}
use Rattle.low_ir.specs.Places.{Placed}
use Rattle.asm_program.specs.Numbers.{second_base, result, first_free, second_free}
use Rattle.asm_program.specs.Frames.{Frame, Memory, frame_of}
use Rattle.asm_program.specs.Operands.{operand_register, operand_code, into_code}
use Rattle.asm_program.specs.Emission.{plain_code, before_call, behind_call}
use Rattle.asm_program.specs.Functions.{singles, PlacedBlock, function_in, is_leaf, is_frame_near, frame_code, link_store, link_load, saves, loads, saves_nothing, entry_code, exit_code, at_once, passed_in, instr_items, jump_items, two_way_items, leave_items, end_items, body_items, filled, opening_items, block_items, based, bases_code, main_items}
use Rattle.asm_program.specs.Laws.{AreWords}
use Rattle.asm_program.proofs.RoomLemmas.{instr_total, end_total}
use Rattle.asm_sound.proofs.LongLemmas.{AreLong, calls_in}

singles_long : (is : List Instruction) (xs : List Item) → AreLong xs → AreLong (singles is ++ xs)
singles_long [] xs h = h
singles_long (i ∷ is) xs h = (tt, singles_long is xs h)

singles_call : (worth : ℕ → ℕ) (is : List Instruction) (xs : List Item) → calls_in worth (singles is ++ xs) ≡ calls_in worth xs
singles_call worth [] xs = refl
singles_call worth (i ∷ is) xs = let h = singles_call worth is xs in omega arith

singles_total : (is : List Instruction) (xs : List Item) → total (singles is ++ xs) ≡ 4 * length is + total xs
singles_total [] xs = omega arith
singles_total (i ∷ is) xs = let h = singles_total is xs in omega arith

either : (b : Bool) (is js : List Instruction) (n : ℕ) → length is ≤ n → length js ≤ n → length (if b then is else js) ≤ n
either true is js n h k = h
either false is js n h k = k

-- the start code

bases_few : (second : ℕ) → length (bases_code second) ≤ 4
bases_few second = let s = either (second == 0) [] (based second_base second) 2 (omega arith) (omega arith) in omega arith

pub start_long : (second main : ℕ) → AreLong (singles (bases_code second) ++ main_items main)
start_long second main = singles_long (bases_code second) (main_items main) (refl, (tt, (tt, tt)))

pub start_total : (second main : ℕ) → total (singles (bases_code second) ++ main_items main) ≤ 4 * 8
start_total second main = let n = bases_few second in let e = singles_total (bases_code second) (main_items main) in omega arith

pub start_calls : (worth : ℕ → ℕ) (second main : ℕ) → calls_in worth (singles (bases_code second) ++ main_items main) ≡ calls_in worth (main_items main)
start_calls worth second main = singles_call worth (bases_code second) (main_items main)

-- the code with which a function begins and ends

frame_few : (near : Bool) (fr : Frame) → length (frame_code near fr) ≤ 2
frame_few true fr = omega arith
frame_few false fr = omega arith

store_few : (near : Bool) (fr : Frame) (leaf : Bool) → length (link_store near fr leaf) ≤ 1
store_few near fr true = omega arith
store_few near fr false = omega arith

load_few : (near : Bool) (fr : Frame) (leaf : Bool) → length (link_load near fr leaf) ≤ 1
load_few near fr true = omega arith
load_few near fr false = omega arith

saves_few : (near : Bool) (fr : Frame) (qs : List ℕ) → length (saves near fr qs) ≡ length qs
saves_few near fr [] = refl
saves_few near fr (q ∷ qs) = let r = saves_few near fr qs in omega arith

loads_few : (near : Bool) (fr : Frame) (qs : List ℕ) → length (loads near fr qs) ≡ length qs
loads_few near fr [] = refl
loads_few near fr (q ∷ qs) = let r = loads_few near fr qs in omega arith

entry_few : (leaf : Bool) (fr : Frame) → length fr.saved ≤ 24 → length (entry_code leaf fr) ≤ 27
entry_few leaf fr h =
    let near = is_frame_near fr in
    let a = frame_few near fr in
    let b = store_few near fr leaf in
    let c = saves_few near fr fr.saved in
    let e1 = length-append (link_store near fr leaf) (saves near fr fr.saved) in
    let e2 = length-append (frame_code near fr) (link_store near fr leaf ++ saves near fr fr.saved) in
    either (saves_nothing leaf fr) [] (frame_code near fr ++ (link_store near fr leaf ++ saves near fr fr.saved)) 27 (omega arith) (omega arith)

exit_few : (leaf : Bool) (fr : Frame) → length fr.saved ≤ 24 → length (exit_code leaf fr) ≤ 27
exit_few leaf fr h =
    let near = is_frame_near fr in
    let a = frame_few near fr in
    let b = load_few near fr leaf in
    let c = loads_few near fr fr.saved in
    let e1 = length-append (link_load near fr leaf) (loads near fr fr.saved) in
    let e2 = length-append (frame_code near fr) (link_load near fr leaf ++ loads near fr fr.saved) in
    either (saves_nothing leaf fr) [] (frame_code near fr ++ (link_load near fr leaf ++ loads near fr fr.saved)) 27 (omega arith) (omega arith)

some_end : (end : End Place) → 1 ≤ end_room end
some_end (Jump n) = omega arith
some_end (Branch c x y taken other) = omega arith
some_end (Return x) = omega arith

-- what a function's first block has beside its own
abbrev pub beside : ℕ → ℕ → ℕ
beside n zero = n
beside n (suc b) = 0

module _ (m : Memory) (p : Placed) (f : ℕ) where
  instr_long : (i : Instr Place (List ℕ)) (xs : List Item) → AreLong xs → AreLong (instr_items m p f i xs)
  instr_long (Do i) xs h = singles_long (plain_code (frame_of m f) m i) xs h
  instr_long (Call d g args note) xs h =
      singles_long (before_call (frame_of m f) (frame_of m g) (passed_in m p f g args) note args) _ (refl, singles_long (behind_call (frame_of m f) d (passed_in m p f g args) note) xs h)

  jump_long : (o : Bool) (n : ℕ) → AreLong (jump_items m p f o n)
  jump_long true n = tt
  jump_long false n = (refl, tt)

  two_way_long : (next : Bool) (b : ℕ) (c : Condition) (u v taken other : ℕ) → AreLong (two_way_items m p f next b c u v taken other)
  two_way_long true b c u v taken other = (refl, tt)
  two_way_long false b c u v taken other = (refl, jump_long (other == suc b) other)

  leave_long : (o : Bool) (b : ℕ) → AreLong (leave_items m p f o b)
  leave_long true b = singles_long (exit_code (is_leaf (function_in p f)) (frame_of m f)) (items.Return ∷ []) (tt, tt)
  leave_long false b = jump_long (length (function_in p f).blocks == suc b) (length (function_in p f).blocks)

  end_long : (b : ℕ) (end : End Place) → AreLong (end_items m p f b end)
  end_long b (Jump n) = jump_long (n == suc b) n
  end_long b (Branch c x y taken other) =
      let fr = frame_of m f in
      singles_long (operand_code fr first_free x ++ operand_code fr second_free y) _ (two_way_long (taken == suc b) b c (operand_register fr first_free x) (operand_register fr second_free y) taken other)
  end_long b (Return x) = singles_long (into_code (frame_of m f) result x) _ (leave_long (at_once m p f) b)

  body_long : (b : ℕ) (is : List (Instr Place (List ℕ))) (end : End Place) → AreLong (body_items m p f b is end)
  body_long b [] end = end_long b end
  body_long b (i ∷ is) end = instr_long i (body_items m p f b is end) (body_long b is end)

  filled_long : (xs : List Item) → AreLong xs → AreLong (filled m p f xs)
  filled_long [] h = (tt, tt)
  filled_long (x ∷ xs) h = h

  opening_long : (b : ℕ) (xs : List Item) → AreLong xs → AreLong (opening_items m p f b ++ xs)
  opening_long zero xs h = singles_long (entry_code (is_leaf (function_in p f)) (frame_of m f)) xs h
  opening_long (suc b) xs h = h

  pub block_long : (b : ℕ) (block : PlacedBlock) → AreLong (block_items m p f b block)
  block_long b block = filled_long _ (opening_long b _ (body_long b block.code block.end))

  -- the block behind the others

  pub leaving_long : AreLong (leave_items m p f true 0)
  leaving_long = leave_long true 0

  pub leaving_total : length (frame_of m f).saved ≤ 24 → total (leave_items m p f true 0) ≤ 4 * 28
  leaving_total h =
      let n = exit_few (is_leaf (function_in p f)) (frame_of m f) h in
      let e = singles_total (exit_code (is_leaf (function_in p f)) (frame_of m f)) (items.Return ∷ []) in omega arith

  module _ (worth : ℕ → ℕ) where
    jump_calls : (o : Bool) (n : ℕ) → calls_in worth (jump_items m p f o n) ≡ 0
    jump_calls true n = refl
    jump_calls false n = refl

    two_way_calls : (next : Bool) (b : ℕ) (c : Condition) (u v taken other : ℕ) → calls_in worth (two_way_items m p f next b c u v taken other) ≡ 0
    two_way_calls true b c u v taken other = refl
    two_way_calls false b c u v taken other = let j = jump_calls (other == suc b) other in omega arith

    leave_calls : (o : Bool) (b : ℕ) → calls_in worth (leave_items m p f o b) ≡ 0
    leave_calls true b = singles_call worth (exit_code (is_leaf (function_in p f)) (frame_of m f)) (items.Return ∷ [])
    leave_calls false b = jump_calls (length (function_in p f).blocks == suc b) (length (function_in p f).blocks)

    pub leaving_calls : calls_in worth (leave_items m p f true 0) ≡ 0
    leaving_calls = leave_calls true 0

    end_calls : (b : ℕ) (end : End Place) → calls_in worth (end_items m p f b end) ≡ 0
    end_calls b (Jump n) = jump_calls (n == suc b) n
    end_calls b (Branch c x y taken other) =
        let fr = frame_of m f in
        let u = operand_register fr first_free x in
        let v = operand_register fr second_free y in
        singles_call worth (operand_code fr first_free x ++ operand_code fr second_free y) (two_way_items m p f (taken == suc b) b c u v taken other) ∙ two_way_calls (taken == suc b) b c u v taken other
    end_calls b (Return x) = singles_call worth (into_code (frame_of m f) result x) (leave_items m p f (at_once m p f) b) ∙ leave_calls (at_once m p f) b

    body_calls : (b : ℕ) (is : List (Instr Place (List ℕ))) (end : End Place) → calls_in worth (body_items m p f b is end) ≡ called worth is
    body_calls b [] end = end_calls b end
    body_calls b (Do i ∷ is) end = singles_call worth (plain_code (frame_of m f) m i) (body_items m p f b is end) ∙ body_calls b is end
    body_calls b (Call d g args note ∷ is) end =
        let rest = body_items m p f b is end in
        let behind = behind_call (frame_of m f) d (passed_in m p f g args) note in
        let e = singles_call worth behind rest in
        let r = body_calls b is end in
        let s = singles_call worth (before_call (frame_of m f) (frame_of m g) (passed_in m p f g args) note args) (items.Call true g ∷ (singles behind ++ rest)) in omega arith

    filled_calls : (xs : List Item) → calls_in worth (filled m p f xs) ≡ calls_in worth xs
    filled_calls [] = refl
    filled_calls (x ∷ xs) = refl

    opening_calls : (b : ℕ) (xs : List Item) → calls_in worth (opening_items m p f b ++ xs) ≡ calls_in worth xs
    opening_calls zero xs = singles_call worth (entry_code (is_leaf (function_in p f)) (frame_of m f)) xs
    opening_calls (suc b) xs = refl

    pub block_calls : (b : ℕ) (block : PlacedBlock) → calls_in worth (block_items m p f b block) ≡ called worth block.code
    block_calls b block =
        filled_calls (opening_items m p f b ++ body_items m p f b block.code block.end) ∙ opening_calls b (body_items m p f b block.code block.end) ∙ body_calls b block.code block.end

  body_total : (b : ℕ) (is : List (Instr Place (List ℕ))) (end : End Place) → All AreWords is → total (body_items m p f b is end) ≤ 4 * (sum_by instr_room is + end_room end)
  body_total b [] end h = let e = end_total m p f b end in omega arith
  body_total b (i ∷ is) end h =
      let e = instr_total m p f i (body_items m p f b is end) (All-head AreWords i is h) in
      let r = body_total b is end (All-tail AreWords i is h) in
      let s = sum_by-cons instr_room i is in omega arith

  filled_total : (xs : List Item) (n : ℕ) → 1 ≤ n → total xs ≤ 4 * n → total (filled m p f xs) ≤ 4 * n
  filled_total [] n some h = omega arith
  filled_total (x ∷ xs) n some h = h

  opening_total : (b : ℕ) (xs : List Item) → length (frame_of m f).saved ≤ 24 → total (opening_items m p f b ++ xs) ≤ 4 * beside 27 b + total xs
  opening_total zero xs h =
      let n = entry_few (is_leaf (function_in p f)) (frame_of m f) h in
      let e = singles_total (entry_code (is_leaf (function_in p f)) (frame_of m f)) xs in omega arith
  opening_total (suc b) xs h = omega arith

  pub block_total : (b : ℕ) (block : PlacedBlock) → length (frame_of m f).saved ≤ 24 → All AreWords block.code → total (block_items m p f b block) ≤ 4 * (beside 27 b + block_room block)
  block_total b block saved words =
      let body = body_items m p f b block.code block.end in
      let e = body_total b block.code block.end words in
      let o = opening_total b body saved in
      let some = some_end block.end in
      filled_total (opening_items m p f b ++ body) (beside 27 b + block_room block) (omega arith) (omega arith)
