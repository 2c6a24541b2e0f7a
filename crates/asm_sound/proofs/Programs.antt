-- The items of blocks, functions and programs are sound.
use Rattle.std.proofs.Common.{◌≡◌, ℕ, zero, suc, ◌+◌, ◌-◌, ◌*◌, ◌^◌, ◌<◌, ◌≤◌, ◌==◌, pos, Bool, true, false, ◌&&◌, List, [], ◌∷◌, ◌++◌, length, get_or, All, refl, sym, ap, ◌∙◌, subst, arith, if◌then◌else◌}
use Rattle.std.specs.Prelude.{slice_index_or, nat_lt, nat_le}
use Rattle.std.proofs.lemmas.Bool.{and_parts, lt-ltb}
use Rattle.std.proofs.lemmas.Bool.Decides.{nat_tests}
use Rattle.std.proofs.lemmas.List.Elements.{All-append, All-cons, All-head, All-nil, All-tail, All-take}
use Rattle.rv_core.specs.declared.row.Condition.{Condition}
use Rattle.rv_core.specs.Instructions.{Instruction, in_row, is_within, addi}
use Rattle.asm_items.specs.declared.item.Form.TheVariants.{Far}
use Rattle.asm_items.specs.declared.item.Item.{Item}
use Rattle.asm_items.specs.declared.item.Item.TheVariants as items
use Rattle.asm_items.specs.Items.{opposite, in_rows}
use Rattle.asm_forms.specs.Sound.{IsSound, AreSound, BlocksSound, FunctionsSound}
use Rattle.asm_forms.proofs.FitLemmas.{rows-append}
use Rattle.low_ir.specs.declared.places.Place.{Place}
use Rattle.low_ir.specs.Code.{Instr, Do, Call, End, Jump, Branch, Return}
use Rattle.low_ir.specs.Places.{Placed}
use Rattle.asm_program.specs.Numbers.{ram, link, base, second_base, base_address, result, service, first_free, second_free, machine_register, is_near, load_upper, lower_of, load_word, store_word}
use Rattle.asm_program.specs.Frames.{Frame, Memory, no_frame, frame_of, position, return_at, saved_at}
use Rattle.asm_program.specs.Operands.{operand_register, operand_code, into_code}
use Rattle.asm_program.specs.Emission.{plain_code, before_call, behind_call}
use Rattle.asm_program.specs.Functions.{singles, PlacedBlock, PlacedFunction, no_function, function_in, is_leaf, is_frame_near, frame_code, frame_register, frame_offset, link_store, link_load, saves, loads, saves_nothing, entry_code, exit_code, own_frame, own_function, at_once, passed_in, instr_items, jump_items, two_way_items, leave_items, end_items, body_items, filled, opening_items, block_items, blocks_from, leaving_blocks, function_items, based, second_code, bases_code, main_items, start_items, functions_from, program_items}
use Rattle.asm_program.specs.Ranges.{IsLasting, InInstr, InEnd, InBlock, InFunction, InProgram, IsSaving, AreSaving}
use Rattle.asm_sound.proofs.Words.{alone, before, rows_if, addi_row, load_row, store_row, upper_row, lower_in, near_in}
use Rattle.asm_sound.proofs.Operands.{lasting_small, operand_small, operand_rows, into_rows}
use Rattle.asm_sound.proofs.Instructions.{plain_rows}
use Rattle.asm_sound.proofs.Calls.{before_rows, behind_rows}

-- instructions in a row are sound items
singles_sound : (is : List Instruction) → in_rows is ≡ true → AreSound (singles is)
singles_sound [] h = All-nil IsSound
singles_sound (i ∷ is) h = let b = and_parts (in_row i) (in_rows is) h in All-cons IsSound (items.Single i) (singles is) b.0 (singles_sound is b.1)

-- the words that a function saves are reached from where its frame begins

position_by : (b : Bool) (n k : ℕ) → n < k → (if b then 0 else suc n) < suc k
position_by true n k h = omega arith
position_by false n k h = omega arith

same_is : (x : ℕ) → (x == x) ≡ true
same_is x = grind (arith, nat_tests)

position_less : (xs : List ℕ) (i d : ℕ) → i < length xs → position xs (get_or xs i d) < length xs
position_less [] i d h = absurd (omega arith)
position_less (x ∷ xs) zero d h = subst (λ b. (if b then 0 else suc (position xs x)) < suc (length xs)) (sym (same_is x)) (omega arith)
position_less (x ∷ xs) (suc i) d h = position_by (x == get_or xs i d) (position xs (get_or xs i d)) (length xs) (position_less xs i d (omega arith))

-- a register that the function saves
pub record Saved (fr : Frame) (q : ℕ) : Type 0 where
  pub below : q < 24
  pub place : position fr.saved q < length fr.saved

pub all_saved : (fr : Frame) → IsSaving fr → All (Saved fr) fr.saved
all_saved fr h = λ i d less. record { below = h.0 i d less; place = position_less fr.saved i d less }

pub nears : (fr : Frame) (n : ℕ) → n ≤ length fr.saved → is_frame_near fr ≡ true → is_near (fr.at + 4 * n) ≡ true
nears fr n less h =
    let b = and_parts (is_near fr.at) (is_near (fr.at + 4 * length fr.saved)) h in
    let lo = and_parts (nat_le ram fr.at) (nat_lt fr.at (ram + 2 ^ 12)) b.0 in
    let hi = and_parts (nat_le ram (fr.at + 4 * length fr.saved)) (nat_lt (fr.at + 4 * length fr.saved) (ram + 2 ^ 12)) b.1 in
    let from = lo.0 in
    let to = hi.1 in
    let first : nat_le ram (fr.at + 4 * n) ≡ true = grind (arith, nat_tests) in
    let second : nat_lt (fr.at + 4 * n) (ram + 2 ^ 12) ≡ true = grind (arith, nat_tests) in
    ap (λ x. x && nat_lt (fr.at + 4 * n) (ram + 2 ^ 12)) first ∙ second

offset_within : (near : Bool) (fr : Frame) (n : ℕ) → is_frame_near fr ≡ near → n ≤ length fr.saved → length fr.saved ≤ 24 → is_within (2 ^ 11) (frame_offset near fr (fr.at + 4 * n)) ≡ true
offset_within true fr n e less few = near_in (fr.at + 4 * n) (nears fr n less e)
offset_within false fr n e less few = lt-ltb (fr.at + 4 * n - fr.at) (2 ^ 11) (omega arith)

register_small : (near : Bool) → frame_register near < 32
register_small true = omega arith
register_small false = omega arith

frame_rows : (near : Bool) (fr : Frame) → in_rows (frame_code near fr) ≡ true
frame_rows true fr = refl
frame_rows false fr = before (load_upper first_free fr.at) (addi first_free first_free (lower_of fr.at) ∷ []) (upper_row first_free fr.at (omega arith)) (alone (addi first_free first_free (lower_of fr.at)) (addi_row first_free first_free (lower_of fr.at) (omega arith) (omega arith) (lower_in fr.at)))

module _ (near : Bool) (fr : Frame) (e : is_frame_near fr ≡ near) (s : IsSaving fr) where
  return_within : is_within (2 ^ 11) (frame_offset near fr (return_at fr)) ≡ true
  return_within = let z : fr.at + 4 * 0 ≡ fr.at = omega arith in subst (λ a. is_within (2 ^ 11) (frame_offset near fr a) ≡ true) z (offset_within near fr 0 e (omega arith) s.1)

  link_store_rows : (leaf : Bool) → in_rows (link_store near fr leaf) ≡ true
  link_store_rows true = refl
  link_store_rows false = alone (store_word link (frame_register near) (frame_offset near fr (return_at fr))) (store_row link (frame_register near) (frame_offset near fr (return_at fr)) (omega arith) (register_small near) return_within)

  link_load_rows : (leaf : Bool) → in_rows (link_load near fr leaf) ≡ true
  link_load_rows true = refl
  link_load_rows false = alone (load_word link (frame_register near) (frame_offset near fr (return_at fr))) (load_row link (frame_register near) (frame_offset near fr (return_at fr)) (omega arith) (register_small near) return_within)

  saved_within : (q : ℕ) → Saved fr q → is_within (2 ^ 11) (frame_offset near fr (saved_at fr q)) ≡ true
  saved_within q h = let place = h.place in offset_within near fr (1 + position fr.saved q) e (omega arith) s.1

  saves_rows : (qs : List ℕ) → All (Saved fr) qs → in_rows (saves near fr qs) ≡ true
  saves_rows [] h = refl
  saves_rows (q ∷ qs) h =
      let one = All-head (Saved fr) q qs h in
      before (store_word (machine_register q) (frame_register near) (frame_offset near fr (saved_at fr q))) (saves near fr qs) (store_row (machine_register q) (frame_register near) (frame_offset near fr (saved_at fr q)) (lasting_small q one.below) (register_small near) (saved_within q one)) (saves_rows qs (All-tail (Saved fr) q qs h))

  loads_rows : (qs : List ℕ) → All (Saved fr) qs → in_rows (loads near fr qs) ≡ true
  loads_rows [] h = refl
  loads_rows (q ∷ qs) h =
      let one = All-head (Saved fr) q qs h in
      before (load_word (machine_register q) (frame_register near) (frame_offset near fr (saved_at fr q))) (loads near fr qs) (load_row (machine_register q) (frame_register near) (frame_offset near fr (saved_at fr q)) (lasting_small q one.below) (register_small near) (saved_within q one)) (loads_rows qs (All-tail (Saved fr) q qs h))

entry_rows : (leaf : Bool) (fr : Frame) → IsSaving fr → in_rows (entry_code leaf fr) ≡ true
entry_rows leaf fr s =
    let near = is_frame_near fr in
    rows_if (saves_nothing leaf fr) [] (frame_code near fr ++ (link_store near fr leaf ++ saves near fr fr.saved)) refl
    (rows-append (frame_code near fr) (link_store near fr leaf ++ saves near fr fr.saved) (frame_rows near fr) (rows-append (link_store near fr leaf) (saves near fr fr.saved) (link_store_rows near fr refl s leaf) (saves_rows near fr refl s fr.saved (all_saved fr s))))

exit_rows : (leaf : Bool) (fr : Frame) → IsSaving fr → in_rows (exit_code leaf fr) ≡ true
exit_rows leaf fr s =
    let near = is_frame_near fr in
    rows_if (saves_nothing leaf fr) [] (frame_code near fr ++ (link_load near fr leaf ++ loads near fr fr.saved)) refl
    (rows-append (frame_code near fr) (link_load near fr leaf ++ loads near fr fr.saved) (frame_rows near fr) (rows-append (link_load near fr leaf) (loads near fr fr.saved) (link_load_rows near fr refl s leaf) (loads_rows near fr refl s fr.saved (all_saved fr s))))

-- what is there of a frame and of a function, whatever their numbers
no_saving : IsSaving no_frame
no_saving = (All-nil (λ q. q < 24), omega arith)

saving_at : (frames : List Frame) (f : ℕ) → All IsSaving frames → IsSaving (slice_index_or frames f no_frame)
saving_at [] zero h = no_saving
saving_at [] (suc f) h = no_saving
saving_at (fr ∷ frames) zero h = All-head IsSaving fr frames h
saving_at (fr ∷ frames) (suc f) h = saving_at frames f (All-tail IsSaving fr frames h)

none_in : InFunction no_function
none_in = (All-nil IsLasting, All-nil InBlock)

pub function_at : (fns : List PlacedFunction) (f : ℕ) → All InFunction fns → InFunction (slice_index_or fns f no_function)
function_at [] zero h = none_in
function_at [] (suc f) h = none_in
function_at (fn ∷ fns) zero h = All-head InFunction fn fns h
function_at (fn ∷ fns) (suc f) h = function_at fns f (All-tail InFunction fn fns h)

one_sound : (x : Item) → IsSound x → AreSound (x ∷ [])
one_sound x h = All-cons IsSound x [] h (All-nil IsSound)

module _ (m : Memory) (p : Placed) (f : ℕ) (program : InProgram p) (saving : AreSaving m) where
  frame_saves : IsSaving (own_frame m p f)
  frame_saves = saving_at m.frames f saving

  jump_sound : (b : Bool) (n : ℕ) → AreSound (jump_items m p f b n)
  jump_sound true n = All-nil IsSound
  jump_sound false n = one_sound (items.Jump true n) tt

  two_way_sound : (next : Bool) (b : ℕ) (condition : Condition) (x y taken other : ℕ) → x < 32 → y < 32 → AreSound (two_way_items m p f next b condition x y taken other)
  two_way_sound true b condition x y taken other h k = one_sound (items.Branch Far (opposite condition) x y other) (h, k)
  two_way_sound false b condition x y taken other h k =
      All-cons IsSound (items.Branch Far condition x y taken) (jump_items m p f (other == suc b) other) (h, k) (jump_sound (other == suc b) other)

  leave_sound : (b : Bool) (n : ℕ) → AreSound (leave_items m p f b n)
  leave_sound true n = All-append IsSound (singles (exit_code (is_leaf (own_function m p f)) (own_frame m p f))) (items.Return ∷ []) (singles_sound (exit_code (is_leaf (own_function m p f)) (own_frame m p f)) (exit_rows (is_leaf (own_function m p f)) (own_frame m p f) frame_saves)) (one_sound items.Return tt)
  leave_sound false n = let last = length (own_function m p f).blocks in jump_sound (last == suc n) last

  end_sound : (b : ℕ) (end : End Place) → InEnd end → AreSound (end_items m p f b end)
  end_sound b (Jump n) h = jump_sound (n == suc b) n
  end_sound b (Branch condition x y taken other) h =
      let fr = own_frame m p f in
      let is = operand_code fr first_free x ++ operand_code fr second_free y in
      let left = operand_register fr first_free x in
      let right = operand_register fr second_free y in
      All-append IsSound (singles is) (two_way_items m p f (taken == suc b) b condition left right taken other)
      (singles_sound is (rows-append (operand_code fr first_free x) (operand_code fr second_free y) (operand_rows fr first_free x (omega arith)) (operand_rows fr second_free y (omega arith))))
      (two_way_sound (taken == suc b) b condition left right taken other (operand_small fr first_free x (omega arith) h.0) (operand_small fr second_free y (omega arith) h.1))
  end_sound b (Return x) h =
      let fr = own_frame m p f in
      All-append IsSound (singles (into_code fr result x)) (leave_items m p f (at_once m p f) b) (singles_sound (into_code fr result x) (into_rows fr result x (omega arith) h)) (leave_sound (at_once m p f) b)

  instr_sound : (i : Instr Place (List ℕ)) (rest : List Item) → InInstr i → AreSound rest → AreSound (instr_items m p f i rest)
  instr_sound (Do i) rest h k = All-append IsSound (singles (plain_code (own_frame m p f) m i)) rest (singles_sound (plain_code (own_frame m p f) m i) (plain_rows (own_frame m p f) m i h)) k
  instr_sound (Call d callee args note) rest h k =
      let fr = own_frame m p f in
      let ps = passed_in m p f callee args in
      let registers : All IsLasting ps = All-take IsLasting (length args) (function_in p callee).parameters (function_at p.functions callee program).0 in
      let first = before_call fr (frame_of m callee) ps note args in
      let last = behind_call fr d ps note in
      All-append IsSound (singles first) (items.Call true callee ∷ (singles last ++ rest)) (singles_sound first (before_rows fr (frame_of m callee) ps note args registers h.1))
      (All-cons IsSound (items.Call true callee) (singles last ++ rest) tt (All-append IsSound (singles last) rest (singles_sound last (behind_rows fr d ps note registers h.0)) k))

  body_sound : (b : ℕ) (is : List (Instr Place (List ℕ))) (end : End Place) → All InInstr is → InEnd end → AreSound (body_items m p f b is end)
  body_sound b [] end h k = end_sound b end k
  body_sound b (i ∷ is) end h k = instr_sound i (body_items m p f b is end) (All-head InInstr i is h) (body_sound b is end (All-tail InInstr i is h) k)

  filled_sound : (xs : List Item) → AreSound xs → AreSound (filled m p f xs)
  filled_sound [] h = one_sound (items.Single (addi 0 0 (pos 0))) refl
  filled_sound (x ∷ xs) h = h

  opening_sound : (b : ℕ) → AreSound (opening_items m p f b)
  opening_sound zero = singles_sound (entry_code (is_leaf (own_function m p f)) (own_frame m p f)) (entry_rows (is_leaf (own_function m p f)) (own_frame m p f) frame_saves)
  opening_sound (suc b) = All-nil IsSound

  blocks_sound : (b : ℕ) (bs : List PlacedBlock) → All InBlock bs → BlocksSound (blocks_from m p f b bs)
  blocks_sound b [] h = All-nil AreSound
  blocks_sound b (block ∷ bs) h =
      let one = All-head InBlock block bs h in
      All-cons AreSound (block_items m p f b block) (blocks_from m p f (suc b) bs)
      (filled_sound (opening_items m p f b ++ body_items m p f b block.code block.end) (All-append IsSound (opening_items m p f b) (body_items m p f b block.code block.end) (opening_sound b) (body_sound b block.code block.end one.0 one.1)))
      (blocks_sound (suc b) bs (All-tail InBlock block bs h))

  leaving_sound : (b : Bool) → BlocksSound (leaving_blocks m p f b)
  leaving_sound true = All-nil AreSound
  leaving_sound false = All-cons AreSound (leave_items m p f true 0) [] (leave_sound true 0) (All-nil AreSound)

  function_sound : BlocksSound (function_items m p f)
  function_sound = All-append AreSound (blocks_from m p f 0 (own_function m p f).blocks) (leaving_blocks m p f (at_once m p f)) (blocks_sound 0 (own_function m p f).blocks (function_at p.functions f program).1) (leaving_sound (at_once m p f))

functions_sound : (m : Memory) (p : Placed) (f : ℕ) (fns : List PlacedFunction) → InProgram p → AreSaving m → FunctionsSound (functions_from m p f fns)
functions_sound m p f [] h k = All-nil BlocksSound
functions_sound m p f (fn ∷ fns) h k = All-cons BlocksSound (function_items m p f) (functions_from m p (suc f) fns) (function_sound m p f h k) (functions_sound m p (suc f) fns h k)

-- an address comes into a register
based_rows : (r a : ℕ) → r < 32 → in_rows (based r a) ≡ true
based_rows r a h = before (load_upper r a) (addi r r (lower_of a) ∷ []) (upper_row r a h) (alone (addi r r (lower_of a)) (addi_row r r (lower_of a) h h (lower_in a)))

bases_rows : (second : ℕ) → in_rows (bases_code second) ≡ true
bases_rows second =
    rows-append (based base base_address) (second_code second) (based_rows base base_address (omega arith))
    (rows_if (second == 0) [] (based second_base second) refl (based_rows second_base second (omega arith)))

start_sound : (second main : ℕ) → BlocksSound (start_items second main)
start_sound second main =
    let last = All-cons IsSound (items.Single (addi service 0 (pos 0))) (items.Exit ∷ []) refl (one_sound items.Exit tt) in
    let call = All-cons IsSound (items.Call true main) (items.Single (addi service 0 (pos 0)) ∷ items.Exit ∷ []) tt last in
    All-cons AreSound (singles (bases_code second) ++ main_items main) [] (All-append IsSound (singles (bases_code second)) (main_items main) (singles_sound (bases_code second) (bases_rows second)) call) (All-nil AreSound)

pub program_sound : (m : Memory) (p : Placed) → InProgram p → AreSaving m → FunctionsSound (program_items m p)
program_sound m p h k =
    All-append BlocksSound (functions_from m p 0 p.functions) (start_items m.second p.main ∷ []) (functions_sound m p 0 p.functions h k) (All-cons BlocksSound (start_items m.second p.main) [] (start_sound m.second p.main) (All-nil BlocksSound))
