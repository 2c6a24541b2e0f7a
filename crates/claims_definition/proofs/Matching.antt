-- Each load and store is among what touches memory, and nothing else is.
use Rattle.std.proofs.Common.{◌≡◌, ℕ, suc, Bool, true, false, List, [], ◌∷◌, ◌++◌, map, refl, ap, ◌∙◌, subst, append_assoc}
use Rattle.rv_core.specs.Instructions.{Instruction, instruction}
use Rattle.rv_core.specs.Rows.{row_of}
use Rattle.rv_core.specs.Table.{accesses}
use Rattle.asm_items.specs.declared.item.Item.{Item}
use Rattle.asm_items.specs.declared.item.Item.TheVariants as items
use Rattle.asm_items.specs.Placings.{Blocks}
use Rattle.low_ir.specs.declared.object.Kind.{Kind}
use Rattle.low_ir.specs.declared.object.Kind.TheVariants.{Unsigned8, Signed8, Unsigned16, Signed16, Word}
use Rattle.low_ir.specs.declared.places.Place.{Place}
use Rattle.low_ir.specs.Code.{Set, Operate, Point, Load, Store, Put, Get, Instr, Do, Call, End}
use Rattle.low_ir.specs.Places.{Placed}
use Rattle.asm_program.specs.Emission.{before_call, behind_call, load_op, plain_code, store_op}
use Rattle.asm_program.specs.Frames.{Memory, frame_of}
use Rattle.asm_program.specs.Numbers.{first_free, second_free}
use Rattle.asm_program.specs.Operands.{address_code, address_offset, address_register, operand_code, operand_register, place_register, result_code}
use Rattle.asm_program.specs.Functions.{PlacedBlock, PlacedFunction, at_once, block_items, blocks_from, body_items, end_items, filled, function_items, functions_from, instr_items, leave_items, leaving_blocks, opening_items, own_frame, own_function, passed_in, program_items, singles, start_items}
use Rattle.claims_definition.specs.AccessLaws.{AreTouched, BlocksTouched, FunctionsTouched}
use Rattle.claims_definition.specs.Touches.{Touch, OfArrays, block_touches, blocks_touches, body_touches, filled_touches, frame_touch, function_touches, functions_touches, instr_touches, item_touch, leaving_touches, named, program_touches, touches, touches_memory}

same : (xs : List Item) → AreTouched (touches xs) xs
same [] = tt
same (x ∷ xs) = (refl, same xs)

append : (ts us : List Touch) (xs ys : List Item) → AreTouched ts xs → AreTouched us ys → AreTouched (ts ++ us) (xs ++ ys)
append [] us [] ys h k = k
append [] us (x ∷ xs) ys h k = absurd h
append (t ∷ ts) us [] ys h k = absurd h
append (t ∷ ts) us (x ∷ xs) ys h k = (h.0, append ts us xs ys h.1 k)

-- code before code
before : (is js : List Instruction) (ts : List Touch) → AreTouched ts (singles js) → AreTouched (touches (singles is) ++ ts) (singles (is ++ js))
before [] js ts h = h
before (i ∷ is) js ts h = (refl, before is js ts h)

load_accesses : (kind : Kind) → accesses (row_of (load_op kind)).class ≡ true
load_accesses Unsigned8 = refl
load_accesses Signed8 = refl
load_accesses Unsigned16 = refl
load_accesses Signed16 = refl
load_accesses Word = refl

store_accesses : (kind : Kind) → accesses (row_of (store_op kind)).class ≡ true
store_accesses Unsigned8 = refl
store_accesses Signed8 = refl
store_accesses Unsigned16 = refl
store_accesses Signed16 = refl
store_accesses Word = refl

-- an access
touched : (i : Instruction) (os : List ℕ) → accesses (row_of i.op).class ≡ true → touches_memory (OfArrays os) ≡ touches_memory (item_touch (items.Single i))
touched i os e = by_class (accesses (row_of i.op).class) e
  where
    by_class : (b : Bool) → b ≡ true → true ≡ touches_memory (frame_touch b)
    by_class true e = refl
    by_class false e = cc

module _ (m : Memory) (p : Placed) (f : ℕ) where
  -- what comes behind an instruction is as it is
  rest_is : (i : Instr Place (List ℕ)) (rest : List Item) → instr_items m p f i [] ++ rest ≡ instr_items m p f i rest
  rest_is (Do i) rest = append_assoc (singles (plain_code (own_frame m p f) m i)) [] rest
  rest_is (Call d callee args note) rest =
      let front = singles (before_call (own_frame m p f) (frame_of m callee) (passed_in m p f callee args) note args) in
      let behind = singles (behind_call (own_frame m p f) d (passed_in m p f callee args) note) in
      append_assoc front (items.Call true callee ∷ (behind ++ [])) rest ∙ ap (λ xs. front ++ (items.Call true callee ∷ xs)) (append_assoc behind [] rest)

  plainly : (i : Instr Place (List ℕ)) (us : List Touch) (ys : List Item) → AreTouched us ys → AreTouched (touches (instr_items m p f i []) ++ us) (instr_items m p f i ys)
  plainly i us ys h = subst (AreTouched (touches (instr_items m p f i []) ++ us)) (rest_is i ys) (append (touches (instr_items m p f i [])) us (instr_items m p f i []) ys (same (instr_items m p f i [])) h)

  instr_touched : (i : Instr Place (List ℕ)) (us : List Touch) (ys : List Item) → AreTouched us ys → AreTouched (instr_touches m p f i ++ us) (instr_items m p f i ys)
  instr_touched (Do (Load kind d a)) us ys h =
      let fr = own_frame m p f in
      let address = address_code fr m a in
      let behind = result_code fr first_free second_free d in
      let load = instruction (load_op kind) (place_register fr first_free d) (address_register fr m a) 0 (address_offset fr m a) in
      append (touches (singles address) ++ (OfArrays (named p a.base) ∷ touches (singles behind))) us (singles (address ++ load ∷ behind)) ys
      (before address (load ∷ behind) (OfArrays (named p a.base) ∷ touches (singles behind)) (touched load (named p a.base) (load_accesses kind), same (singles behind))) h
  instr_touched (Do (Store kind a x)) us ys h =
      let fr = own_frame m p f in
      let address = address_code fr m a in
      let value = operand_code fr second_free x in
      let store = instruction (store_op kind) 0 (address_register fr m a) (operand_register fr second_free x) (address_offset fr m a) in
      append (touches (singles address) ++ (touches (singles value) ++ (OfArrays (named p a.base) ∷ []))) us (singles (address ++ (value ++ (store ∷ [])))) ys
      (before address (value ++ (store ∷ [])) (touches (singles value) ++ (OfArrays (named p a.base) ∷ [])) (before value (store ∷ []) (OfArrays (named p a.base) ∷ []) (touched store (named p a.base) (store_accesses kind), tt))) h
  instr_touched (Do (Set d x)) us ys h = plainly (Do (Set d x)) us ys h
  instr_touched (Do (Operate operator d x y)) us ys h = plainly (Do (Operate operator d x y)) us ys h
  instr_touched (Do (Point d a)) us ys h = plainly (Do (Point d a)) us ys h
  instr_touched (Do (Put x)) us ys h = plainly (Do (Put x)) us ys h
  instr_touched (Do (Get d)) us ys h = plainly (Do (Get d)) us ys h
  instr_touched (Call d callee args note) us ys h = plainly (Call d callee args note) us ys h

  body_touched : (b : ℕ) (is : List (Instr Place (List ℕ))) (end : End Place) → AreTouched (body_touches m p f b is end) (body_items m p f b is end)
  body_touched b [] end = same (end_items m p f b end)
  body_touched b (i ∷ is) end = instr_touched i (body_touches m p f b is end) (body_items m p f b is end) (body_touched b is end)

  filled_touched : (ts : List Touch) (xs : List Item) → AreTouched ts xs → AreTouched (filled_touches m p f ts) (filled m p f xs)
  filled_touched [] [] h = (refl, tt)
  filled_touched [] (x ∷ xs) h = absurd h
  filled_touched (t ∷ ts) [] h = absurd h
  filled_touched (t ∷ ts) (x ∷ xs) h = h

  block_touched : (b : ℕ) (x : PlacedBlock) → AreTouched (block_touches m p f b x) (block_items m p f b x)
  block_touched b x =
      filled_touched (touches (opening_items m p f b) ++ body_touches m p f b x.code x.end) (opening_items m p f b ++ body_items m p f b x.code x.end)
      (append (touches (opening_items m p f b)) (body_touches m p f b x.code x.end) (opening_items m p f b) (body_items m p f b x.code x.end) (same (opening_items m p f b)) (body_touched b x.code x.end))

  blocks_append : (ts us : List (List Touch)) (xs ys : Blocks) → BlocksTouched ts xs → BlocksTouched us ys → BlocksTouched (ts ++ us) (xs ++ ys)
  blocks_append [] us [] ys h k = k
  blocks_append [] us (x ∷ xs) ys h k = absurd h
  blocks_append (t ∷ ts) us [] ys h k = absurd h
  blocks_append (t ∷ ts) us (x ∷ xs) ys h k = (h.0, blocks_append ts us xs ys h.1 k)

  blocks_touched : (b : ℕ) (bs : List PlacedBlock) → BlocksTouched (blocks_touches m p f b bs) (blocks_from m p f b bs)
  blocks_touched b [] = tt
  blocks_touched b (x ∷ bs) = (block_touched b x, blocks_touched (suc b) bs)

  leaving_touched : (b : Bool) → BlocksTouched (leaving_touches m p f b) (leaving_blocks m p f b)
  leaving_touched true = tt
  leaving_touched false = (same (leave_items m p f true 0), tt)

  function_touched : BlocksTouched (function_touches m p f) (function_items m p f)
  function_touched =
      blocks_append (blocks_touches m p f 0 (own_function m p f).blocks) (leaving_touches m p f (at_once m p f)) (blocks_from m p f 0 (own_function m p f).blocks) (leaving_blocks m p f (at_once m p f)) (blocks_touched 0 (own_function m p f).blocks) (leaving_touched (at_once m p f))

functions_append : (ts us : List (List (List Touch))) (xs ys : List Blocks) → FunctionsTouched ts xs → FunctionsTouched us ys → FunctionsTouched (ts ++ us) (xs ++ ys)
functions_append [] us [] ys h k = k
functions_append [] us (x ∷ xs) ys h k = absurd h
functions_append (t ∷ ts) us [] ys h k = absurd h
functions_append (t ∷ ts) us (x ∷ xs) ys h k = (h.0, functions_append ts us xs ys h.1 k)

functions_touched : (m : Memory) (p : Placed) (f : ℕ) (fns : List PlacedFunction) → FunctionsTouched (functions_touches m p f fns) (functions_from m p f fns)
functions_touched m p f [] = tt
functions_touched m p f (fn ∷ fns) = (function_touched m p f, functions_touched m p (suc f) fns)

same_blocks : (bs : Blocks) → BlocksTouched (map touches bs) bs
same_blocks [] = tt
same_blocks (xs ∷ bs) = (same xs, same_blocks bs)

pub program_touched : (m : Memory) (p : Placed) → FunctionsTouched (program_touches m p) (program_items m p)
program_touched m p =
    functions_append (functions_touches m p 0 p.functions) (map touches (start_items m.second p.main) ∷ []) (functions_from m p 0 p.functions) (start_items m.second p.main ∷ []) (functions_touched m p 0 p.functions) (same_blocks (start_items m.second p.main), tt)
