-- Code whose displacements are words has those of its program over places.
use Rattle.std.proofs.Common.{ℕ, suc, ◌+◌, List, [], ◌∷◌, length, map, All}
use Rattle.std.proofs.lemmas.List.Elements.{All-cons, All-head, All-nil, All-tail}
use Rattle.low_ir.specs.declared.instruction.Instr.{Instr}
use Rattle.low_ir.specs.declared.instruction.Instr.TheVariants.{Set, Operate, Point, Load, Store, Put, Get, Call}
use Rattle.low_ir.specs.declared.low.Block.{Block}
use Rattle.low_ir.specs.declared.low.Function.{Function}
use Rattle.low_ir.specs.declared.places.Place.{Place}
use Rattle.low_ir.specs.declared.places.LowReg.{LowReg}
use Rattle.low_ir.specs.View.{instr_of, block_of, function_of}
use Rattle.low_ir.specs.Places.{Assignment, place_instr, place_code, place_block, place_blocks, place_function, place_functions}
use Rattle.low_ir.specs.Placings.{assignment_of, placed_of}
use Rattle.asm_program.specs.Functions.{PlacedBlock, PlacedFunction}
use Rattle.asm_program.specs.Laws.{AreWords}
use Rattle.image_definition.specs.Sizes.{HasWords}
use Rattle.low_layout.specs.Words.{InstrHasWords, BlockHasWords, FunctionHasWords}

abbrev InBlock : PlacedBlock → Type 0
InBlock b = All AreWords b.code

abbrev InFunction : PlacedFunction → Type 0
InFunction fn = All InBlock fn.blocks

module _ (pl : ℕ → Place) (kept : ℕ → List ℕ) where
  instr_words : (p : ℕ) (i : Instr) → InstrHasWords i → AreWords (place_instr pl kept p (instr_of i))
  instr_words p (Set d x) h = tt
  instr_words p (Operate operator d x y) h = tt
  instr_words p (Point d a) h = h
  instr_words p (Load kind d a) h = h
  instr_words p (Store kind a x) h = h
  instr_words p (Put x) h = tt
  instr_words p (Get d) h = tt
  instr_words p (Call f args d) h = tt

  code_words : (p : ℕ) (is : List Instr) → All InstrHasWords is → All AreWords (place_code pl kept p (map instr_of is))
  code_words p [] h = All-nil AreWords
  code_words p (i ∷ is) h =
      All-cons AreWords (place_instr pl kept p (instr_of i)) (place_code pl kept (suc p) (map instr_of is)) (instr_words p i (All-head InstrHasWords i is h)) (code_words (suc p) is (All-tail InstrHasWords i is h))

  blocks_words : (p : ℕ) (bs : List Block) → All BlockHasWords bs → All InBlock (place_blocks pl kept p (map block_of bs))
  blocks_words p [] h = All-nil InBlock
  blocks_words p (b ∷ bs) h =
      All-cons InBlock (place_block pl kept p (block_of b)) (place_blocks pl kept (p + suc (length (block_of b).code)) (map block_of bs)) (code_words p b.code.items (All-head BlockHasWords b bs h))
      (blocks_words (p + suc (length (block_of b).code)) bs (All-tail BlockHasWords b bs h))

functions_words : (a : Assignment) (f : ℕ) (fns : List Function) → All FunctionHasWords fns → All InFunction (place_functions a f (map function_of fns))
functions_words a f [] h = All-nil InFunction
functions_words a f (fn ∷ fns) h =
    All-cons InFunction (place_function a f (function_of fn)) (place_functions a (suc f) (map function_of fns)) (blocks_words (a.place f) (a.kept f) 0 fn.blocks.items (All-head FunctionHasWords fn fns h))
    (functions_words a (suc f) fns (All-tail FunctionHasWords fn fns h))

pub words_placed : (code : LowReg) → All FunctionHasWords code.low.functions.items → HasWords (placed_of code)
words_placed code h = functions_words (assignment_of code) 0 code.low.functions.items h
