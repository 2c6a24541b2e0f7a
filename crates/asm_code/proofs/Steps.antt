-- What the loops over instructions, blocks and functions leave.
use Rattle.std.proofs.Common.{◌≡◌, ℕ, zero, suc, ◌+◌, ◌<◌, ◌≤◌, List, [], ◌∷◌, ◌++◌, length, map, drop, get_or, Some, All, sym, ap, ◌∙◌, subst, arith, add-one, drop-cons, append_assoc, append-nil}
use Rattle.std.specs.Prelude.{slice_get, slice_index_or}
use Rattle.std.proofs.Math.Seq.{drop-nil}
use Rattle.std.proofs.lemmas.List.{length-map}
use Rattle.std.proofs.lemmas.List.Elements.{All-head, All-tail}
use Rattle.asm_items.specs.declared.item.Item.{Item}
use Rattle.asm_items.specs.Placings.{Blocks}
use Rattle.low_ir.specs.declared.instruction.Instr as instrs
use Rattle.low_ir.specs.declared.low.Block as blocks
use Rattle.low_ir.specs.declared.low.Function as functions
use Rattle.low_ir.specs.declared.places.Place.{Place}
use Rattle.low_ir.specs.declared.places.LowReg.{LowReg}
use Rattle.low_ir.specs.Code.{Instr, End}
use Rattle.low_ir.specs.View.{instr_of, block_of, function_of}
use Rattle.low_ir.specs.Places.{Assignment, Placed, no_placing, place_instr, place_code, place_block, place_blocks, place_functions}
use Rattle.low_ir.specs.Placings.{placings_of, assignment_of, placed_of}
use Rattle.low_ir.specs.Programs.{low_of}
use Rattle.asm_program.specs.Frames.{Memory}
use Rattle.asm_program.specs.Functions.{PlacedBlock, PlacedFunction, no_function, function_in, instr_items, opening_items, end_items, body_items, filled, block_items, blocks_from, functions_from}
use Rattle.asm_program.specs.Ranges.{InInstr, InBlock, InProgram}
use Rattle.asm_sound.proofs.Programs as sound
use Rattle.asm_emission.specs.View.{place_at}
use Rattle.asm_code.specs.declared.scope.Scope.{Scope}
use Rattle.asm_code.specs.Bodies.{instrs_items, filled_items, each_items}
use Rattle.asm_code.specs.Scopes.{kept_at, program, placed_blocks, IsScopeOf}
use Rattle.asm_code.proofs.Bodies.{instr-rest, body-parts, filled-items}
use Rattle.asm_code.proofs.Placed.{function_at, each-functions}

-- the element at a place, and those behind it
pub drop-at : {A : Type 0} (xs : List A) (k : ℕ) (x : A) → k < length xs → x ≡ get_or xs k x → drop k xs ≡ x ∷ drop (k + 1) xs
drop-at xs k x less is = rw add-one (drop-cons xs k x less) ∙ ap (λ y. y ∷ drop (k + 1) xs) (sym is)

drop-none : {A : Type 0} (xs : List A) (k : ℕ) → length xs ≤ k → drop k xs ≡ []
drop-none [] k h = drop-nil k
drop-none (x ∷ xs) zero h = absurd (omega arith)
drop-none (x ∷ xs) (suc k) h = drop-none xs k (omega arith)

module _ (pl : ℕ → Place) (kept : ℕ → List ℕ) where
  pub code-there : (q : ℕ) (l rest : List instrs.Instr) (x : instrs.Instr) → l ≡ x ∷ rest → All InInstr (place_code pl kept q (map instr_of l)) → InInstr (place_instr pl kept q (instr_of x)) × All InInstr (place_code pl kept (suc q) (map instr_of rest))
  code-there q l rest x e h =
      let all = subst (λ z. All InInstr (place_code pl kept q (map instr_of z))) e h in
      let i = place_instr pl kept q (instr_of x) in
      let is = place_code pl kept (suc q) (map instr_of rest) in
      (All-head InInstr i is all, All-tail InInstr i is all)

  pub blocks-there : (q : ℕ) (l rest : List blocks.Block) (x : blocks.Block) → l ≡ x ∷ rest → All InBlock (place_blocks pl kept q (map block_of l)) → InBlock (place_block pl kept q (block_of x)) × All InBlock (place_blocks pl kept (q + suc (length (block_of x).code)) (map block_of rest))
  blocks-there q l rest x e h =
      let all = subst (λ z. All InBlock (place_blocks pl kept q (map block_of z))) e h in
      let b = place_block pl kept q (block_of x) in
      let bs = place_blocks pl kept (q + suc (length (block_of x).code)) (map block_of rest) in
      (All-head InBlock b bs all, All-tail InBlock b bs all)

  -- so many places take the instructions of a block
  pub place-behind : (q behind : ℕ) (x : blocks.Block) → behind ≡ q + suc (length x.code.items) → behind ≡ q + suc (length (block_of x).code)
  place-behind q behind x e = e ∙ ap (λ n. q + suc n) (sym (length-map x.code.items instr_of))

  module _ (m : Memory) (p : Placed) (f : ℕ) where
    pub code-step : (old new start : List Item) (q behind : ℕ) (l rest : List instrs.Instr) (x : instrs.Instr) → l ≡ x ∷ rest → behind ≡ suc q → new ≡ old ++ instr_items m p f (place_instr pl kept q (instr_of x)) [] → old ++ instrs_items m p f (place_code pl kept q (map instr_of l)) ≡ start → new ++ instrs_items m p f (place_code pl kept behind (map instr_of rest)) ≡ start
    code-step old new start q behind l rest x e n made h =
        let i = place_instr pl kept q (instr_of x) in
        let left = instrs_items m p f (place_code pl kept (suc q) (map instr_of rest)) in
        ap (λ k. new ++ instrs_items m p f (place_code pl kept k (map instr_of rest))) n
        ∙ ap (λ l. l ++ left) made
        ∙ append_assoc old (instr_items m p f i []) left
        ∙ ap (λ l. old ++ l) (sym (instr-rest m p f i left))
        ∙ ap (λ z. old ++ instrs_items m p f (place_code pl kept q (map instr_of z))) (sym e)
        ∙ h

    pub blocks-step : (old new start : Blocks) (n next q behind : ℕ) (l rest : List blocks.Block) (x : blocks.Block) (made : List Item) → l ≡ x ∷ rest → next ≡ suc n → behind ≡ q + suc (length (block_of x).code) → new ≡ old ++ made ∷ [] → made ≡ block_items m p f n (place_block pl kept q (block_of x)) → old ++ blocks_from m p f n (place_blocks pl kept q (map block_of l)) ≡ start → new ++ blocks_from m p f next (place_blocks pl kept behind (map block_of rest)) ≡ start
    blocks-step old new start n next q behind l rest x made e k at more is h =
        let left = blocks_from m p f (suc n) (place_blocks pl kept (q + suc (length (block_of x).code)) (map block_of rest)) in
        ap (λ i. new ++ blocks_from m p f i (place_blocks pl kept behind (map block_of rest))) k
        ∙ ap (λ i. new ++ blocks_from m p f (suc n) (place_blocks pl kept i (map block_of rest))) at
        ∙ ap (λ z. z ++ left) more
        ∙ append_assoc old (made ∷ []) left
        ∙ ap (λ z. old ++ z ∷ left) is
        ∙ ap (λ z. old ++ blocks_from m p f n (place_blocks pl kept q (map block_of z))) (sym e)
        ∙ h

module _ (m : Memory) (p : Placed) (f b : ℕ) where
  -- a block is its opening, its instructions and its end
  pub block-made : (is : List (Instr Place (List ℕ))) (end : End Place) (none opened coded ended made : List Item) → none ≡ [] → opened ≡ none ++ opening_items m p f b → coded ≡ opened ++ instrs_items m p f is → ended ≡ coded ++ end_items m p f b end → made ≡ filled_items ended → made ≡ filled m p f (opening_items m p f b ++ body_items m p f b is end)
  block-made is end none opened coded ended made e1 e2 e3 e4 e5 =
      let first = opening_items m p f b in
      let last = end_items m p f b end in
      let opening : opened ≡ first = e2 ∙ ap (λ l. l ++ first) e1 in
      let all : ended ≡ first ++ body_items m p f b is end =
      e4
      ∙ ap (λ l. l ++ last) (e3 ∙ ap (λ l. l ++ instrs_items m p f is) opening)
      ∙ append_assoc first (instrs_items m p f is) last
      ∙ ap (λ l. first ++ l) (sym (body-parts m p f b is end)) in
      e5 ∙ ap filled_items all ∙ filled-items m p f (first ++ body_items m p f b is end)

-- the blocks of a function of the program
pub own-blocks : (code : LowReg) (m : Memory) (f : ℕ) (s : Scope) (x : functions.Function) (xs : List blocks.Block) → IsScopeOf code m f s → slice_get (low_of code.low).functions f ≡ Some (function_of x) → xs ≡ x.blocks.items → (function_in (program s) s.number).blocks ≡ placed_blocks s 0 (map block_of xs)
own-blocks code m f s x xs is e h =
    let bs = map block_of x.blocks.items in
    let placing = slice_index_or (placings_of code) f no_placing in
    ap (λ z. (function_in (placed_of z) s.number).blocks) is.program_is
    ∙ ap (λ n. (function_in (placed_of code) n).blocks) is.number_is
    ∙ ap (λ (fn : PlacedFunction). fn.blocks) (function_at (assignment_of code) (low_of code.low).functions f (function_of x) no_function e)
    ∙ ap (λ q. place_blocks (place_at q) (kept_at placing.kept) 0 bs) (sym is.places_is)
    ∙ ap (λ q. place_blocks (place_at s.places.now) (kept_at q) 0 bs) (sym is.kept_is)
    ∙ ap (λ l. placed_blocks s 0 (map block_of l)) (sym h)

pub own-there : (p : Placed) (f : ℕ) (bs : List PlacedBlock) → InProgram p → (function_in p f).blocks ≡ bs → All InBlock bs
own-there p f bs h e = subst (All InBlock) e (sound.function_at p.functions f h).1

pub functions-done : (a : Assignment) (m : Memory) (p : Placed) (all : List Blocks) (n : ℕ) (xs : List functions.Function) → length xs ≤ n → all ++ each_items m p n (map function_of (drop n xs)) ≡ each_items m p 0 (map function_of xs) → all ≡ functions_from m p 0 (place_functions a 0 (map function_of xs))
functions-done a m p all n xs h e =
    sym (append-nil all)
    ∙ ap (λ l. all ++ each_items m p n (map function_of l)) (sym (drop-none xs n h))
    ∙ e
    ∙ each-functions a m p 0 0 (map function_of xs)
