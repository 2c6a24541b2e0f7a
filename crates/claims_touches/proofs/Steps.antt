-- What the loops over instructions, blocks and functions leave.
use Rattle.std.proofs.Common.{◌≡◌, ℕ, zero, suc, ◌+◌, ◌≤◌, Bool, List, [], ◌∷◌, ◌++◌, length, map, drop, refl, sym, ap, ◌∙◌, arith, append_assoc, append-nil}
use Rattle.std.proofs.Math.Seq.{drop-nil}
use Rattle.std.proofs.lemmas.List.{map-append}
use Rattle.low_ir.specs.declared.instruction.Instr as instrs
use Rattle.low_ir.specs.declared.low.Block as blocks
use Rattle.low_ir.specs.declared.low.Function as functions
use Rattle.low_ir.specs.declared.places.Place.{Place}
use Rattle.low_ir.specs.Code.{Function, Note}
use Rattle.low_ir.specs.View.{instr_of, block_of, function_of}
use Rattle.low_ir.specs.Places.{Assignment, Placed, place_instr, place_code, place_block, place_blocks, place_functions}
use Rattle.asm_program.specs.Frames.{Memory}
use Rattle.asm_program.specs.Functions.{PlacedBlock, at_once, function_in, start_items}
use Rattle.claims_definition.specs.Touches.{Touch, block_touches, blocks_touches, function_touches, functions_touches, instr_touches, leaving_touches, program_touches}
use Rattle.claims_touches.specs.declared.touch.Touch as names
use Rattle.claims_touches.specs.Named.{instr_names, item_names, touch_in}
use Rattle.claims_touches.specs.Bodies.{each_touches, instrs_touches}
use Rattle.claims_touches.proofs.Touched.{blocks_are, instr_is}

drop_none : {A : Type 0} (xs : List A) (k : ℕ) → length xs ≤ k → drop k xs ≡ []
drop_none [] k h = drop-nil k
drop_none (x ∷ xs) zero h = absurd (omega arith)
drop_none (x ∷ xs) (suc k) h = drop_none xs k (omega arith)

module _ (m : Memory) (p : Placed) where
  abbrev of_block : List names.Touch → List Touch
  of_block = map (touch_in p.claims)

  abbrev of_function : List (List names.Touch) → List (List Touch)
  of_function = map of_block

  module _ (f : ℕ) where
    module _ (pl : ℕ → Place) (kept : ℕ → List ℕ) where
      pub code_step : (old new : List names.Touch) (start : List Touch) (q behind : ℕ) (l rest : List instrs.Instr) (x : instrs.Instr) → l ≡ x ∷ rest → behind ≡ suc q → new ≡ old ++ instr_names m p f (place_instr pl kept q (instr_of x)) → of_block old ++ instrs_touches m p f (place_code pl kept q (map instr_of l)) ≡ start → of_block new ++ instrs_touches m p f (place_code pl kept behind (map instr_of rest)) ≡ start
      code_step old new start q behind l rest x e n made h =
          let i = place_instr pl kept q (instr_of x) in
          let left = instrs_touches m p f (place_code pl kept (suc q) (map instr_of rest)) in
          ap (λ k. of_block new ++ instrs_touches m p f (place_code pl kept k (map instr_of rest))) n
          ∙ ap (λ z. of_block z ++ left) made
          ∙ ap (λ z. z ++ left) (map-append (touch_in p.claims) old (instr_names m p f i) ∙ ap (λ z. of_block old ++ z) (instr_is m p f i))
          ∙ append_assoc (of_block old) (instr_touches m p f i) left
          ∙ ap (λ z. of_block old ++ instrs_touches m p f (place_code pl kept q (map instr_of z))) (sym e)
          ∙ h

      pub blocks_step : (old new : List (List names.Touch)) (start : List (List Touch)) (n next q behind : ℕ) (l rest : List blocks.Block) (x : blocks.Block) (made : List names.Touch) → l ≡ x ∷ rest → next ≡ suc n → behind ≡ q + suc (length (block_of x).code) → new ≡ old ++ made ∷ [] → of_block made ≡ block_touches m p f n (place_block pl kept q (block_of x)) → of_function old ++ blocks_touches m p f n (place_blocks pl kept q (map block_of l)) ≡ start → of_function new ++ blocks_touches m p f next (place_blocks pl kept behind (map block_of rest)) ≡ start
      blocks_step old new start n next q behind l rest x made e k at more is h =
          let left = blocks_touches m p f (suc n) (place_blocks pl kept (q + suc (length (block_of x).code)) (map block_of rest)) in
          ap (λ i. of_function new ++ blocks_touches m p f i (place_blocks pl kept behind (map block_of rest))) k
          ∙ ap (λ i. of_function new ++ blocks_touches m p f (suc n) (place_blocks pl kept i (map block_of rest))) at
          ∙ ap (λ z. of_function z ++ left) more
          ∙ ap (λ z. z ++ left) (map-append of_block old (made ∷ []))
          ∙ append_assoc (of_function old) (of_block made ∷ []) left
          ∙ ap (λ z. of_function old ++ z ∷ left) is
          ∙ ap (λ z. of_function old ++ blocks_touches m p f n (place_blocks pl kept q (map block_of z))) (sym e)
          ∙ h

    -- a function is its blocks, and behind them one that leaves it, where returns don't by themselves
    pub function_made : (bs : List PlacedBlock) (all new : List (List names.Touch)) (leaves : Bool) → (function_in p f).blocks ≡ bs → leaves ≡ at_once m p f → of_function all ≡ blocks_touches m p f 0 bs → of_function new ≡ of_function all ++ leaving_touches m p f leaves → of_function new ≡ function_touches m p f
    function_made bs all new leaves own once e more =
        more
        ∙ ap (λ z. z ++ leaving_touches m p f leaves) (e ∙ ap (blocks_touches m p f 0) (sym own))
        ∙ ap (λ b. blocks_touches m p f 0 (function_in p f).blocks ++ leaving_touches m p f b) once

  abbrev of_program : List (List (List names.Touch)) → List (List (List Touch))
  of_program = map of_function

  module _ (a : Assignment) where
    -- what is touched goes by the numbers of functions alone
    each_functions : (k f : ℕ) (fns : List (Function ℕ Note)) → each_touches m p f fns ≡ functions_touches m p f (place_functions a k fns)
    each_functions k f [] = refl
    each_functions k f (fn ∷ fns) = ap (λ l. function_touches m p f ∷ l) (each_functions (suc k) (suc f) fns)

    pub functions_done : (all : List (List (List names.Touch))) (n : ℕ) (xs : List functions.Function) → length xs ≤ n → of_program all ++ each_touches m p n (map function_of (drop n xs)) ≡ each_touches m p 0 (map function_of xs) → of_program all ≡ functions_touches m p 0 (place_functions a 0 (map function_of xs))
    functions_done all n xs h e =
        sym (append-nil (of_program all))
        ∙ ap (λ l. of_program all ++ each_touches m p n (map function_of l)) (sym (drop_none xs n h))
        ∙ e
        ∙ each_functions 0 0 (map function_of xs)

  -- the start code comes last
  pub program_made : (all new : List (List (List names.Touch))) (start : List (List names.Touch)) → of_program all ≡ functions_touches m p 0 p.functions → new ≡ all ++ start ∷ [] → start ≡ map item_names (start_items m.second p.main) → of_program new ≡ program_touches m p
  program_made all new start e more is =
      ap of_program more
      ∙ map-append of_function all (start ∷ [])
      ∙ ap (λ z. z ++ of_function start ∷ []) e
      ∙ ap (λ z. functions_touches m p 0 p.functions ++ z ∷ []) (ap of_function is ∙ blocks_are p.claims (start_items m.second p.main))
