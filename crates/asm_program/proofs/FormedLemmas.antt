-- A program over places has the form that a layout takes.
use Rattle.std.proofs.Common.{◌≡◌, ◌≢◌, ◌⊎◌, inl, inr, ℕ, zero, suc, ◌+◌, ◌<◌, List, [], ◌∷◌, length, All, Contains, Some, None, refl, sym, ap, ◌∙◌, subst, arith}
use Rattle.std.specs.Prelude.{slice_get}
use Rattle.std.proofs.lemmas.List.Elements.{All-head, All-tail, All-weaker, Contains-append_cases}
use Rattle.low_ir.specs.declared.places.Place.{Place}
use Rattle.low_ir.specs.Code.{Instr, Do, Call, End, Jump, Branch, Return, Block, Function, Note, Low}
use Rattle.low_ir.specs.Formed.{callee, CallsBelow, BlockCallsBelow, LeadsOn, LeadsTo_as, IsLoop, only_jump, opening, IsLow}
use Rattle.low_ir.specs.Formed as formed
use Rattle.low_ir.specs.Places.{Assignment, place_end, place_code, place_block, place_blocks, place_function, place_functions, placed}
use Rattle.low_ir.specs.Turns.{mark_in}
use Rattle.asm_program.specs.Functions.{PlacedFunction, callees_in, all_callees}
use Rattle.asm_program.specs.Formed.{IsFunction, IsProgram}

-- the function of a placed program with a number
place_function_of : (a : Assignment) (k : ℕ) (fns : List (Function ℕ Note)) (f : ℕ) (fn : PlacedFunction) → slice_get (place_functions a k fns) f ≡ Some fn → (low : Function ℕ Note) × (slice_get fns f ≡ Some low) × (place_function a (k + f) low ≡ fn)
place_function_of a k [] f fn e = cc
place_function_of a k (x ∷ fns) zero fn e =
    let same : place_function a k x ≡ fn = cc in
    let n : k + 0 ≡ k = omega arith in
    (x, refl, ap (λ i. place_function a i x) n ∙ same)
place_function_of a k (x ∷ fns) (suc f) fn e =
    let r = place_function_of a (suc k) fns f fn e in
    let n : k + suc f ≡ suc k + f = omega arith in
    (r.0, r.1, ap (λ i. place_function a i r.0) n ∙ r.2)

functions_length : (a : Assignment) (k : ℕ) (fns : List (Function ℕ Note)) → length (place_functions a k fns) ≡ length fns
functions_length a k [] = refl
functions_length a k (fn ∷ fns) = ap suc (functions_length a (suc k) fns)

module _ (pl : ℕ → Place) (kept : ℕ → List ℕ) where
  blocks_length : (p : ℕ) (bs : List (Block ℕ Note)) → length (place_blocks pl kept p bs) ≡ length bs
  blocks_length p [] = refl
  blocks_length p (b ∷ bs) = ap suc (blocks_length (p + suc (length b.code)) bs)

  leads_end : (end : End ℕ) (n : ℕ) → LeadsOn (place_end pl end) n → LeadsOn end n
  leads_end (Jump b) n h = h
  leads_end (Branch c x y taken other) n h = h
  leads_end (Return x) n h = h

  leads_blocks : (p : ℕ) (bs : List (Block ℕ Note)) (b n : ℕ) → LeadsTo_as (slice_get (place_blocks pl kept p bs) b) n → LeadsTo_as (slice_get bs b) n
  leads_blocks p [] b n h = h
  leads_blocks p (x ∷ bs) zero n h = leads_end x.end n h
  leads_blocks p (x ∷ bs) (suc b) n h = leads_blocks (p + suc (length x.code)) bs b n h

  latch_block : (p : ℕ) (bs : List (Block ℕ Note)) (b n : ℕ) → slice_get bs b ≡ Some (only_jump n) → slice_get (place_blocks pl kept p bs) b ≡ Some (only_jump n)
  latch_block p [] b n e = cc
  latch_block p (x ∷ bs) zero n e = let same : x ≡ only_jump n = cc in ap (λ y. Some (place_block pl kept p y)) same
  latch_block p (x ∷ bs) (suc b) n e = latch_block (p + suc (length x.code)) bs b n e

  -- what it calls
  code_calls : (f p : ℕ) (is : List (Instr ℕ Note)) (g : ℕ) → All (CallsBelow f) is → Contains (callees_in (place_code pl kept p is)) g → g < f
  code_calls f p [] g h (n, lt, e) = absurd (omega arith)
  code_calls f p (Do i ∷ is) g h has = code_calls f (suc p) is g (All-tail (CallsBelow f) (Do i) is h) has
  code_calls f p (Call d callee args note ∷ is) g h (zero, lt, e) =
      let one = All-head (CallsBelow f) (Call d callee args note) is h in
      let below = All-head (λ x. x < f) callee [] one in omega arith
  code_calls f p (Call d callee args note ∷ is) g h (suc n, lt, e) = code_calls f (suc p) is g (All-tail (CallsBelow f) (Call d callee args note) is h) (n, omega arith, e)

  blocks_call : (f p : ℕ) (bs : List (Block ℕ Note)) (g : ℕ) → All (BlockCallsBelow f) bs → Contains (all_callees (place_blocks pl kept p bs)) g → g < f
  blocks_call f p [] g h (n, lt, e) = absurd (omega arith)
  blocks_call f p (x ∷ bs) g h has =
      by_part (Contains-append_cases (callees_in (place_code pl kept p x.code)) (all_callees (place_blocks pl kept (p + suc (length x.code)) bs)) g has)
      (blocks_call f (p + suc (length x.code)) bs g (All-tail (BlockCallsBelow f) x bs h))
    where
      by_part : Contains (callees_in (place_code pl kept p x.code)) g ⊎ Contains (all_callees (place_blocks pl kept (p + suc (length x.code)) bs)) g → (Contains (all_callees (place_blocks pl kept (p + suc (length x.code)) bs)) g → g < f) → g < f
      by_part (inl c) later = code_calls f p x.code g (All-head (BlockCallsBelow f) x bs h) c
      by_part (inr c) later = later c

some_blocks : (fn : Function ℕ Note) → opening fn ≢ None → 0 < length fn.blocks
some_blocks fn h = by_blocks fn.blocks h
  where
    by_blocks : (bs : List (Block ℕ Note)) → mark_in (slice_get bs 0) ≢ None → 0 < length bs
    by_blocks [] h = absurd (h refl)
    by_blocks (b ∷ bs) h = omega arith

pub program : (a : Assignment) (low : Low) → IsLow low → IsProgram (placed a low)
program a low ok = record {
  main = let n = functions_length a 0 low.functions in let h = ok.main in omega arith;
  functions = λ f fn e. of_function f fn (place_function_of a 0 low.functions f fn e);
}
  where
    placed_function : (f : ℕ) (x : Function ℕ Note) → formed.IsFunction low f x → IsFunction f (place_function a f x)
    placed_function f x h = record {
      some = let n = blocks_length (a.place f) (a.kept f) 0 x.blocks in let s = some_blocks x h.opens in omega arith;
      calls = λ g has. blocks_call (a.place f) (a.kept f) f 0 x.blocks g h.calls has;
      stays = λ b n leads. let l = blocks_length (a.place f) (a.kept f) 0 x.blocks in let s = h.stays b n (leads_blocks (a.place f) (a.kept f) 0 x.blocks b n leads) in omega arith;
      forward = λ b n leads back. h.forward b n (leads_blocks (a.place f) (a.kept f) 0 x.blocks b n leads) back;
      loops = All-weaker (IsLoop x) (IsLoop (place_function a f x)) (λ l k. record {
        header = k.header;
        latch = k.latch;
        back = latch_block (a.place f) (a.kept f) 0 x.blocks l.latch l.header k.back;
        entered = λ b n leads within out. k.entered b n (leads_blocks (a.place f) (a.kept f) 0 x.blocks b n leads) within out;
      }) x.loops h.loops;
      nested = h.nested;
    }

    of_function : (f : ℕ) (fn : PlacedFunction) → (x : Function ℕ Note) × (slice_get low.functions f ≡ Some x) × (place_function a (0 + f) x ≡ fn) → IsFunction f fn
    of_function f fn (x, e, same) =
        let n : 0 + f ≡ f = omega arith in
        subst (IsFunction f) (ap (λ i. place_function a i x) (sym n) ∙ same) (placed_function f x (ok.functions f x e))
