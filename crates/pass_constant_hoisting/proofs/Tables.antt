-- Functions and blocks by their numbers.
use Rattle.std.proofs.Common.{◌≡◌, ℕ, zero, suc, ◌+◌, List, [], ◌∷◌, ◌++◌, Option, Some, None, refl, sym, ap, ◌∙◌, arith}
use Rattle.std.specs.Prelude.{map, slice_get}
use Rattle.low_ir.specs.Code.{Instr, Block, Function, Low, Note}
use Rattle.pass_constant_hoisting.specs.Holding.{fills, held_block, held_end, held_function, held_functions, held_instr, held_program, holding, opened, words_at}

-- the code of block b begins with this
abbrev pub before : ℕ → List (Instr ℕ Note) → List (Instr ℕ Note)
before zero code = code
before (suc b) code = []

abbrev pub held_at : ℕ → List ℕ → ℕ → Block ℕ Note → Block ℕ Note
held_at n ws b bl = record { mark = bl.mark; code = before b (fills n ws) ++ map (held_instr n ws) bl.code; end = held_end n ws bl.end }

map_at : (n : ℕ) (ws : List ℕ) (bs : List (Block ℕ Note)) (b : ℕ) (bl : Block ℕ Note) → slice_get bs b ≡ Some bl → slice_get (map (held_block n ws) bs) b ≡ Some (held_block n ws bl)
map_at n ws [] b bl e = cc
map_at n ws (x ∷ bs) zero bl e = let same : x ≡ bl = cc in ap (λ y. Some (held_block n ws y)) same
map_at n ws (x ∷ bs) (suc b) bl e = map_at n ws bs b bl e

opened_at : (n : ℕ) (ws : List ℕ) (bs : List (Block ℕ Note)) (b : ℕ) (bl : Block ℕ Note) → slice_get bs b ≡ Some bl → slice_get (opened (fills n ws) (map (held_block n ws) bs)) b ≡ Some (held_at n ws b bl)
opened_at n ws [] b bl e = cc
opened_at n ws (x ∷ bs) zero bl e = let same : x ≡ bl = cc in ap (λ y. Some (held_at n ws 0 y)) same
opened_at n ws (x ∷ bs) (suc b) bl e = map_at n ws bs b bl e

pub block_held : (ws : List ℕ) (fn : Function ℕ Note) (b : ℕ) (bl : Block ℕ Note) → slice_get fn.blocks b ≡ Some bl → slice_get (holding ws fn).blocks b ≡ Some (held_at fn.size ws b bl)
block_held ws fn b bl e = opened_at fn.size ws fn.blocks b bl e

map_none : (n : ℕ) (ws : List ℕ) (bs : List (Block ℕ Note)) (b : ℕ) → slice_get bs b ≡ None → slice_get (map (held_block n ws) bs) b ≡ None
map_none n ws [] b e = refl
map_none n ws (x ∷ bs) zero e = cc
map_none n ws (x ∷ bs) (suc b) e = map_none n ws bs b e

pub block_none : (ws : List ℕ) (fn : Function ℕ Note) (b : ℕ) → slice_get fn.blocks b ≡ None → slice_get (holding ws fn).blocks b ≡ None
block_none ws fn b e = go fn.blocks b e
  where
    go : (bs : List (Block ℕ Note)) (b : ℕ) → slice_get bs b ≡ None → slice_get (opened (fills fn.size ws) (map (held_block fn.size ws) bs)) b ≡ None
    go [] b e = refl
    go (x ∷ bs) zero e = cc
    go (x ∷ bs) (suc b) e = map_none fn.size ws bs b e

functions_from : (wss : List (List ℕ)) (k : ℕ) (fns : List (Function ℕ Note)) (f : ℕ) (fn : Function ℕ Note) → slice_get fns f ≡ Some fn → slice_get (held_functions wss k fns) f ≡ Some (held_function (words_at wss (k + f)) fn)
functions_from wss k [] f fn e = cc
functions_from wss k (x ∷ fns) zero fn e =
    let same : x ≡ fn = cc in
    let n : k ≡ k + 0 = omega arith in
    ap (λ y. Some (held_function (words_at wss k) y)) same ∙ ap (λ m. Some (held_function (words_at wss m) fn)) n
functions_from wss k (x ∷ fns) (suc f) fn e =
    let n : suc k + f ≡ k + suc f = omega arith in
    functions_from wss (suc k) fns f fn e ∙ ap (λ m. Some (held_function (words_at wss m) fn)) n

pub function_held : (wss : List (List ℕ)) (q : Low) (f : ℕ) (fn : Function ℕ Note) → slice_get q.functions f ≡ Some fn → slice_get (held_program wss q).functions f ≡ Some (held_function (words_at wss f) fn)
function_held wss q f fn e =
    let n : 0 + f ≡ f = omega arith in
    functions_from wss 0 q.functions f fn e ∙ ap (λ m. Some (held_function (words_at wss m) fn)) n

none_from : (wss : List (List ℕ)) (k : ℕ) (fns : List (Function ℕ Note)) (f : ℕ) → slice_get fns f ≡ None → slice_get (held_functions wss k fns) f ≡ None
none_from wss k [] f e = refl
none_from wss k (x ∷ fns) zero e = cc
none_from wss k (x ∷ fns) (suc f) e = none_from wss (suc k) fns f e

pub function_none : (wss : List (List ℕ)) (q : Low) (f : ℕ) → slice_get q.functions f ≡ None → slice_get (held_program wss q).functions f ≡ None
function_none wss q f e = none_from wss 0 q.functions f e

-- a function with words in registers is one of the program's with them
pub record OfFunction (wss : List (List ℕ)) (q : Low) (f : ℕ) (g : Function ℕ Note) : Type 0 where
  pub fn : Function ℕ Note
  pub there : slice_get q.functions f ≡ Some fn
  pub is : held_function (words_at wss f) fn ≡ g

pub of_function : (wss : List (List ℕ)) (q : Low) (f : ℕ) (g : Function ℕ Note) → slice_get (held_program wss q).functions f ≡ Some g → OfFunction wss q f g
of_function wss q f g e = by_function (slice_get q.functions f) refl
  where
    by_function : (o : Option (Function ℕ Note)) → slice_get q.functions f ≡ o → OfFunction wss q f g
    by_function None n = let x = function_none wss q f n in let no : None ≡ Some g = sym x ∙ e in cc
    by_function (Some fn) n =
        let x = function_held wss q f fn n in
        let two : Some (held_function (words_at wss f) fn) ≡ Some g = sym x ∙ e in
        record { fn = fn; there = n; is = cc }

pub record OfBlock (ws : List ℕ) (fn : Function ℕ Note) (b : ℕ) (c : Block ℕ Note) : Type 0 where
  pub bl : Block ℕ Note
  pub there : slice_get fn.blocks b ≡ Some bl
  pub is : held_at fn.size ws b bl ≡ c

pub of_block : (ws : List ℕ) (fn : Function ℕ Note) (b : ℕ) (c : Block ℕ Note) → slice_get (holding ws fn).blocks b ≡ Some c → OfBlock ws fn b c
of_block ws fn b c e = by_block (slice_get fn.blocks b) refl
  where
    by_block : (o : Option (Block ℕ Note)) → slice_get fn.blocks b ≡ o → OfBlock ws fn b c
    by_block None n = let x = block_none ws fn b n in let no : None ≡ Some c = sym x ∙ e in cc
    by_block (Some bl) n =
        let x = block_held ws fn b bl n in
        let two : Some (held_at fn.size ws b bl) ≡ Some c = sym x ∙ e in
        record { bl = bl; there = n; is = cc }
