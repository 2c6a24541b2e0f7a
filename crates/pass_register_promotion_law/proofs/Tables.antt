-- Functions and blocks by their numbers.
use Rattle.std.proofs.Common.{◌≡◌, ℕ, zero, suc, ◌+◌, List, [], ◌∷◌, ◌++◌, Option, Some, None, refl, sym, ap, ◌∙◌, arith}
use Rattle.std.specs.Prelude.{map, slice_get}
use Rattle.low_ir.specs.Code.{Instr, Block, Function, Low, Note}
use Rattle.pass_constant_hoisting.specs.Holding.{opened}
use Rattle.pass_register_promotion_law.specs.Promoting.{Resident, closing, loads, promoted_block, promoted_code, promoted_function, promoted_functions, promoted_program, residents_at}

-- the code of block b begins with this
abbrev pub before : ℕ → List (Instr ℕ Note) → List (Instr ℕ Note)
before zero code = code
before (suc b) code = []

abbrev pub promoted_at : ℕ → List Resident → ℕ → Block ℕ Note → Block ℕ Note
promoted_at n hs b bl = record { mark = bl.mark; code = before b (loads n hs) ++ (promoted_code n hs bl.code ++ closing n hs bl.end); end = bl.end }

map_at : (n : ℕ) (hs : List Resident) (bs : List (Block ℕ Note)) (b : ℕ) (bl : Block ℕ Note) → slice_get bs b ≡ Some bl → slice_get (map (promoted_block n hs) bs) b ≡ Some (promoted_block n hs bl)
map_at n hs [] b bl e = cc
map_at n hs (x ∷ bs) zero bl e = let same : x ≡ bl = cc in ap (λ y. Some (promoted_block n hs y)) same
map_at n hs (x ∷ bs) (suc b) bl e = map_at n hs bs b bl e

opened_at : (n : ℕ) (hs : List Resident) (bs : List (Block ℕ Note)) (b : ℕ) (bl : Block ℕ Note) → slice_get bs b ≡ Some bl → slice_get (opened (loads n hs) (map (promoted_block n hs) bs)) b ≡ Some (promoted_at n hs b bl)
opened_at n hs [] b bl e = cc
opened_at n hs (x ∷ bs) zero bl e = let same : x ≡ bl = cc in ap (λ y. Some (promoted_at n hs 0 y)) same
opened_at n hs (x ∷ bs) (suc b) bl e = map_at n hs bs b bl e

pub block_promoted : (hs : List Resident) (fn : Function ℕ Note) (b : ℕ) (bl : Block ℕ Note) → slice_get fn.blocks b ≡ Some bl → slice_get (promoted_function hs fn).blocks b ≡ Some (promoted_at fn.size hs b bl)
block_promoted hs fn b bl e = opened_at fn.size hs fn.blocks b bl e

map_none : (n : ℕ) (hs : List Resident) (bs : List (Block ℕ Note)) (b : ℕ) → slice_get bs b ≡ None → slice_get (map (promoted_block n hs) bs) b ≡ None
map_none n hs [] b e = refl
map_none n hs (x ∷ bs) zero e = cc
map_none n hs (x ∷ bs) (suc b) e = map_none n hs bs b e

pub block_none : (hs : List Resident) (fn : Function ℕ Note) (b : ℕ) → slice_get fn.blocks b ≡ None → slice_get (promoted_function hs fn).blocks b ≡ None
block_none hs fn b e = go fn.blocks b e
  where
    go : (bs : List (Block ℕ Note)) (b : ℕ) → slice_get bs b ≡ None → slice_get (opened (loads fn.size hs) (map (promoted_block fn.size hs) bs)) b ≡ None
    go [] b e = refl
    go (x ∷ bs) zero e = cc
    go (x ∷ bs) (suc b) e = map_none fn.size hs bs b e

functions_from : (hss : List (List Resident)) (k : ℕ) (fns : List (Function ℕ Note)) (f : ℕ) (fn : Function ℕ Note) → slice_get fns f ≡ Some fn → slice_get (promoted_functions hss k fns) f ≡ Some (promoted_function (residents_at hss (k + f)) fn)
functions_from hss k [] f fn e = cc
functions_from hss k (x ∷ fns) zero fn e =
    let same : x ≡ fn = cc in
    let n : k ≡ k + 0 = omega arith in
    ap (λ y. Some (promoted_function (residents_at hss k) y)) same ∙ ap (λ m. Some (promoted_function (residents_at hss m) fn)) n
functions_from hss k (x ∷ fns) (suc f) fn e =
    let n : suc k + f ≡ k + suc f = omega arith in
    functions_from hss (suc k) fns f fn e ∙ ap (λ m. Some (promoted_function (residents_at hss m) fn)) n

pub function_promoted : (hss : List (List Resident)) (q : Low) (f : ℕ) (fn : Function ℕ Note) → slice_get q.functions f ≡ Some fn → slice_get (promoted_program hss q).functions f ≡ Some (promoted_function (residents_at hss f) fn)
function_promoted hss q f fn e =
    let n : 0 + f ≡ f = omega arith in
    functions_from hss 0 q.functions f fn e ∙ ap (λ m. Some (promoted_function (residents_at hss m) fn)) n

none_from : (hss : List (List Resident)) (k : ℕ) (fns : List (Function ℕ Note)) (f : ℕ) → slice_get fns f ≡ None → slice_get (promoted_functions hss k fns) f ≡ None
none_from hss k [] f e = refl
none_from hss k (x ∷ fns) zero e = cc
none_from hss k (x ∷ fns) (suc f) e = none_from hss (suc k) fns f e

pub function_none : (hss : List (List Resident)) (q : Low) (f : ℕ) → slice_get q.functions f ≡ None → slice_get (promoted_program hss q).functions f ≡ None
function_none hss q f e = none_from hss 0 q.functions f e

-- a function with scalars in registers is one of the program's with them
pub record OfFunction (hss : List (List Resident)) (q : Low) (f : ℕ) (g : Function ℕ Note) : Type 0 where
  pub fn : Function ℕ Note
  pub there : slice_get q.functions f ≡ Some fn
  pub is : promoted_function (residents_at hss f) fn ≡ g

pub of_function : (hss : List (List Resident)) (q : Low) (f : ℕ) (g : Function ℕ Note) → slice_get (promoted_program hss q).functions f ≡ Some g → OfFunction hss q f g
of_function hss q f g e = by_function (slice_get q.functions f) refl
  where
    by_function : (o : Option (Function ℕ Note)) → slice_get q.functions f ≡ o → OfFunction hss q f g
    by_function None n = let x = function_none hss q f n in let no : None ≡ Some g = sym x ∙ e in cc
    by_function (Some fn) n =
        let x = function_promoted hss q f fn n in
        let two : Some (promoted_function (residents_at hss f) fn) ≡ Some g = sym x ∙ e in
        record { fn = fn; there = n; is = cc }

pub record OfBlock (hs : List Resident) (fn : Function ℕ Note) (b : ℕ) (c : Block ℕ Note) : Type 0 where
  pub bl : Block ℕ Note
  pub there : slice_get fn.blocks b ≡ Some bl
  pub is : promoted_at fn.size hs b bl ≡ c

pub of_block : (hs : List Resident) (fn : Function ℕ Note) (b : ℕ) (c : Block ℕ Note) → slice_get (promoted_function hs fn).blocks b ≡ Some c → OfBlock hs fn b c
of_block hs fn b c e = by_block (slice_get fn.blocks b) refl
  where
    by_block : (o : Option (Block ℕ Note)) → slice_get fn.blocks b ≡ o → OfBlock hs fn b c
    by_block None n = let x = block_none hs fn b n in let no : None ≡ Some c = sym x ∙ e in cc
    by_block (Some bl) n =
        let x = block_promoted hs fn b bl n in
        let two : Some (promoted_at fn.size hs b bl) ≡ Some c = sym x ∙ e in
        record { bl = bl; there = n; is = cc }
