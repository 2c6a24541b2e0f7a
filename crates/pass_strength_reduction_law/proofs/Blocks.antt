-- Blocks beside each other.
use Rattle.std.proofs.Common.{◌≡◌, ℕ, zero, suc, ◌+◌, Bool, List, [], ◌∷◌, Some, refl, subst, arith}
use Rattle.std.specs.Prelude.{slice_get}
use Rattle.std.specs.List.{AllZip}
use Rattle.low_ir.specs.Code.{Block, Function, Low, Note}
use Rattle.pass_strength_reduction_law.specs.Steps.{Beginnings, BlockStepped, BlocksStepped, Entries, FunctionStepped, FunctionsStepped}

module _ (p q : Low) (entry : Entries) (spare : ℕ → Bool) (out : Beginnings) (fn : Function ℕ Note) where
  -- one block, of some number
  pub record SomeStepped (b c : Block ℕ Note) : Type 0 where
    pub number : ℕ
    pub stepped : BlockStepped p q entry spare out fn number b c

  pub all_stepped : (n : ℕ) (bs cs : List (Block ℕ Note)) → BlocksStepped p q entry spare out fn n bs cs → AllZip SomeStepped bs cs
  all_stepped n [] [] h = tt
  all_stepped n [] (c ∷ cs) h = absurd h
  all_stepped n (b ∷ bs) [] h = absurd h
  all_stepped n (b ∷ bs) (c ∷ cs) h = (record { number = n; stepped = h.0 }, all_stepped (suc n) bs cs h.1)

  -- the block of a number
  pub record FoundBlock (cs : List (Block ℕ Note)) (place n : ℕ) (b : Block ℕ Note) : Type 0 where
    pub it : Block ℕ Note
    pub there : slice_get cs place ≡ Some it
    pub stepped : BlockStepped p q entry spare out fn n b it

  found_from : (n : ℕ) (bs cs : List (Block ℕ Note)) (k : ℕ) (b : Block ℕ Note) → BlocksStepped p q entry spare out fn n bs cs → slice_get bs k ≡ Some b → FoundBlock cs k (n + k) b
  found_from n [] cs k b h e = cc
  found_from n (x ∷ bs) [] k b h e = absurd h
  found_from n (x ∷ bs) (y ∷ cs) zero b h e =
      let same : x ≡ b = cc in
      let here : n ≡ n + 0 = omega arith in
      record { it = y; there = refl; stepped = subst (λ m. BlockStepped p q entry spare out fn m b y) here (subst (λ z. BlockStepped p q entry spare out fn n z y) same h.0) }
  found_from n (x ∷ bs) (y ∷ cs) (suc k) b h e =
      let f = found_from (suc n) bs cs k b h.1 e in
      let here : suc n + k ≡ n + suc k = omega arith in
      record { it = f.it; there = f.there; stepped = subst (λ m. BlockStepped p q entry spare out fn m b f.it) here f.stepped }

  pub found_block : (bs cs : List (Block ℕ Note)) → BlocksStepped p q entry spare out fn 0 bs cs → (k : ℕ) (b : Block ℕ Note) → slice_get bs k ≡ Some b → FoundBlock cs k k b
  found_block bs cs h k b e =
      let f = found_from 0 bs cs k b h e in
      let here : 0 + k ≡ k = omega arith in
      record { it = f.it; there = f.there; stepped = subst (λ m. BlockStepped p q entry spare out fn m b f.it) here f.stepped }

pub stepped_blocks : (p q : Low) (entry : Entries) (f : ℕ) (fn gn : Function ℕ Note) (h : FunctionStepped p q entry f fn gn) → AllZip (SomeStepped p q entry h.spare h.out fn) fn.blocks gn.blocks
stepped_blocks p q entry f fn gn h = all_stepped p q entry h.spare h.out fn 0 fn.blocks gn.blocks h.blocks

-- functions beside each other
module _ (p q : Low) (entry : Entries) where
  -- one, of some number
  pub record SomeFunction (fn gn : Function ℕ Note) : Type 0 where
    pub number : ℕ
    pub stepped : FunctionStepped p q entry number fn gn

  pub some_functions : (n : ℕ) (fs gs : List (Function ℕ Note)) → FunctionsStepped p q entry n fs gs → AllZip SomeFunction fs gs
  some_functions n [] [] h = tt
  some_functions n [] (g ∷ gs) h = absurd h
  some_functions n (f ∷ fs) [] h = absurd h
  some_functions n (f ∷ fs) (g ∷ gs) h = (record { number = n; stepped = h.0 }, some_functions (suc n) fs gs h.1)

  -- the function of a number
  pub record FoundFunction (gs : List (Function ℕ Note)) (place n : ℕ) (fn : Function ℕ Note) : Type 0 where
    pub it : Function ℕ Note
    pub there : slice_get gs place ≡ Some it
    pub stepped : FunctionStepped p q entry n fn it

  function_from : (n : ℕ) (fs gs : List (Function ℕ Note)) (k : ℕ) (fn : Function ℕ Note) → FunctionsStepped p q entry n fs gs → slice_get fs k ≡ Some fn → FoundFunction gs k (n + k) fn
  function_from n [] gs k fn h e = cc
  function_from n (x ∷ fs) [] k fn h e = absurd h
  function_from n (x ∷ fs) (y ∷ gs) zero fn h e =
      let same : x ≡ fn = cc in
      let here : n ≡ n + 0 = omega arith in
      record { it = y; there = refl; stepped = subst (λ m. FunctionStepped p q entry m fn y) here (subst (λ z. FunctionStepped p q entry n z y) same h.0) }
  function_from n (x ∷ fs) (y ∷ gs) (suc k) fn h e =
      let f = function_from (suc n) fs gs k fn h.1 e in
      let here : suc n + k ≡ n + suc k = omega arith in
      record { it = f.it; there = f.there; stepped = subst (λ m. FunctionStepped p q entry m fn f.it) here f.stepped }

  pub found_function : (fs gs : List (Function ℕ Note)) → FunctionsStepped p q entry 0 fs gs → (k : ℕ) (fn : Function ℕ Note) → slice_get fs k ≡ Some fn → FoundFunction gs k k fn
  found_function fs gs h k fn e =
      let f = function_from 0 fs gs k fn h e in
      let here : 0 + k ≡ k = omega arith in
      record { it = f.it; there = f.there; stepped = subst (λ m. FunctionStepped p q entry m fn f.it) here f.stepped }

  -- the first program's function where the second has one
  pub record BeforeFunction (fs : List (Function ℕ Note)) (place n : ℕ) (gn : Function ℕ Note) : Type 0 where
    pub it : Function ℕ Note
    pub there : slice_get fs place ≡ Some it
    pub stepped : FunctionStepped p q entry n it gn

  before_from : (n : ℕ) (fs gs : List (Function ℕ Note)) (k : ℕ) (gn : Function ℕ Note) → FunctionsStepped p q entry n fs gs → slice_get gs k ≡ Some gn → BeforeFunction fs k (n + k) gn
  before_from n [] [] k gn h e = cc
  before_from n [] (y ∷ gs) k gn h e = absurd h
  before_from n (x ∷ fs) [] k gn h e = cc
  before_from n (x ∷ fs) (y ∷ gs) zero gn h e =
      let same : y ≡ gn = cc in
      let here : n ≡ n + 0 = omega arith in
      record { it = x; there = refl; stepped = subst (λ m. FunctionStepped p q entry m x gn) here (subst (λ z. FunctionStepped p q entry n x z) same h.0) }
  before_from n (x ∷ fs) (y ∷ gs) (suc k) gn h e =
      let f = before_from (suc n) fs gs k gn h.1 e in
      let here : suc n + k ≡ n + suc k = omega arith in
      record { it = f.it; there = f.there; stepped = subst (λ m. FunctionStepped p q entry m f.it gn) here f.stepped }

  pub before_function : (fs gs : List (Function ℕ Note)) → FunctionsStepped p q entry 0 fs gs → (k : ℕ) (gn : Function ℕ Note) → slice_get gs k ≡ Some gn → BeforeFunction fs k k gn
  before_function fs gs h k gn e =
      let f = before_from 0 fs gs k gn h e in
      let here : 0 + k ≡ k = omega arith in
      record { it = f.it; there = f.there; stepped = subst (λ m. FunctionStepped p q entry m f.it gn) here f.stepped }
