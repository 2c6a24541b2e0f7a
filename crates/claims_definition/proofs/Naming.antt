-- A program over places names the arrays and claims that its program names.
use Rattle.std.proofs.Common.{◌≡◌, ℕ, suc, ◌+◌, ◌<◌, List, [], ◌∷◌, length, Some, refl}
use Rattle.std.specs.Prelude.{All, slice_get}
use Rattle.std.proofs.lemmas.List.Elements.{All-cons, All-head, All-nil, All-tail}
use Rattle.low_ir.specs.declared.places.Place.{Place}
use Rattle.low_ir.specs.Code.{Address, Base, Fixed, Through, Set, Operate, Point, Load, Store, Put, Get, Instr, Do, Call, Block, Function, Low, Note}
use Rattle.low_ir.specs.Formed.{BlockNamesThere, IsClaim, IsLow, IsThere, NamesThere, base_claims, base_objects}
use Rattle.low_ir.specs.Places.{Assignment, Placed, place_address, place_base, place_block, place_blocks, place_code, place_function, place_functions, place_instr, placed}
use Rattle.asm_program.specs.Functions.{PlacedFunction}
use Rattle.claims_definition.specs.AccessLaws.{IsNamed}

module _ (a : Assignment) (low : Low) where
  abbrev p : Placed
  p = placed a low

  module _ (pl : ℕ → Place) (kept : ℕ → List ℕ) where
    base_there : (b : Base ℕ) → All (λ o. o < length low.objects) (base_objects b) → All (λ c. c < length low.claims) (base_claims b) → All (λ o. o < length p.objects) (base_objects (place_base pl b)) × All (λ c. c < length p.claims) (base_claims (place_base pl b))
    base_there (Fixed o) h k = (h, k)
    base_there (Through r claim) h k = (h, k)

    address_there : (x : Address ℕ) → All (IsThere low) (x ∷ []) → All (IsThere p) (place_address pl x ∷ [])
    address_there x h = let k = All-head (IsThere low) x [] h in All-cons (IsThere p) (place_address pl x) [] (base_there x.base k.0 k.1) (All-nil (IsThere p))

    instr_there : (n : ℕ) (i : Instr ℕ Note) → NamesThere low i → NamesThere p (place_instr pl kept n i)
    instr_there n (Do (Set d x)) h = All-nil (IsThere p)
    instr_there n (Do (Operate operator d x y)) h = All-nil (IsThere p)
    instr_there n (Do (Point d x)) h = address_there x h
    instr_there n (Do (Load kind d x)) h = address_there x h
    instr_there n (Do (Store kind x y)) h = address_there x h
    instr_there n (Do (Put x)) h = All-nil (IsThere p)
    instr_there n (Do (Get d)) h = All-nil (IsThere p)
    instr_there n (Call d f args note) h = All-nil (IsThere p)

    code_there : (n : ℕ) (is : List (Instr ℕ Note)) → All (NamesThere low) is → All (NamesThere p) (place_code pl kept n is)
    code_there n [] h = All-nil (NamesThere p)
    code_there n (i ∷ is) h = All-cons (NamesThere p) (place_instr pl kept n i) (place_code pl kept (suc n) is) (instr_there n i (All-head (NamesThere low) i is h)) (code_there (suc n) is (All-tail (NamesThere low) i is h))

    blocks_there : (n : ℕ) (bs : List (Block ℕ Note)) → All (BlockNamesThere low) bs → All (BlockNamesThere p) (place_blocks pl kept n bs)
    blocks_there n [] h = All-nil (BlockNamesThere p)
    blocks_there n (b ∷ bs) h =
        All-cons (BlockNamesThere p) (place_block pl kept n b) (place_blocks pl kept (n + suc (length b.code)) bs) (code_there n b.code (All-head (BlockNamesThere low) b bs h)) (blocks_there (n + suc (length b.code)) bs (All-tail (BlockNamesThere low) b bs h))

  abbrev Names : PlacedFunction → Type 0
  Names fn = All (BlockNamesThere p) fn.blocks

  functions_there : (f : ℕ) (fns : List (Function ℕ Note)) → ((k : ℕ) (fn : Function ℕ Note) → slice_get fns k ≡ Some fn → All (BlockNamesThere low) fn.blocks) → All Names (place_functions a f fns)
  functions_there f [] h = All-nil Names
  functions_there f (fn ∷ fns) h =
      All-cons Names (place_function a f fn) (place_functions a (suc f) fns) (blocks_there (a.place f) (a.kept f) 0 fn.blocks (h 0 fn refl)) (functions_there (suc f) fns (λ k x e. h (suc k) x e))

  claims_there : (cs : List (List ℕ)) → All (IsClaim low) cs → All (IsClaim p) cs
  claims_there [] h = All-nil (IsClaim p)
  claims_there (c ∷ cs) h = All-cons (IsClaim p) c cs (All-head (IsClaim low) c cs h) (claims_there cs (All-tail (IsClaim low) c cs h))

  pub named : IsLow low → IsNamed p
  named is = record { functions = functions_there 0 low.functions (λ k fn e. let g = is.functions k fn e in g.names); claims = claims_there low.claims is.claims }
