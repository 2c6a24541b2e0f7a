-- The tree of a numbered source is well formed.
use Rattle.std.proofs.Common.{ℕ, zero, suc, false, refl, arith}
use Rattle.c_tree.specs.Formed.{AreFormedItems, EachOf, IsFirstPlace, IsFormedExternal, IsFormedUnit}
use Rattle.command_numbered.proofs.Trees.{Given, Places, calls, functions, function, main_of, start, unit, externals}

module _ {N : Type 0} (g : Given N) (f : ℕ → N) where
  function_formed : (name : N) (i : ℕ) (q : ℕ → ℕ) → IsFormedExternal (function g name i q)
  function_formed name i q = grind arith

  functions_formed : (q : ℕ → ℕ → ℕ) (m : ℕ) → EachOf IsFormedExternal (functions g f q m)
  functions_formed q zero = tt
  functions_formed q (suc m) = (functions_formed q m, function_formed (f (suc m)) (suc m) (q (suc m)))

  calls_formed : (h : ℕ → ℕ) (q : ℕ → ℕ → ℕ) (m : ℕ) → AreFormedItems false (calls g f q (start g h) m)
  calls_formed h q zero = grind arith
  calls_formed h q (suc m) = let rest = calls_formed h q m in grind (arith, rest)

  main_formed : (p : Places) (n : ℕ) → IsFormedExternal (main_of g f p n)
  main_formed p n = let rest = calls_formed p.head p.call n in grind (arith, rest)

  first_place : (p : Places) (m : ℕ) → IsFirstPlace (p.function 1 0) (externals g f p (suc m))
  first_place p zero = refl
  first_place p (suc m) = first_place p m

  pub unit_formed : (p : Places) (m : ℕ) → IsFormedUnit (unit g f p (suc m))
  unit_formed p m = (first_place p m, (functions_formed p.function (suc m), main_formed p (suc m)))
