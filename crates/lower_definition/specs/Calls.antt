-- Which functions are called, and which arrays are passed to them.
use Rattle.std.specs.Prelude.{ℕ, zero, suc, ◌==◌, nat_lt, if◌then◌else◌, List, [], ◌∷◌, ◌++◌, length, map, replicate, reverse, Option, Some, None, slice_get, slice_index_or, slice_set}
use Rattle.high_ir.specs.declared.object.Base.{Base}
use Rattle.high_ir.specs.declared.object.Base.TheVariants.{Object, Parameter}
use Rattle.high_ir.specs.Tree.{Statement, Set, Put, Get, Keep, Mark, Seq, If, Loop, Block, Leave, Call, Return, Statements, End, Then, Function, Program}
use Rattle.high_ir.specs.Runs.{rank_or}
use Rattle.high_ir.specs.Standing.{callees_of}
use Rattle.low_ir.specs.Effects.{is_member}

abbrev pub visited_all : (ℕ → List ℕ → List ℕ) → List ℕ → List ℕ → List ℕ
visited_all visit [] done = done
visited_all visit (g ∷ gs) done = visited_all visit gs (visit g done)

-- a function stands behind those that it calls
abbrev pub behind_callees : (ℕ → List ℕ → List ℕ) → ℕ → Option Function → List ℕ → List ℕ
behind_callees visit f None done = done
behind_callees visit f (Some h) done = visited_all visit (callees_of h.body) done ++ f ∷ []

abbrev pub visited : List Function → ℕ → ℕ → List ℕ → List ℕ
visited fs zero f done = done
visited fs (suc n) f done = if is_member done f then done else behind_callees (visited fs n) f (slice_get fs f) done

-- the functions that calls reach from main, callees first; calls nest as deep as ranks allow
abbrev pub order : Program → List ℕ
order p = visited p.functions (suc (rank_or p.functions p.main 0)) p.main []

-- the place of a function in this order
abbrev pub place_in : List ℕ → ℕ → ℕ
place_in [] f = 0
place_in (g ∷ gs) f = if g == f then 0 else suc (place_in gs f)

-- a call, as far as it passes arrays
pub record Site : Type 0 where
  pub function : ℕ
  pub arrays : List Base

abbrev mutual
  pub sites_of : Statement → List Site
  sites_of (Call f values arrays into) = record { function = f; arrays = arrays } ∷ []
  sites_of (Seq parts) = sites_of_all parts
  sites_of (If test first other) = sites_of first ++ sites_of other
  sites_of (Loop id least most body) = sites_of body
  sites_of (Block body) = sites_of body
  sites_of (Set x e) = []
  sites_of (Put e) = []
  sites_of (Get x) = []
  sites_of (Keep array i e) = []
  sites_of (Mark m) = []
  sites_of (Leave d) = []
  sites_of (Return e) = []

  pub sites_of_all : Statements → List Site
  sites_of_all End = []
  sites_of_all (Then first rest) = sites_of first ++ sites_of_all rest

-- by function, and then by array parameter: the arrays that calls pass
abbrev pub Passed : Type 0
Passed = List (List (List ℕ))

abbrev pub none_passed : List Function → Passed
none_passed fs = map (λ h. replicate h.arrays []) fs

-- a list of arrays with more of them, each once
abbrev pub noted : List ℕ → List ℕ → List ℕ
noted claim [] = claim
noted claim (o ∷ os) = noted (if is_member claim o then claim else claim ++ o ∷ []) os

-- the arrays that may be meant, where these are passed to the function itself
abbrev pub meant : (objects : ℕ) → List (List ℕ) → Base → List ℕ
meant objects own (Object o) = if nat_lt o objects then o ∷ [] else []
meant objects own (Parameter j) = slice_index_or own j []

module _ (objects : ℕ) where
  abbrev pub passed_to : List (List ℕ) → List Base → List (List ℕ) → List (List ℕ)
  passed_to own [] claims = claims
  passed_to own (b ∷ bs) [] = []
  passed_to own (b ∷ bs) (c ∷ cs) = noted c (meant objects own b) ∷ passed_to own bs cs

  abbrev pub at_site : List (List ℕ) → Passed → Site → Passed
  at_site own passed s = slice_set passed s.function (passed_to own s.arrays (slice_index_or passed s.function []))

  abbrev pub at_sites : List (List ℕ) → Passed → List Site → Passed
  at_sites own passed [] = passed
  at_sites own passed (s ∷ ss) = at_sites own (at_site own passed s) ss

  abbrev pub by_function : ℕ → Option Function → Passed → Passed
  by_function f None passed = passed
  by_function f (Some h) passed = at_sites (slice_index_or passed f []) passed (sites_of h.body)

  abbrev pub by_functions : List Function → List ℕ → Passed → Passed
  by_functions fs [] passed = passed
  by_functions fs (g ∷ gs) passed = by_functions fs gs (by_function g (slice_get fs g) passed)

-- callers come before those that they call
abbrev pub all_passed : Program → Passed
all_passed p = by_functions (length p.objects) p.functions (reverse (order p)) (none_passed p.functions)

-- the claims of a function's array parameters, from a number on; an array parameter for which nothing is passed has none
abbrev pub numbered : ℕ → List (List ℕ) → List (Option ℕ)
numbered n [] = []
numbered n ([] ∷ cs) = None ∷ numbered n cs
numbered n ((o ∷ os) ∷ cs) = Some n ∷ numbered (suc n) cs

abbrev pub claims_among : List (List ℕ) → List (List ℕ)
claims_among [] = []
claims_among ([] ∷ cs) = claims_among cs
claims_among ((o ∷ os) ∷ cs) = (o ∷ os) ∷ claims_among cs
