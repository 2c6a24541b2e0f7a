-- What is listed of array parameters are arrays of the program.
use Rattle.std.proofs.Common.{◌≡◌, ℕ, zero, suc, ◌<◌, Bool, true, false, List, [], ◌∷◌, ◌++◌, length, replicate, Option, Some, None, refl, arith}
use Rattle.std.specs.Prelude.{if◌then◌else◌, nat_lt, reverse, slice_get, slice_index_or, slice_set}
use Rattle.std.proofs.lemmas.Bool.{ltb-true}
use Rattle.high_ir.specs.declared.object.Base.{Base}
use Rattle.high_ir.specs.declared.object.Base.TheVariants.{Object, Parameter}
use Rattle.high_ir.specs.Tree.{Function, Program}
use Rattle.low_ir.specs.Effects.{is_member}
use Rattle.lower_definition.specs.Calls.{Passed, Site, all_passed, at_site, at_sites, by_function, by_functions, claims_among, meant, none_passed, noted, order, passed_to, sites_of}
use Rattle.lower_nesting.specs.Blocks.{AllOf}

module _ (objects : ℕ) where
  abbrev pub Small : List ℕ → Type 0
  Small os = AllOf (λ o. o < objects) os

  abbrev pub AllSmall : List (List ℕ) → Type 0
  AllSmall [] = Unit {0}
  AllSmall (c ∷ cs) = Small c × AllSmall cs

  abbrev pub TableSmall : Passed → Type 0
  TableSmall [] = Unit {0}
  TableSmall (cs ∷ t) = AllSmall cs × TableSmall t

  append : (xs ys : List ℕ) → Small xs → Small ys → Small (xs ++ ys)
  append [] ys h k = k
  append (x ∷ xs) ys h k = (h.0, append xs ys h.1 k)

  noted_small : (os claim : List ℕ) → Small os → Small claim → Small (noted claim os)
  noted_small [] claim h k = k
  noted_small (o ∷ os) claim h k = by_test (is_member claim o) (λ c g. noted_small os c h.1 g)
    where
      by_test : (b : Bool) → ((c : List ℕ) → Small c → Small (noted c os)) → Small (noted (if b then claim else claim ++ o ∷ []) os)
      by_test true go = go claim k
      by_test false go = go (claim ++ o ∷ []) (append claim (o ∷ []) k (h.0, tt))

  list_at : (cs : List (List ℕ)) (j : ℕ) → AllSmall cs → Small (slice_index_or cs j [])
  list_at [] j h = tt
  list_at (c ∷ cs) zero h = h.0
  list_at (c ∷ cs) (suc j) h = list_at cs j h.1

  pub table_at : (t : Passed) (f : ℕ) → TableSmall t → AllSmall (slice_index_or t f [])
  table_at [] f h = tt
  table_at (cs ∷ t) zero h = h.0
  table_at (cs ∷ t) (suc f) h = table_at t f h.1

  table_set : (t : Passed) (f : ℕ) (cs : List (List ℕ)) → TableSmall t → AllSmall cs → TableSmall (slice_set t f cs)
  table_set [] f cs h k = h
  table_set (c ∷ t) zero cs h k = (k, h.1)
  table_set (c ∷ t) (suc f) cs h k = (h.0, table_set t f cs h.1 k)

  meant_small : (own : List (List ℕ)) (b : Base) → AllSmall own → Small (meant objects own b)
  meant_small own (Object o) h = by_test (nat_lt o objects) refl
    where
      by_test : (b : Bool) → nat_lt o objects ≡ b → Small (if b then o ∷ [] else [])
      by_test true t = (ltb-true o objects t, tt)
      by_test false t = tt
  meant_small own (Parameter j) h = list_at own j h

  passed_small : (own : List (List ℕ)) (bs : List Base) (cs : List (List ℕ)) → AllSmall own → AllSmall cs → AllSmall (passed_to objects own bs cs)
  passed_small own [] cs h k = k
  passed_small own (b ∷ bs) [] h k = tt
  passed_small own (b ∷ bs) (c ∷ cs) h k = (noted_small (meant objects own b) c (meant_small own b h) k.0, passed_small own bs cs h k.1)

  sites_small : (own : List (List ℕ)) (t : Passed) (ss : List Site) → AllSmall own → TableSmall t → TableSmall (at_sites objects own t ss)
  sites_small own t [] h k = k
  sites_small own t (s ∷ ss) h k =
      sites_small own (at_site objects own t s) ss h (table_set t s.function (passed_to objects own s.arrays (slice_index_or t s.function [])) k (passed_small own s.arrays (slice_index_or t s.function []) h (table_at t s.function k)))

  function_small : (f : ℕ) (o : Option Function) (t : Passed) → TableSmall t → TableSmall (by_function objects f o t)
  function_small f None t k = k
  function_small f (Some h) t k = sites_small (slice_index_or t f []) t (sites_of h.body) (table_at t f k) k

  functions_small : (fs : List Function) (gs : List ℕ) (t : Passed) → TableSmall t → TableSmall (by_functions objects fs gs t)
  functions_small fs [] t k = k
  functions_small fs (g ∷ gs) t k = functions_small fs gs (by_function objects g (slice_get fs g) t) (function_small g (slice_get fs g) t k)

  nothing_small : (n : ℕ) → AllSmall (replicate n [])
  nothing_small zero = tt
  nothing_small (suc n) = (tt, nothing_small n)

  none_small : (fs : List Function) → TableSmall (none_passed fs)
  none_small [] = tt
  none_small (h ∷ fs) = (nothing_small h.arrays, none_small fs)

  -- claims: something is passed
  abbrev pub Filled : List ℕ → Type 0
  Filled c = (0 < length c) × Small c

  abbrev pub AllFilled : List (List ℕ) → Type 0
  AllFilled [] = Unit {0}
  AllFilled (c ∷ cs) = Filled c × AllFilled cs

  pub among_filled : (cs : List (List ℕ)) → AllSmall cs → AllFilled (claims_among cs)
  among_filled [] h = tt
  among_filled ([] ∷ cs) h = among_filled cs h.1
  among_filled ((o ∷ os) ∷ cs) h = ((omega arith, h.0), among_filled cs h.1)

  pub filled_append : (xs ys : List (List ℕ)) → AllFilled xs → AllFilled ys → AllFilled (xs ++ ys)
  filled_append [] ys h k = k
  filled_append (x ∷ xs) ys h k = (h.0, filled_append xs ys h.1 k)

pub passed_table : (p : Program) → TableSmall (length p.objects) (all_passed p)
passed_table p = functions_small (length p.objects) p.functions (reverse (order p)) (none_passed p.functions) (none_small (length p.objects) p.functions)

-- a claim that is named is there
pub named_there : (cs : List (List ℕ)) (place : ℕ) → place < length (claims_among cs) → slice_index_or (claims_among cs) place [] ≡ [] → ⊥
named_there [] place low e = absurd (omega (arith, low))
named_there ([] ∷ cs) place low e = named_there cs place low e
named_there ((o ∷ os) ∷ cs) zero low e = cc
named_there ((o ∷ os) ∷ cs) (suc place) low e = named_there cs place (omega (arith, low)) e
