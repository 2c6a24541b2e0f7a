-- The numbers of items rise, and no local array has one.
use Rattle.std.proofs.Common.{◌≡◌, ℕ, zero, suc, ◌+◌, ◌<◌, ◌≤◌, Bool, true, false, ◌||◌, ◌==◌, Some, List, [], ◌∷◌, ◌++◌, length, map, refl, ap, subst, ◌∙◌, arith}
use Rattle.std.specs.Prelude.{slice_get}
use Rattle.std.specs.List.{range_with_len}
use Rattle.std.proofs.lemmas.Bool.{ne_eqb}
use Rattle.rv_core.specs.Table.{Table}
use Rattle.code_flow_system.specs.declared.cert.Part.{Part}
use Rattle.low_ir.specs.declared.object.Storage.{Storage}
use Rattle.low_ir.specs.declared.object.Storage.TheVariants.{Constant, Global, Local}
use Rattle.low_ir.specs.Code.{Object}
use Rattle.image_frames.specs.Placings.{is_among}
use Rattle.claims_definition.specs.Listed.{Laid}
use Rattle.claims_definition.specs.Movables.{Movable, array_item, arrays_from, function_item, is_local, movables_of, unless}
use Rattle.spm_placement.specs.Gains.{gained}
use Rattle.spm_placement.specs.Placings.{AreApart}
use Rattle.spm_placement.specs.Sets.{number}

-- numbers rise from one on
abbrev pub Rising : ℕ → List Movable → Type 0
Rising n [] = Unit {0}
Rising n (m ∷ ms) = (n ≤ m.id) × Rising (suc m.id) ms

module _ (l : Laid) where
  abbrev pub count : ℕ
  count = length l.program.functions

  arrays_rise : (k o : ℕ) (xs : List Object) → k ≤ count + o → Rising k (arrays_from l o xs)
  arrays_rise k o [] le = tt
  arrays_rise k o (x ∷ xs) le = by_storage x.storage (arrays_rise (suc (count + o)) (suc o) xs (omega arith)) (arrays_rise k (suc o) xs (omega (arith, le)))
    where
      by_storage : (s : Storage) → Rising (suc (count + o)) (arrays_from l (suc o) xs) → Rising k (arrays_from l (suc o) xs) → Rising k (unless (is_local s) (array_item l o x) ++ arrays_from l (suc o) xs)
      by_storage Constant behind all = (le, behind)
      by_storage Global behind all = (le, behind)
      by_storage Local behind all = all

  functions_rise : (k n : ℕ) (ms : List Movable) → Rising (k + n) ms → Rising k (map (function_item l) (range_with_len k n) ++ ms)
  functions_rise k zero ms h = let e : k + 0 ≡ k = omega arith in subst (λ j. Rising j ms) e h
  functions_rise k (suc n) ms h =
      let on : k + suc n ≡ (k + 1) + n = omega arith in
      let next : k + 1 ≡ suc k = omega arith in
      (omega arith, subst (λ j. Rising j (map (function_item l) (range_with_len (k + 1) n) ++ ms)) next (functions_rise (k + 1) n ms (subst (λ j. Rising j ms) on h)))

  pub all_rise : Rising 0 (movables_of l)
  all_rise = functions_rise 0 count (arrays_from l 0 l.program.objects) (arrays_rise (0 + count) 0 l.program.objects (omega arith))

module _ (t : Table) (ps : List Part) where
  abbrev pub numbers : List Movable → List ℕ
  numbers ms = map number (map (gained t ps) ms)

  -- a number below all others is none of them
  pub none_below : (n k : ℕ) (ms : List Movable) → Rising n ms → k < n → is_among (numbers ms) k ≡ false
  none_below n k [] h lt = refl
  none_below n k (m ∷ ms) h lt =
      ap (λ b. b || is_among (numbers ms) k) (ne_eqb m.id k (λ e. omega (arith, h.0, lt, e)))
      ∙ none_below (suc m.id) k ms h.1 (omega (arith, h.0, lt))

  rising_apart : (n : ℕ) (ms : List Movable) → Rising n ms → AreApart (map (gained t ps) ms)
  rising_apart n [] h = tt
  rising_apart n (m ∷ ms) h = (none_below (suc m.id) m.id ms h.1 (omega arith), rising_apart (suc m.id) ms h.1)

  pub apart : (l : Laid) → AreApart (map (gained t ps) (movables_of l))
  apart l = rising_apart 0 (movables_of l) (all_rise l)

  -- a number of two lists is one of either
  among_append : (xs ys : List Movable) (k : ℕ) → is_among (numbers xs) k ≡ false → is_among (numbers (xs ++ ys)) k ≡ is_among (numbers ys) k
  among_append [] ys k h = refl
  among_append (m ∷ xs) ys k h = by_test (m.id == k) (λ e. among_append xs ys k e) h
    where
      by_test : (b : Bool) → (is_among (numbers xs) k ≡ false → is_among (numbers (xs ++ ys)) k ≡ is_among (numbers ys) k) → (b || is_among (numbers xs) k) ≡ false → (b || is_among (numbers (xs ++ ys)) k) ≡ is_among (numbers ys) k
      by_test true on e = cc
      by_test false on e = on e

  module _ (l : Laid) where
    functions_below : (k n j : ℕ) → k + n ≤ j → is_among (numbers (map (function_item l) (range_with_len k n))) j ≡ false
    functions_below k zero j le = refl
    functions_below k (suc n) j le =
        ap (λ b. b || is_among (numbers (map (function_item l) (range_with_len (k + 1) n))) j) (ne_eqb k j (λ e. omega (arith, le, e)))
        ∙ functions_below (k + 1) n j (omega (arith, le))

    local_none : (o j : ℕ) (xs : List Object) (x : Object) → slice_get xs j ≡ Some x → is_local x.storage ≡ true → is_among (numbers (arrays_from l o xs)) (count l + (o + j)) ≡ false
    local_none o j [] x is local = refl
    local_none o zero (y ∷ xs) x is local =
        let same : y ≡ x = cc in
        let here : is_local y.storage ≡ true = ap (λ (z : Object). is_local z.storage) same ∙ local in
        ap (λ b. is_among (numbers (unless b (array_item l o y) ++ arrays_from l (suc o) xs)) (count l + (o + 0))) here
        ∙ none_below (count l + suc o) (count l + (o + 0)) (arrays_from l (suc o) xs) (arrays_rise l (count l + suc o) (suc o) xs (omega arith)) (omega arith)
    local_none o (suc j) (y ∷ xs) x is local = by_storage y.storage (subst (λ n. is_among (numbers (arrays_from l (suc o) xs)) (count l + n) ≡ false) (on o j) (local_none (suc o) j xs x is local))
      where
        on : (n i : ℕ) → suc n + i ≡ n + suc i
        on n i = omega arith

        other : (b : Bool) → b ≡ false → is_among (numbers (arrays_from l (suc o) xs)) (count l + (o + suc j)) ≡ false → (b || is_among (numbers (arrays_from l (suc o) xs)) (count l + (o + suc j))) ≡ false
        other b e rest = ap (λ c. c || is_among (numbers (arrays_from l (suc o) xs)) (count l + (o + suc j))) e ∙ rest

        apart_from : ((count l + o) == (count l + (o + suc j))) ≡ false
        apart_from = ne_eqb (count l + o) (count l + (o + suc j)) (λ e. omega (arith, e))

        by_storage : (s : Storage) → is_among (numbers (arrays_from l (suc o) xs)) (count l + (o + suc j)) ≡ false → is_among (numbers (unless (is_local s) (array_item l o y) ++ arrays_from l (suc o) xs)) (count l + (o + suc j)) ≡ false
        by_storage Constant rest = other ((count l + o) == (count l + (o + suc j))) apart_from rest
        by_storage Global rest = other ((count l + o) == (count l + (o + suc j))) apart_from rest
        by_storage Local rest = rest

    pub no_local : (o : ℕ) (x : Object) → slice_get l.program.objects o ≡ Some x → is_local x.storage ≡ true → is_among (numbers (movables_of l)) (count l + o) ≡ false
    no_local o x is local =
        among_append (map (function_item l) (range_with_len 0 (count l))) (arrays_from l 0 l.program.objects) (count l + o) (functions_below 0 (count l) (count l + o) (omega arith))
        ∙ subst (λ n. is_among (numbers (arrays_from l 0 l.program.objects)) (count l + n) ≡ false) (own o) (local_none 0 o l.program.objects x is local)
      where
        own : (n : ℕ) → 0 + n ≡ n
        own n = omega arith
