-- What is listed of an array parameter is what calls pass for it.
use Rattle.std.proofs.Common.{◌≡◌, ◌≢◌, ◌⊎◌, ℕ, zero, suc, ◌<◌, ◌≤◌, Bool, true, false, List, [], ◌∷◌, ◌++◌, length, map, replicate, Option, Some, None, refl, sym, ap, ◌∙◌, subst, inl, inr, ⊎_elim, arith, get_or-set_same, get_or-set_other, length-set}
use Rattle.std.specs.Prelude.{◌==◌, if◌then◌else◌, nat_lt, reverse, slice_get, slice_index_or, slice_set}
use Rattle.std.proofs.lemmas.Bool.{cases_eq, cases_lt, ltb-true}
use Rattle.std.proofs.lemmas.Bool.Decides.{nat_tests}
use Rattle.std.proofs.lemmas.List.{get_or_past, length-replicate}
use Rattle.std.proofs.lemmas.Option.{same_Some}
use Rattle.high_ir.specs.declared.object.Base.{Base}
use Rattle.high_ir.specs.declared.object.Base.TheVariants.{Object, Parameter}
use Rattle.high_ir.specs.Formed.{IsHigh}
use Rattle.high_ir.specs.Tree.{Function, Program}
use Rattle.low_ir.specs.Effects.{is_member}
use Rattle.lower_definition.specs.Calls.{Passed, Site, all_passed, at_site, at_sites, by_function, by_functions, meant, none_passed, noted, order, passed_to, sites_of}
use Rattle.lower_origins.specs.Orders.{IsOrdered}
use Rattle.lower_origins.proofs.Members.{member_first, same_test}
use Rattle.lower_origins.proofs.Visits.{ordered}
use Rattle.lower_origins.specs.Closed.{AreCovered, IsCovered, listed, listed_at}
use Rattle.lower_origins.proofs.Growing.{Grows, through}
use Rattle.lower_origins.proofs.Closing.{closed}
use Rattle.lower_origins.specs.Reached.{IsReached}
use Rattle.lower_origins.specs.Passing.{Handed, IsPassed, Itself, ListsPassed, Passes, arrays_taken}
use Rattle.lower_origins.proofs.Reaching.{AllReached, all_reverse, order_reached, reached_listed}

-- a member of a longer list is one of the list, or one of what came to it
member_of_two : (xs ys : List ℕ) (o : ℕ) → is_member (xs ++ ys) o ≡ true → (is_member xs o ≡ true) ⊎ (is_member ys o ≡ true)
member_of_two [] ys o e = inr e
member_of_two (x ∷ xs) ys o e = by_test (x == o) e (λ k. member_of_two xs ys o k)
  where
    by_test : (b : Bool) → (if b then true else is_member (xs ++ ys) o) ≡ true → (is_member (xs ++ ys) o ≡ true → (is_member xs o ≡ true) ⊎ (is_member ys o ≡ true)) → ((if b then true else is_member xs o) ≡ true) ⊎ (is_member ys o ≡ true)
    by_test true k go = inl refl
    by_test false k go = go k

noted_from : (os claim : List ℕ) (o : ℕ) → is_member (noted claim os) o ≡ true → (is_member claim o ≡ true) ⊎ (is_member os o ≡ true)
noted_from [] claim o e = inl e
noted_from (x ∷ os) claim o e =
    ⊎_elim
    (λ (h : is_member (if is_member claim x then claim else claim ++ x ∷ []) o ≡ true). by_claim (is_member claim x) h)
    (λ (h : is_member os o ≡ true). inr (by_test (x == o) h))
    (noted_from os (if is_member claim x then claim else claim ++ x ∷ []) o e)
  where
    by_test : (b : Bool) → is_member os o ≡ true → (if b then true else is_member os o) ≡ true
    by_test true h = refl
    by_test false h = h

    first : is_member (x ∷ []) o ≡ true → is_member (x ∷ os) o ≡ true
    first h = by_first (x == o) h
      where
        by_first : (b : Bool) → (if b then true else false) ≡ true → (if b then true else is_member os o) ≡ true
        by_first true k = refl
        by_first false k = cc

    by_claim : (b : Bool) → is_member (if b then claim else claim ++ x ∷ []) o ≡ true → (is_member claim o ≡ true) ⊎ (is_member (x ∷ os) o ≡ true)
    by_claim true h = inl h
    by_claim false h = ⊎_elim (λ (k : is_member claim o ≡ true). inl k) (λ (k : is_member (x ∷ []) o ≡ true). inr (first k)) (member_of_two claim (x ∷ []) o h)

-- what is listed is listed of a parameter that is there
member_inside : (cs : List (List ℕ)) (j o : ℕ) → is_member (slice_index_or cs j []) o ≡ true → j < length cs
member_inside [] j o e = cc
member_inside (c ∷ cs) zero o e = omega arith
member_inside (c ∷ cs) (suc j) o e = let h = member_inside cs j o e in omega (arith, h)

-- what a call added for a parameter
record Added (objects : ℕ) (own : List (List ℕ)) (bs : List Base) (j o : ℕ) : Type 0 where
  base : Base
  array : slice_get bs j ≡ Some base
  member : is_member (meant objects own base) o ≡ true

module _ (objects : ℕ) (own : List (List ℕ)) where
  passed_from : (bs : List Base) (cs : List (List ℕ)) (j o : ℕ) → is_member (slice_index_or (passed_to objects own bs cs) j []) o ≡ true → (is_member (slice_index_or cs j []) o ≡ true) ⊎ Added objects own bs j o
  passed_from [] cs j o e = inl e
  passed_from (b ∷ bs) [] j o e = cc
  passed_from (b ∷ bs) (c ∷ cs) zero o e =
      ⊎_elim (λ (h : is_member c o ≡ true). inl h) (λ (h : is_member (meant objects own b) o ≡ true). inr (record { base = b; array = refl; member = h })) (noted_from (meant objects own b) c o e)
  passed_from (b ∷ bs) (c ∷ cs) (suc j) o e =
      ⊎_elim (λ (h : is_member (slice_index_or cs j []) o ≡ true). inl h) (λ (h : Added objects own bs j o). inr (record { base = h.base; array = h.array; member = h.member })) (passed_from bs cs j o e)

module _ (p : Program) where
  abbrev objects : ℕ
  objects = length p.objects

  -- a table with no more than what is passed
  record IsSound (t : Passed) : Type 0 where
    sizes : (f : ℕ) → length (listed t f) ≡ arrays_taken p f
    passed : (f j o : ℕ) → is_member (listed_at t f j) o ≡ true → IsPassed p f j o

  -- a call in function g, which is reached
  record IsSite (g : ℕ) (s : Site) : Type 0 where
    reached : IsReached p g
    caller : Function
    there : slice_get p.functions g ≡ Some caller
    number : ℕ
    stands : slice_get (sites_of caller.body) number ≡ Some s

  added_passed : (g : ℕ) (own : List (List ℕ)) (s : Site) (j o : ℕ) (b : Base) → ((i : ℕ) → is_member (slice_index_or own i []) o ≡ true → IsPassed p g i o) → Passes p g s.function j b → is_member (meant objects own b) o ≡ true → IsPassed p s.function j o
  added_passed g own s j o (Object n) sound passes m = by_test (nat_lt n objects) refl m
    where
      by_test : (b : Bool) → nat_lt n objects ≡ b → is_member (if b then n ∷ [] else []) o ≡ true → IsPassed p s.function j o
      by_test false t k = cc
      by_test true t k = by_same (n == o) refl k
        where
          by_same : (b : Bool) → (n == o) ≡ b → (if b then true else false) ≡ true → IsPassed p s.function j o
          by_same false u l = cc
          by_same true u l = subst (IsPassed p s.function j) (same_test n o u) (Itself g s.function j n (ltb-true n objects t) passes)
  added_passed g own s j o (Parameter i) sound passes m = Handed g s.function j i o passes (sound i m)

  site_sound : (g : ℕ) (own : List (List ℕ)) (s : Site) (t : Passed) → IsSite g s → ((i o : ℕ) → is_member (slice_index_or own i []) o ≡ true → IsPassed p g i o) → IsSound t → IsSound (at_site objects own t s)
  site_sound g own s t site sound h = record { sizes = λ f. (grows.sizes f ∙ h.sizes f); passed = λ f j o m. by_function f j o m }
    where
      new : List (List ℕ)
      new = passed_to objects own s.arrays (listed t s.function)

      grows : Grows t (at_site objects own t s)
      grows = let a = through objects own t (s ∷ []) in a.grows

      at_callee : (j o : ℕ) → s.function < length t → is_member (slice_index_or new j []) o ≡ true → IsPassed p s.function j o
      at_callee j o inside m =
          ⊎_elim
          (λ (k : is_member (listed_at t s.function j) o ≡ true). h.passed s.function j o k)
          (λ (k : Added objects own s.arrays j o).
          let low = member_inside new j o m in
          let size = grows.sizes s.function ∙ h.sizes s.function in
          let set : listed (slice_set t s.function new) s.function ≡ new = get_or-set_same t s.function new [] inside in
          let same = ap length set in
          added_passed g own s j o k.base (λ i e. sound i o e)
          (record { reached = site.reached; caller = site.caller; there = site.there; number = site.number; site = s; stands = site.stands; calls = refl; array = k.array; taken = omega (arith, low, size, same) })
          k.member)
          (passed_from objects own s.arrays (listed t s.function) j o m)

      by_function : (f j o : ℕ) → is_member (listed_at (at_site objects own t s) f j) o ≡ true → IsPassed p f j o
      by_function f j o m =
          ⊎_elim
          (λ (same : f ≡ s.function). ⊎_elim
          (λ (inside : s.function < length t).
          let set : listed (slice_set t s.function new) f ≡ new = ap (listed (slice_set t s.function new)) same ∙ get_or-set_same t s.function new [] inside in
          subst (λ n. IsPassed p n j o) (sym same) (at_callee j o inside (subst (λ l. is_member (slice_index_or l j []) o ≡ true) set m)))
          (λ (past : length t ≤ s.function).
          let size = length-set t s.function new in
          let nothing : listed (slice_set t s.function new) f ≡ [] = get_or_past (slice_set t s.function new) f [] (omega (arith, same, past, size)) in
          let none : is_member (slice_index_or [] j []) o ≡ true = subst (λ l. is_member (slice_index_or l j []) o ≡ true) nothing m in
          no_member j o none f)
          (cases_lt s.function (length t)))
          (λ (other : f ≢ s.function). h.passed f j o (subst (λ l. is_member (slice_index_or l j []) o ≡ true) (get_or-set_other t s.function f new [] other) m))
          (cases_eq f s.function)
        where
          no_member : (j o : ℕ) → is_member (slice_index_or [] j []) o ≡ true → (f : ℕ) → IsPassed p f j o
          no_member j o e f = cc

  sites_sound : (g : ℕ) (own : List (List ℕ)) (ss : List Site) (t : Passed) → ((n : ℕ) (s : Site) → slice_get ss n ≡ Some s → IsSite g s) → ((i o : ℕ) → is_member (slice_index_or own i []) o ≡ true → IsPassed p g i o) → IsSound t → IsSound (at_sites objects own t ss)
  sites_sound g own [] t sites sound h = h
  sites_sound g own (s ∷ ss) t sites sound h = sites_sound g own ss (at_site objects own t s) (λ n x e. sites (suc n) x e) sound (site_sound g own s t (sites 0 s refl) sound h)

  function_sound : (g : ℕ) (o : Option Function) (t : Passed) → slice_get p.functions g ≡ o → IsReached p g → IsSound t → IsSound (by_function objects g o t)
  function_sound g None t e r h = h
  function_sound g (Some k) t e r h = sites_sound g (listed t g) (sites_of k.body) t (λ n s at. record { reached = r; caller = k; there = e; number = n; stands = at }) (λ i o m. h.passed g i o m) h

  functions_sound : (gs : List ℕ) (t : Passed) → AllReached p gs → IsSound t → IsSound (by_functions objects p.functions gs t)
  functions_sound [] t r h = h
  functions_sound (g ∷ gs) t r h = functions_sound gs (by_function objects g (slice_get p.functions g) t) r.1 (function_sound g (slice_get p.functions g) t refl r.0 h)

  -- nothing is passed at first
  none_taken : (fs : List Function) (f : ℕ) → length (listed (none_passed fs) f) ≡ slice_index_or (map (λ (h : Function). h.arrays) fs) f 0
  none_taken [] f = refl
  none_taken (h ∷ fs) zero = length-replicate {A = List ℕ} h.arrays []
  none_taken (h ∷ fs) (suc f) = none_taken fs f

  empty_lists : (n j o : ℕ) → is_member (slice_index_or (replicate n []) j []) o ≡ true → ⊥
  empty_lists zero j o e = cc
  empty_lists (suc n) zero o e = cc
  empty_lists (suc n) (suc j) o e = empty_lists n j o e

  none_listed : (fs : List Function) (f j o : ℕ) → is_member (listed_at (none_passed fs) f j) o ≡ true → ⊥
  none_listed [] f j o e = cc
  none_listed (h ∷ fs) zero j o e = empty_lists h.arrays j o e
  none_listed (h ∷ fs) (suc f) j o e = none_listed fs f j o e

  sound : IsSound (all_passed p)
  sound =
      functions_sound (reverse (order p)) (none_passed p.functions) (all_reverse p (order p) (order_reached p))
      (record { sizes = none_taken p.functions; passed = λ f j o e. absurd (none_listed p.functions f j o e) })

  covered_at : (own : List (List ℕ)) (t : Passed) (ss : List Site) (n : ℕ) (s : Site) → slice_get ss n ≡ Some s → AreCovered objects own t ss → IsCovered objects own t s
  covered_at own t [] n s e h = cc
  covered_at own t (x ∷ ss) zero s e h = subst (IsCovered objects own t) (same_Some x s e) h.0
  covered_at own t (x ∷ ss) (suc n) s e h = covered_at own t ss n s e h.1

  module _ (is : IsOrdered p) where
    -- what a call passes is listed
    passes_listed : (g f j o : ℕ) (b : Base) → Passes p g f j b → is_member (meant objects (listed (all_passed p) g) b) o ≡ true → is_member (listed_at (all_passed p) f j) o ≡ true
    passes_listed g f j o b h m =
        let t = all_passed p in
        let all = closed p is g h.caller (reached_listed p is g h.reached) h.there in
        let covered = covered_at (listed t g) t (sites_of h.caller.body) h.number h.site h.stands all in
        let taken = h.taken in
        let size = sound.sizes f in
        let same : length (listed t h.site.function) ≡ length (listed t f) = ap (λ n. length (listed t n)) h.calls in
        subst (λ n. is_member (listed_at t n j) o ≡ true) h.calls (covered j b o h.array (omega (arith, taken, size, same)) m)

    is_listed : (f j o : ℕ) → IsPassed p f j o → is_member (listed_at (all_passed p) f j) o ≡ true
    is_listed f j o (Itself g f2 j2 o2 there passes) =
        let test : nat_lt o2 objects ≡ true = grind (arith, nat_tests, there) in
        passes_listed g f2 j2 o2 (Object o2) passes (ap (λ b. is_member (if b then o2 ∷ [] else []) o2) test ∙ member_first o2 [])
    is_listed f j o (Handed g f2 j2 i o2 passes before) = passes_listed g f2 j2 o2 (Parameter i) passes (is_listed g i o2 before)

pub lists_passed : (p : Program) → IsHigh p → ListsPassed p
lists_passed p high = let s = sound p in record { passed = s.passed; listed = is_listed p (ordered p high) }
