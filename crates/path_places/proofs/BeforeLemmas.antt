-- Steps before a place and behind it.
use Rattle.std.proofs.Common.{◌≡◌, ℕ, zero, suc, ◌+◌, ◌-◌, ◌≤◌, ◌<◌, arith, refl, sym, subst, List, [], ◌∷◌, length, take, drop, Bool, true, false, cond}
use Rattle.std.specs.Prelude.{nat_lt}
use Rattle.std.proofs.lemmas.Bool.Decides.{nat_tests}
use Rattle.loop_walks.specs.declared.step.Step.{Step}
use Rattle.loop_walks.specs.Walks.{between}
use Rattle.loop_walks.specs.Rows.{NotBefore, AreSteps, Each}
use Rattle.loop_walks.proofs.EachLemmas.{each_map}
use Rattle.path_places.specs.Places.{before}

before_within : (a : ℕ) (ms : List Step) → before a ms ≤ length ms
before_within a [] = omega arith
before_within a (m ∷ ms) = by_test (nat_lt m.at a) (before_within a ms)
  where
    by_test : (t : Bool) → before a ms ≤ length ms → cond t (1 + before a ms) 0 ≤ suc (length ms)
    by_test true h = omega (arith, h)
    by_test false h = omega arith

pub before_up : (a b : ℕ) (ms : List Step) → a ≤ b → before a ms ≤ before b ms
before_up a b [] h = omega arith
before_up a b (m ∷ ms) h = by_test (nat_lt m.at a) refl (nat_lt m.at b) refl (before_up a b ms h)
  where
    by_test : (t : Bool) → nat_lt m.at a ≡ t → (u : Bool) → nat_lt m.at b ≡ u → before a ms ≤ before b ms → cond t (1 + before a ms) 0 ≤ cond u (1 + before b ms) 0
    by_test true t true u r = omega (arith, r)
    by_test true t false u r = absurd (grind (arith, nat_tests))
    by_test false t true u r = omega arith
    by_test false t false u r = omega arith

pub before_length : (a : ℕ) (ms : List Step) → before a ms ≤ length ms
before_length = before_within

pub taken_before : (a : ℕ) (ms : List Step) → Each (λ m. m.at < a) (take (before a ms) ms)
taken_before a [] = by_none (before a [])
  where
    by_none : (k : ℕ) → Each (λ m. m.at < a) (take k [])
    by_none zero = tt
    by_none (suc k) = tt
taken_before a (m ∷ ms) = by_test (nat_lt m.at a) refl (taken_before a ms)
  where
    by_test : (t : Bool) → nat_lt m.at a ≡ t → Each (λ k. k.at < a) (take (before a ms) ms) → Each (λ k. k.at < a) (take (cond t (1 + before a ms) 0) (m ∷ ms))
    by_test true t r = let e : 1 + before a ms ≡ suc (before a ms) = omega arith in subst (λ n. Each (λ k. k.at < a) (take n (m ∷ ms))) (sym e) (grind (arith, nat_tests), r)
    by_test false t r = tt

all_behind : (a n : ℕ) (ms : List Step) → NotBefore a ms → Each (λ m. a ≤ m.at) ms
all_behind a n [] h = tt
all_behind a n (m ∷ ms) h = (h.0, all_behind a n ms h.1)

pub dropped_before : (a n : ℕ) (ms : List Step) → AreSteps n ms → Each (λ m. a ≤ m.at) (drop (before a ms) ms)
dropped_before a n [] s = by_none (before a [])
  where
    by_none : (k : ℕ) → Each (λ m. a ≤ m.at) (drop k [])
    by_none zero = tt
    by_none (suc k) = tt
dropped_before a n (m ∷ ms) s = by_test (nat_lt m.at a) refl (dropped_before a n ms s.2)
  where
    by_test : (t : Bool) → nat_lt m.at a ≡ t → Each (λ k. a ≤ k.at) (drop (before a ms) ms) → Each (λ k. a ≤ k.at) (drop (cond t (1 + before a ms) 0) (m ∷ ms))
    by_test true t r = let e : 1 + before a ms ≡ suc (before a ms) = omega arith in subst (λ n. Each (λ k. a ≤ k.at) (drop n (m ∷ ms))) (sym e) r
    by_test false t r =
        let le : a ≤ m.at = grind (arith, nat_tests) in
        (le, each_map (λ k. m.at ≤ k.at) (λ k. a ≤ k.at) ms (λ k h. omega (arith, h, le)) (all_behind m.at n ms s.1))

-- a part of what is taken
pub between_taken : (P : Step → Type 0) (from to : ℕ) (ms : List Step) → Each P (take to ms) → Each P (between from to ms)
between_taken P zero to ms h = let e : to - 0 ≡ to = omega arith in subst (λ n. Each P (take n ms)) (sym e) h
between_taken P (suc from) zero ms h = let e : 0 - suc from ≡ 0 = omega arith in subst (λ n. Each P (take n (drop (suc from) ms))) (sym e) tt
between_taken P (suc from) (suc to) [] h = none (suc to - suc from)
  where
    none : (k : ℕ) → Each P (take k [])
    none zero = tt
    none (suc k) = tt
between_taken P (suc from) (suc to) (m ∷ ms) h = let e : suc to - suc from ≡ to - from = omega arith in subst (λ n. Each P (take n (drop from ms))) (sym e) (between_taken P from to ms h.1)
