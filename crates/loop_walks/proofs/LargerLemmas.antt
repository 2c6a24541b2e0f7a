-- The larger of two numbers, the greater of two ways, and worths that are beneath a worth or a way.
use Rattle.std.proofs.Common.{ℤ, ◌+ℤ◌, ◌≤ℤ◌, arith, Bool, true, false, cond, Option, Some, None, inl, inr, ◌⊎◌}
use Rattle.std.specs.Int.RustNames.{int_le}
use Rattle.std.proofs.lemmas.Int.{ints}
use Rattle.std.proofs.lemmas.Bool.Decides.{nat_tests}
use Rattle.loop_walks.specs.Walks.{larger}
use Rattle.loop_walks.specs.Turns.{greater, further}

pub larger_left : (a b : ℤ) → a ≤ℤ larger a b
larger_left a b = grind (arith, ints, nat_tests)

pub larger_right : (a b : ℤ) → b ≤ℤ larger a b
larger_right a b = grind (arith, ints, nat_tests)

pub larger_least : (a b c : ℤ) → a ≤ℤ c → b ≤ℤ c → larger a b ≤ℤ c
larger_least a b c h k = by_test (int_le a b)
  where
    by_test : (t : Bool) → cond t b a ≤ℤ c
    by_test true = k
    by_test false = h

-- one way is worth no more than another

abbrev pub WayAtMost : Option ℤ → Option ℤ → Type 0
WayAtMost None o = Unit {0}
WayAtMost (Some x) None = ⊥
WayAtMost (Some x) (Some y) = x ≤ℤ y

pub way_same : (o : Option ℤ) → WayAtMost o o
way_same None = tt
way_same (Some x) = omega (arith, ints)

pub way_then : (o p q : Option ℤ) → WayAtMost o p → WayAtMost p q → WayAtMost o q
way_then None p q h k = tt
way_then (Some x) None q h k = absurd h
way_then (Some x) (Some y) None h k = absurd k
way_then (Some x) (Some y) (Some z) h k = omega (arith, ints)

pub greater_left : (o p : Option ℤ) → WayAtMost o (greater o p)
greater_left None p = tt
greater_left (Some x) None = omega (arith, ints)
greater_left (Some x) (Some y) = larger_left x y

pub greater_right : (o p : Option ℤ) → WayAtMost p (greater o p)
greater_right None p = way_same p
greater_right (Some x) None = tt
greater_right (Some x) (Some y) = larger_right x y

-- no more than a, or than the way and what is still to come behind it

abbrev pub Beneath : ℤ → ℤ → Option ℤ → ℤ → Type 0
Beneath c a None v = c ≤ℤ a
Beneath c a (Some t) v = (c ≤ℤ a) ⊎ (c ≤ℤ (t +ℤ v))

pub beneath_left : (c a : ℤ) (o : Option ℤ) (v : ℤ) → c ≤ℤ a → Beneath c a o v
beneath_left c a None v h = h
beneath_left c a (Some t) v h = inl h

pub beneath_larger : (x y a : ℤ) (o : Option ℤ) (v : ℤ) → Beneath x a o v → Beneath y a o v → Beneath (larger x y) a o v
beneath_larger x y a o v h k = by_test (int_le x y)
  where
    by_test : (t : Bool) → Beneath (cond t y x) a o v
    by_test true = k
    by_test false = h

pub beneath_step : (low c x e e' : ℤ) (o o' : Option ℤ) (v : ℤ) → Beneath x e o v → (c +ℤ e) ≤ℤ e' → WayAtMost (further low c o) o' → Beneath (c +ℤ x) e' o' v
beneath_step low c x e e' None o' v h k w = beneath_left (c +ℤ x) e' o' v (omega (arith, ints))
beneath_step low c x e e' (Some t) None v h k w = absurd w
beneath_step low c x e e' (Some t) (Some t') v h k w =
    let r = larger_right low (c +ℤ t) in
    elim h [ inl i ↦ inl (omega (arith, ints)) | inr i ↦ inr (omega (arith, ints)) ]
