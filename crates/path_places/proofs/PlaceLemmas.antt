-- Places ascend as addresses do, and the steps of a function ascend.
use Rattle.std.proofs.Common.{◌≡◌, ℕ, suc, ◌+◌, ◌≤◌, ◌<◌, arith, refl, List, [], ◌∷◌, length, inl, inr, Bool, true, false, cond}
use Rattle.std.specs.Prelude.{nat_lt, ◌==◌}
use Rattle.std.proofs.lemmas.Bool.Decides.{nat_tests, eqb_tells}
use Rattle.code_flow_system.specs.declared.moves.Move.{Move}
use Rattle.code_flow_system.specs.Systems.{has_moves}
use Rattle.path_places.specs.Places.{place_of}

pub place_up : (ms : List Move) (a b : ℕ) → a ≤ b → place_of ms a ≤ place_of ms b
place_up [] a b h = omega arith
place_up (m ∷ ms) a b h = by_test (nat_lt m.at a) refl (nat_lt m.at b) refl (place_up ms a b h)
  where
    by_test : (t : Bool) → nat_lt m.at a ≡ t → (u : Bool) → nat_lt m.at b ≡ u → place_of ms a ≤ place_of ms b → cond t 1 0 + place_of ms a ≤ cond u 1 0 + place_of ms b
    by_test true t true u r = omega (arith, r)
    by_test true t false u r = absurd (grind (arith, nat_tests))
    by_test false t true u r = omega (arith, r)
    by_test false t false u r = omega (arith, r)

-- an address with moves has a place of its own
pub place_above : (ms : List Move) (a b : ℕ) → has_moves ms a ≡ true → a < b → place_of ms a < place_of ms b
place_above [] a b h k = cc
place_above (m ∷ ms) a b h k = elim (eqb_tells m.at a) [
  | inl e ↦
      let r = place_up ms a b (omega (arith, k)) in
      here e.1 r
  | inr e ↦
      let r = place_above ms a b (later (m.at == a) e.0 h) k in
      there r
]
  where
    later : (t : Bool) → t ≡ false → cond t true (has_moves ms a) ≡ true → has_moves ms a ≡ true
    later true e h = cc
    later false e h = h

    here : m.at ≡ a → place_of ms a ≤ place_of ms b → place_of (m ∷ ms) a < place_of (m ∷ ms) b
    here e r = by_test (nat_lt m.at a) refl (nat_lt m.at b) refl
      where
        by_test : (t : Bool) → nat_lt m.at a ≡ t → (u : Bool) → nat_lt m.at b ≡ u → cond t 1 0 + place_of ms a < cond u 1 0 + place_of ms b
        by_test true t u v = absurd (grind (arith, nat_tests))
        by_test false t true v = omega (arith, r)
        by_test false t false v = absurd (grind (arith, nat_tests))

    there : place_of ms a < place_of ms b → place_of (m ∷ ms) a < place_of (m ∷ ms) b
    there r = by_test (nat_lt m.at a) refl (nat_lt m.at b) refl
      where
        by_test : (t : Bool) → nat_lt m.at a ≡ t → (u : Bool) → nat_lt m.at b ≡ u → cond t 1 0 + place_of ms a < cond u 1 0 + place_of ms b
        by_test true t true v = omega (arith, r)
        by_test true t false v = absurd (grind (arith, nat_tests))
        by_test false t true v = omega (arith, r)
        by_test false t false v = omega (arith, r)

pub place_within : (ms : List Move) (a : ℕ) → place_of ms a ≤ length ms
place_within [] a = omega arith
place_within (m ∷ ms) a = by_test (nat_lt m.at a) (place_within ms a)
  where
    by_test : (t : Bool) → place_of ms a ≤ length ms → cond t 1 0 + place_of ms a ≤ suc (length ms)
    by_test true r = omega (arith, r)
    by_test false r = omega (arith, r)

-- and one that is before the place behind all
pub place_below : (ms : List Move) (a : ℕ) → has_moves ms a ≡ true → place_of ms a < length ms
place_below [] a h = cc
place_below (m ∷ ms) a h = elim (eqb_tells m.at a) [
  | inl e ↦ here e.1 (place_within ms a)
  | inr e ↦ there (nat_lt m.at a) (place_below ms a (later (m.at == a) e.0 h))
]
  where
    later : (t : Bool) → t ≡ false → cond t true (has_moves ms a) ≡ true → has_moves ms a ≡ true
    later true e h = cc
    later false e h = h

    here : m.at ≡ a → place_of ms a ≤ length ms → place_of (m ∷ ms) a < suc (length ms)
    here e r = by_test (nat_lt m.at a) refl
      where
        by_test : (t : Bool) → nat_lt m.at a ≡ t → cond t 1 0 + place_of ms a < suc (length ms)
        by_test true t = absurd (grind (arith, nat_tests))
        by_test false t = omega (arith, r)

    there : (t : Bool) → place_of ms a < length ms → cond t 1 0 + place_of ms a < suc (length ms)
    there true r = omega (arith, r)
    there false r = omega (arith, r)

-- places tell addresses
pub place_tells : (ms : List Move) (a b : ℕ) → has_moves ms b ≡ true → place_of ms a ≤ place_of ms b → a ≤ b
place_tells ms a b h k = by_lt (nat_lt b a) refl
  where
    by_lt : (t : Bool) → nat_lt b a ≡ t → a ≤ b
    by_lt true t = let lt : b < a = grind (arith, nat_tests) in let r = place_above ms b a h lt in absurd (omega (arith, r, k))
    by_lt false t = grind (arith, nat_tests)
