-- What stands at one address in an ascending list is what two searches enclose.
use Rattle.std.proofs.Common.{◌≡◌, ◌≢◌, ℕ, zero, suc, ◌+◌, ◌-◌, ◌<◌, ◌≤◌, ltb, leb, inl, inr, arith, refl, sym, ap, ◌∙◌, subst, List, [], ◌∷◌, ◌++◌, take, drop, length, All, Bool, true, false, ◌⊎◌}
use Rattle.std.specs.Prelude.{◌==◌, if◌then◌else◌}
use Rattle.std.specs.List.Sorted.{IsNonDecreasingBy, IsPartitionPoint}
use Rattle.std.proofs.lemmas.Bool.Decides.{nat_tests}
use Rattle.std.proofs.lemmas.List.{append-nil, take-append-drop, length-take-le, length-drop, get_or-take, get_or-drop}
use Rattle.std.proofs.lemmas.List.Elements.{All-head, All-tail, All-weaker}
use Rattle.frac128.specs.Terms.{Terms}
use Rattle.code_flow_system.specs.declared.moves.Move.{Move}
use Rattle.code_flow_system.specs.declared.cert.Part.{Part}
use Rattle.code_flow_system.specs.Systems.{ComesBefore, AreAscending}
use Rattle.code_flow_system.specs.Certificates.{AddressesAscend, PartsAscend}
use Rattle.code_flow_lookup.specs.Runs.{those_at}

pub same_test : (a b : ℕ) → a ≡ b → (a == b) ≡ true
same_test a b e = grind (arith, nat_tests)

pub other_test : (a b : ℕ) → a ≢ b → (a == b) ≡ false
other_test a b e = grind (arith, nat_tests)

not_below : (a b : ℕ) → ltb a b ≡ false → b ≤ a
not_below a b h = grind (arith, nat_tests)

below : (a b : ℕ) → ltb a b ≡ true → a < b
below a b h = grind (arith, nat_tests)

at_most : (a b : ℕ) → leb a b ≡ true → a ≤ b
at_most a b h = grind (arith, nat_tests)

above : (a b : ℕ) → leb a b ≡ false → b < a
above a b h = grind (arith, nat_tests)

module _ {X : Type 0} (key : X → ℕ) where
  pub those-append : (a : ℕ) (xs ys : List X) → those_at key a (xs ++ ys) ≡ those_at key a xs ++ those_at key a ys
  those-append a [] ys = refl
  those-append a (x ∷ xs) ys = by_test (key x == a) (those-append a xs ys)
    where
      by_test : (b : Bool) → those_at key a (xs ++ ys) ≡ those_at key a xs ++ those_at key a ys →
          (if b then x ∷ those_at key a (xs ++ ys) else those_at key a (xs ++ ys)) ≡ (if b then x ∷ those_at key a xs else those_at key a xs) ++ those_at key a ys
      by_test true e = ap (λ zs. x ∷ zs) e
      by_test false e = e

  pub those-none : (a : ℕ) (xs : List X) → All (λ x. key x ≢ a) xs → those_at key a xs ≡ []
  those-none a [] h = refl
  those-none a (x ∷ xs) h =
      ap (λ (b : Bool). if b then x ∷ those_at key a xs else those_at key a xs) (other_test (key x) a (All-head (λ x. key x ≢ a) x xs h))
      ∙ those-none a xs (All-tail (λ x. key x ≢ a) x xs h)

  pub those-all : (a : ℕ) (xs : List X) → All (λ x. key x ≡ a) xs → those_at key a xs ≡ xs
  those-all a [] h = refl
  those-all a (x ∷ xs) h =
      ap (λ (b : Bool). if b then x ∷ those_at key a xs else those_at key a xs) (same_test (key x) a (All-head (λ x. key x ≡ a) x xs h))
      ∙ ap (λ zs. x ∷ zs) (those-all a xs (All-tail (λ x. key x ≡ a) x xs h))

  -- the first part is below, and the rest is not
  pub enclosed : (a : ℕ) (xs : List X) (i n : ℕ) → i ≤ length xs → n ≤ length (drop i xs)
      → IsPartitionPoint (λ y. ltb (key y) a ≡ true) (λ y. ltb (key y) a ≡ false) xs i
      → IsPartitionPoint (λ y. leb (key y) a ≡ true) (λ y. leb (key y) a ≡ false) (drop i xs) n
      → take n (drop i xs) ≡ those_at key a xs
  enclosed a xs i n le most p q =
      let front : All (λ x. key x ≢ a) (take i xs) = λ k d lt.
      let e = length-take-le i xs le in
      let f = ap key (get_or-take i xs k d (omega arith)) in
      let g = below _ _ (p.0 k d (omega arith) (omega arith)) in λ same. omega arith in
      let middle : All (λ x. key x ≡ a) (take n (drop i xs)) = λ k d lt.
      let e = length-take-le n (drop i xs) most in
      let l = length-drop i xs in
      let f = ap key (get_or-take n (drop i xs) k d (omega arith)) in
      let h = ap key (get_or-drop i xs k d) in
      let g = at_most _ _ (q.0 k d (omega arith) (omega arith)) in
      let u = not_below _ _ (p.1 (i + k) d (omega arith) (omega arith)) in omega arith in
      let back : All (λ x. key x ≢ a) (drop n (drop i xs)) = λ k d lt.
      let e = length-drop n (drop i xs) in
      let f = ap key (get_or-drop n (drop i xs) k d) in
      let g = above _ _ (q.1 (n + k) d (omega arith) (omega arith)) in λ same. omega arith in
      let cut = take-append-drop i xs in
      let again = take-append-drop n (drop i xs) in
      sym (
      ap (those_at key a) (sym cut)
      ∙ those-append a (take i xs) (drop i xs)
      ∙ ap (λ zs. zs ++ those_at key a (drop i xs)) (those-none a (take i xs) front)
      ∙ ap (those_at key a) (sym again)
      ∙ those-append a (take n (drop i xs)) (drop n (drop i xs))
      ∙ ap (λ zs. those_at key a (take n (drop i xs)) ++ zs) (those-none a (drop n (drop i xs)) back)
      ∙ append-nil _
      ∙ those-all a (take n (drop i xs)) middle
      )

-- orders by recursion, as orders by index

-- keys don't fall along the list
abbrev pub Rises : {X : Type 0} → (X → ℕ) → List X → Type 0
Rises n [] = Unit {0}
Rises n (x ∷ xs) = All (λ y. n x ≤ n y) xs × Rises n xs

pub non_decreasing : {X : Type 0} (n : X → ℕ) (xs : List X) → Rises n xs → IsNonDecreasingBy n xs
non_decreasing n [] h i j d le lt = absurd (omega arith)
non_decreasing n (x ∷ xs) h zero zero d le lt = omega arith
non_decreasing n (x ∷ xs) h zero (suc j) d le lt = h.0 j d (omega arith)
non_decreasing n (x ∷ xs) h (suc i) zero d le lt = absurd (omega arith)
non_decreasing n (x ∷ xs) h (suc i) (suc j) d le lt = non_decreasing n xs h.1 i j d (omega arith) (omega arith)

pub tail_rises : {X : Type 0} (n : X → ℕ) (xs : List X) (i : ℕ) → IsNonDecreasingBy n xs → IsNonDecreasingBy n (drop i xs)
tail_rises n xs i h j k d le lt =
    let l = length-drop i xs in
    let e = ap n (get_or-drop i xs j d) in
    let f = ap n (get_or-drop i xs k d) in
    let g = h (i + j) (i + k) d (omega arith) (omega arith) in omega arith

moves_rise : (ms : List Move) → AreAscending ms → Rises (λ m. m.at) ms
moves_rise [] h = tt
moves_rise (m ∷ ms) h = (All-weaker (ComesBefore m) (λ k. m.at ≤ k.at) (λ k c. elim c [ inl a ↦ omega arith | inr b ↦ omega (arith, b.0) ]) ms h.0, moves_rise ms h.1)

pub moves_ascend : (ms : List Move) → AreAscending ms → IsNonDecreasingBy (λ m. m.at) ms
moves_ascend ms h = non_decreasing (λ m. m.at) ms (moves_rise ms h)

terms_rise : (ts : Terms) → AddressesAscend ts → Rises (λ t. t.0) ts
terms_rise [] h = tt
terms_rise (t ∷ ts) h = (All-weaker (λ u. t.0 < u.0) (λ u. t.0 ≤ u.0) (λ u c. omega arith) ts h.0, terms_rise ts h.1)

pub terms_ascend : (ts : Terms) → AddressesAscend ts → IsNonDecreasingBy (λ t. t.0) ts
terms_ascend ts h = non_decreasing (λ t. t.0) ts (terms_rise ts h)

parts_rise : (ps : List Part) → PartsAscend ps → Rises (λ p. p.at) ps
parts_rise [] h = tt
parts_rise (p ∷ ps) h = (All-weaker (λ q. (p.at < q.at) ⊎ ((p.at ≡ q.at) × (p.number < q.number))) (λ q. p.at ≤ q.at) (λ q c. elim c [ inl a ↦ omega arith | inr b ↦ omega (arith, b.0) ]) ps h.0, parts_rise ps h.1)

pub parts_ascend : (ps : List Part) → PartsAscend ps → IsNonDecreasingBy (λ p. p.at) ps
parts_ascend ps h = non_decreasing (λ p. p.at) ps (parts_rise ps h)

-- the rest of a list as the code takes it

take_all : {X : Type 0} (xs : List X) → take (length xs) xs ≡ xs
take_all [] = refl
take_all (x ∷ xs) = ap (λ ys. x ∷ ys) (take_all xs)

pub rest_is : {X : Type 0} (i : ℕ) (xs : List X) → take (length xs - i) (drop i xs) ≡ drop i xs
rest_is i xs = ap (λ n. take n (drop i xs)) (sym (length-drop i xs)) ∙ take_all (drop i xs)

pub rest_rises : {X : Type 0} (n : X → ℕ) (xs : List X) (i : ℕ) → IsNonDecreasingBy n xs → IsNonDecreasingBy n (take (length xs - i) (drop i xs))
rest_rises n xs i h = subst (IsNonDecreasingBy n) (sym (rest_is i xs)) (tail_rises n xs i h)

pub found : {X : Type 0} (key : X → ℕ) (a : ℕ) (xs : List X) (i n : ℕ) → i ≤ length xs → n ≤ length (take (length xs - i) (drop i xs))
    → IsPartitionPoint (λ y. ltb (key y) a ≡ true) (λ y. ltb (key y) a ≡ false) xs i
    → IsPartitionPoint (λ y. leb (key y) a ≡ true) (λ y. leb (key y) a ≡ false) (take (length xs - i) (drop i xs)) n
    → take n (take (length xs - i) (drop i xs)) ≡ those_at key a xs
found key a xs i n le most p q =
    let e = rest_is i xs in
    ap (take n) e ∙ enclosed key a xs i n le (subst (λ ys. n ≤ length ys) e most) p (subst (λ ys. IsPartitionPoint (λ y. leb (key y) a ≡ true) (λ y. leb (key y) a ≡ false) ys n) e q)
