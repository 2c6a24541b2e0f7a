-- Lists in which no number stands twice.
use Rattle.std.proofs.Common.{◌≡◌, ℕ, suc, Bool, true, false, List, [], ◌∷◌, Some, refl, sym, ap, ◌∙◌, arith, nat_eq, All}
use Rattle.std.specs.Prelude.{◌==◌, ◌||◌, if◌then◌else◌, slice_get, slice_index_or}
use Rattle.std.proofs.lemmas.Bool.{false≢true}
use Rattle.std.proofs.lemmas.Bool.Decides.{nat_tests}
use Rattle.std.proofs.lemmas.List.Elements.{All-head, All-tail}
use Rattle.facts_definitions.specs.FlowFacts.{is_among, is_twice}
use Rattle.low_ir.specs.Effects.{is_member}
use Rattle.lower_origins.proofs.Members.{same_test}
use Rattle.lower_budget.proofs.Distinct.{Distinct}

-- by the places of numbers

found : (xs : List ℕ) (n : ℕ) → is_member xs n ≡ true → (i : ℕ) × (slice_get xs i ≡ Some n)
found [] n h = absurd (false≢true h)
found (x ∷ xs) n h = by_test (x == n) refl h (found xs n)
  where
    by_test : (b : Bool) → (x == n) ≡ b → (if b then true else is_member xs n) ≡ true → (is_member xs n ≡ true → (i : ℕ) × (slice_get xs i ≡ Some n)) → (i : ℕ) × (slice_get (x ∷ xs) i ≡ Some n)
    by_test true e h go = (0, ap Some (same_test x n e))
    by_test false e h go = let r = go h in (suc r.0, r.1)

abbrev pub AreApart : List ℕ → Type 0
AreApart ns = (i j n : ℕ) → slice_get ns i ≡ Some n → slice_get ns j ≡ Some n → i ≡ j

pub apart_distinct : (ns : List ℕ) → AreApart ns → Distinct ns
apart_distinct [] h = tt
apart_distinct (x ∷ xs) h = (
  no_member (is_member xs x) (λ m. let f = found xs x m in first f.0 (h 0 (suc f.0) x refl f.1)),
  apart_distinct xs (λ i j n e f. later i j (h (suc i) (suc j) n e f)),
)
  where
    no_member : (b : Bool) → (b ≡ true → ⊥) → b ≡ false
    no_member true h = absurd (h refl)
    no_member false h = refl

    first : (i : ℕ) → 0 ≡ suc i → ⊥
    first i e = omega (arith, e)

    later : (i j : ℕ) → suc i ≡ suc j → i ≡ j
    later i j e = omega (arith, e)

-- by counting

neither : (a b : Bool) → (a || b) ≡ false → (a ≡ false) × (b ≡ false)
neither true b h = cc
neither false b h = (refl, h)

other : (n m : ℕ) → nat_eq n m ≡ false → (m == n) ≡ false
other n m h = grind (arith, nat_tests)

not_among : (n : ℕ) (ns : List ℕ) → is_among n ns ≡ false → is_member ns n ≡ false
not_among n [] h = refl
not_among n (m ∷ ns) h =
    let parts = neither (nat_eq n m) (is_among n ns) h in
    ap (λ b. if b then true else is_member ns n) (other n m parts.0) ∙ not_among n ns parts.1

not_twice : (n : ℕ) (ns : List ℕ) → is_among n ns ≡ false → is_twice n ns ≡ false
not_twice n [] h = refl
not_twice n (m ∷ ns) h =
    let parts = neither (nat_eq n m) (is_among n ns) h in
    ap (λ b. if b then is_among n ns else is_twice n ns) parts.0 ∙ not_twice n ns parts.1

once_behind : (n x : ℕ) (xs : List ℕ) → is_twice n (x ∷ xs) ≡ false → is_twice n xs ≡ false
once_behind n x xs h = by_test (nat_eq n x) h
  where
    by_test : (b : Bool) → (if b then is_among n xs else is_twice n xs) ≡ false → is_twice n xs ≡ false
    by_test true h = not_twice n xs h
    by_test false h = h

pub once_distinct : (ns : List ℕ) → All (λ n. is_twice n ns ≡ false) ns → Distinct ns
once_distinct [] h = tt
once_distinct (x ∷ xs) h = (
  not_among x xs (sym (ap (λ b. if b then is_among x xs else is_twice x xs) (same x)) ∙ All-head (λ n. is_twice n (x ∷ xs) ≡ false) x xs h),
  once_distinct xs (λ k d lt. once_behind (slice_index_or xs k d) x xs (All-tail (λ n. is_twice n (x ∷ xs) ≡ false) x xs h k d lt)),
)
  where
    same : (n : ℕ) → nat_eq n n ≡ true
    same n = grind (arith, nat_tests)
