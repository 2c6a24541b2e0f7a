-- Members of lists, and their first places.
use Rattle.std.proofs.Common.{◌≡◌, ℕ, suc, ◌<◌, Bool, true, false, List, [], ◌∷◌, ◌++◌, length, refl, ap, ◌∙◌, arith}
use Rattle.std.specs.Prelude.{◌==◌, if◌then◌else◌}
use Rattle.std.proofs.lemmas.Bool.Decides.{nat_tests}
use Rattle.low_ir.specs.Effects.{is_member}
use Rattle.lower_definition.specs.Calls.{place_in}

pub same_test : (a b : ℕ) → (a == b) ≡ true → a ≡ b
same_test a b t = grind (arith, nat_tests, t)

pub test_same : (a : ℕ) → (a == a) ≡ true
test_same a = grind (arith, nat_tests)

-- members of a list that grows at its end
pub member_front : (xs ys : List ℕ) (g : ℕ) → is_member xs g ≡ true → is_member (xs ++ ys) g ≡ true
member_front [] ys g e = cc
member_front (x ∷ xs) ys g e = by_test (x == g) e (λ f. member_front xs ys g f)
  where
    by_test : (b : Bool) → (if b then true else is_member xs g) ≡ true → (is_member xs g ≡ true → is_member (xs ++ ys) g ≡ true) → (if b then true else is_member (xs ++ ys) g) ≡ true
    by_test true e go = refl
    by_test false e go = go e

pub member_back : (xs ys : List ℕ) (g : ℕ) → is_member ys g ≡ true → is_member (xs ++ ys) g ≡ true
member_back [] ys g e = e
member_back (x ∷ xs) ys g e = by_test (x == g) (member_back xs ys g e)
  where
    by_test : (b : Bool) → is_member (xs ++ ys) g ≡ true → (if b then true else is_member (xs ++ ys) g) ≡ true
    by_test true h = refl
    by_test false h = h

pub member_first : (g : ℕ) (xs : List ℕ) → is_member (g ∷ xs) g ≡ true
member_first g xs = ap (λ b. if b then true else is_member xs g) (test_same g)

-- the first place of a member
pub record Splits (xs : List ℕ) (f : ℕ) : Type 0 where
  pub before : List ℕ
  pub behind : List ℕ
  pub is : xs ≡ before ++ f ∷ behind
  pub place : place_in xs f ≡ length before

pub splits : (xs : List ℕ) (f : ℕ) → is_member xs f ≡ true → Splits xs f
splits [] f e = cc
splits (x ∷ xs) f e = by_test (x == f) refl e (λ g. splits xs f g)
  where
    by_test : (b : Bool) → (x == f) ≡ b → (if b then true else is_member xs f) ≡ true → (is_member xs f ≡ true → Splits xs f) → Splits (x ∷ xs) f
    by_test true t e go = record {
      before = [];
      behind = xs;
      is = ap (λ y. y ∷ xs) (same_test x f t);
      place = ap (λ b. if b then 0 else suc (place_in xs f)) t;
    }
    by_test false t e go =
        let s = go e in
        record {
          before = x ∷ s.before;
          behind = s.behind;
          is = ap (λ ys. x ∷ ys) s.is;
          place = ap (λ b. if b then 0 else suc (place_in xs f)) t ∙ ap suc s.place;
        }

-- what stands before has a lower place
pub place_front : (xs ys : List ℕ) (g : ℕ) → is_member xs g ≡ true → place_in (xs ++ ys) g < length xs
place_front [] ys g e = cc
place_front (x ∷ xs) ys g e = by_test (x == g) e (λ f. place_front xs ys g f)
  where
    by_test : (b : Bool) → (if b then true else is_member xs g) ≡ true → (is_member xs g ≡ true → place_in (xs ++ ys) g < length xs) → (if b then 0 else suc (place_in (xs ++ ys) g)) < length (x ∷ xs)
    by_test true e go = omega arith
    by_test false e go = let h = go e in omega (arith, h)

pub member_more : (x : ℕ) (xs : List ℕ) (g : ℕ) → is_member xs g ≡ true → is_member (x ∷ xs) g ≡ true
member_more x xs g e = by_test (x == g)
  where
    by_test : (b : Bool) → (if b then true else is_member xs g) ≡ true
    by_test true = refl
    by_test false = e
