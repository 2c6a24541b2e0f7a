-- The least address of bad elements of an ascending list is that of the first.
use Rattle.std.proofs.Common.{◌≡◌, ℕ, ◌≤◌, ◌<◌, arith, refl, sym, ap, ◌∙◌, subst, List, length, get_or, take, Contains, All, Bool, true, false, Option, Some, None, ◌⊎◌, inl, inr}
use Rattle.std.specs.Prelude.{min}
use Rattle.std.specs.List.Sorted.{IsNonDecreasingBy}
use Rattle.std.proofs.lemmas.List.{get_or_default, get_or-take, length-take, length-take-le}
use Rattle.std.proofs.lemmas.List.Elements.{All-contains}
use Rattle.code_flow_system.specs.Reach.{IsLeast}
use Rattle.dual_check.specs.Leasts.{IsLeastOf, IsAtBad, lesser}

true_or_false : (b : Bool) → b ≡ true → b ≡ false → ⊥
true_or_false b e f = let g : true ≡ false = sym e ∙ f in cc

module _ {X : Type 0} (key : X → ℕ) (bad : X → Bool) where
  pub none_bad : (xs : List X) → All (λ x. bad x ≡ false) xs → IsLeastOf (IsAtBad key bad xs) None
  none_bad xs all k (x, among, at, is) = true_or_false (bad x) is (All-contains (λ x. bad x ≡ false) xs x all among)

  pub none_left : (xs : List X) (i : ℕ) → length xs ≤ i → All (λ x. bad x ≡ false) (take i xs) → IsLeastOf (IsAtBad key bad xs) None
  none_left xs i le all = none_bad xs (λ k d lt.
      let long = length-take i xs in
      subst (λ y. bad y ≡ false) (get_or-take i xs k d (omega arith)) (all k d (omega arith)))

  pub first_bad : (xs : List X) (i : ℕ) (d : X) → IsNonDecreasingBy key xs → i < length xs → All (λ x. bad x ≡ false) (take i xs) → bad (get_or xs i d) ≡ true → IsLeast (IsAtBad key bad xs) (key (get_or xs i d))
  first_bad xs i d up lt all is = record {
    holds = (get_or xs i d, (i, lt, get_or_default xs i (get_or xs i d) d lt), refl, is);
    before = λ k less at. by_order k less at.0 at.1 at.2 at.3 (order at.1.0 i);
  }
    where
      order : (m n : ℕ) → (m < n) ⊎ (n ≤ m)
      order m n = grind arith

      by_order : (k : ℕ) → k < key (get_or xs i d) → (x : X) → (among : Contains xs x) → key x ≡ k → bad x ≡ true → (among.0 < i) ⊎ (i ≤ among.0) → ⊥
      by_order k less x among at isbad (inl h) =
          let long = length-take-le i xs (omega arith) in
          let clear = all among.0 x (omega arith) in
          let e = get_or-take i xs among.0 x h ∙ among.2 in
          true_or_false (bad x) isbad (subst (λ y. bad y ≡ false) e clear)
      by_order k less x among at isbad (inr h) =
          let le = up i among.0 x h among.1 in
          let e = ap key among.2 in
          let f = ap key (get_or_default xs i x d lt) in omega (arith, at)

-- of two least ones the lesser

lesser_min : (P Q R : ℕ → Type 0) (m n : ℕ) → IsLeast P m → IsLeast Q n → ((k : ℕ) → R k → P k ⊎ Q k) → ((k : ℕ) → P k → R k) → ((k : ℕ) → Q k → R k) → IsLeast R (min m n)
lesser_min P Q R m n p q split left right = record {
  holds = by_min (min m n) (either m n);
  before = λ k less r. elim (split k r) [
    | inl h ↦ p.before k (omega (arith, min_le m n)) h
    | inr h ↦ q.before k (omega (arith, min_le m n)) h
  ];
}
  where
    either : (m n : ℕ) → (min m n ≡ m) ⊎ (min m n ≡ n)
    either m n = grind arith

    min_le : (m n : ℕ) → (min m n ≤ m) × (min m n ≤ n)
    min_le m n = (omega arith, omega arith)

    by_min : (k : ℕ) → (k ≡ m) ⊎ (k ≡ n) → R k
    by_min k (inl e) = left k (subst P (sym e) p.holds)
    by_min k (inr e) = right k (subst Q (sym e) q.holds)

pub least_either : (P Q R : ℕ → Type 0) (x y : Option ℕ) → IsLeastOf P x → IsLeastOf Q y → ((k : ℕ) → R k → P k ⊎ Q k) → ((k : ℕ) → P k → R k) → ((k : ℕ) → Q k → R k) → IsLeastOf R (lesser x y)
least_either P Q R None None p q split left right = λ k r. elim (split k r) [ inl h ↦ p k h | inr h ↦ q k h ]
least_either P Q R None (Some n) p q split left right = record { holds = right n q.holds; before = λ k less r. elim (split k r) [ inl h ↦ p k h | inr h ↦ q.before k less h ] }
least_either P Q R (Some m) None p q split left right = record { holds = left m p.holds; before = λ k less r. elim (split k r) [ inl h ↦ p.before k less h | inr h ↦ q k h ] }
least_either P Q R (Some m) (Some n) p q split left right = lesser_min P Q R m n p q split left right
