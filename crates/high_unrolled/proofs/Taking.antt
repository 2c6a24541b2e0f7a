-- Which loops are unrolled.
use Rattle.std.proofs.Common.{◌≡◌, ℕ, ◌+◌, ◌<◌, ◌≤◌, ◌⊎◌, inl, inr, ⊎_elim, Bool, true, false, not, ◌&&◌, nat_le, refl, sym, ap, ◌∙◌, arith}
use Rattle.std.proofs.lemmas.Bool.{cases_lt, le-leb, leb-true}
use Rattle.wcc_base.specs.Budgets.{most_depth}
use Rattle.high_unrolled.specs.Factor.{Rolled, depth_by, fits, growth, has_loop, is_taken}

pub and_front : (a b : Bool) → (a && b) ≡ true → a ≡ true
and_front true b e = refl
and_front false b e = e

pub and_back : (a b : Bool) → (a && b) ≡ true → b ≡ true
and_back true b e = e
and_back false b e = let no_way : false ≡ true = e in cc

pub not_true : (a : Bool) → not a ≡ true → a ≡ false
not_true true e = let no_way : false ≡ true = e in cc
not_true false e = refl

module _ (k room level : ℕ) (x : Rolled) where
  pub taken_twice : is_taken k room level x ≡ true → 2 ≤ k
  taken_twice e = leb-true 2 k (and_front (nat_le 2 k) (not (has_loop x.body) && fits k room level x) e)

  pub taken_factor : is_taken k room level x ≡ true → 1 ≤ k
  taken_factor e = let two = taken_twice e in omega (arith, two)

  taken_rest : is_taken k room level x ≡ true → (not (has_loop x.body) && fits k room level x) ≡ true
  taken_rest e = and_back (nat_le 2 k) (not (has_loop x.body) && fits k room level x) e

  -- it is an innermost loop
  pub taken_innermost : is_taken k room level x ≡ true → has_loop x.body ≡ false
  taken_innermost e = not_true (has_loop x.body) (and_front (not (has_loop x.body)) (fits k room level x) (taken_rest e))

  taken_fits : is_taken k room level x ≡ true → fits k room level x ≡ true
  taken_fits e = and_back (not (has_loop x.body)) (fits k room level x) (taken_rest e)

  -- there is room for it
  pub taken_growth : is_taken k room level x ≡ true → growth k x ≤ room
  taken_growth e = leb-true (growth k x) room (and_front (nat_le (growth k x) room) (nat_le (level + depth_by k x) most_depth) (taken_fits e))

  pub taken_depth : is_taken k room level x ≡ true → level + depth_by k x ≤ most_depth
  taken_depth e = leb-true (level + depth_by k x) most_depth (and_back (nat_le (growth k x) room) (nat_le (level + depth_by k x) most_depth) (taken_fits e))

  -- an innermost one that is left has no room, or would be too deep
  pub left_for_want : 2 ≤ k → has_loop x.body ≡ false → is_taken k room level x ≡ false → (room < growth k x) ⊎ (most_depth < level + depth_by k x)
  left_for_want two none e = ⊎_elim
      (λ (tight : room < growth k x). inl tight)
      (λ (roomy : growth k x ≤ room). ⊎_elim
      (λ (deep : most_depth < level + depth_by k x). inr deep)
      (λ (shallow : level + depth_by k x ≤ most_depth). absurd (never
      (four (nat_le 2 k) (has_loop x.body) (nat_le (growth k x) room) (nat_le (level + depth_by k x) most_depth) (le-leb 2 k two) none (le-leb (growth k x) room roomy) (le-leb (level + depth_by k x) most_depth shallow)) e))
      (cases_lt most_depth (level + depth_by k x)))
      (cases_lt room (growth k x))
    where
      never : is_taken k room level x ≡ true → is_taken k room level x ≡ false → ⊥
      never p q = let no_way : true ≡ false = sym p ∙ q in cc

      four : (a b c d : Bool) → a ≡ true → b ≡ false → c ≡ true → d ≡ true → (a && (not b && (c && d))) ≡ true
      four a b c d p q r t = ap (λ z. z && (not b && (c && d))) p ∙ ap (λ z. not z && (c && d)) q ∙ ap (λ z. z && d) r ∙ t
