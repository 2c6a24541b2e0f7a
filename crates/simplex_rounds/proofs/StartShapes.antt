-- The first table's rows are as long as each other, and its sides are those of facts that are there.
use Rattle.std.proofs.Common.{subst, ◌≡◌, ℕ, zero, suc, ◌+◌, ◌*◌, ◌≤◌, ◌<◌, ℤ, pos, neg_ℤ, arith, refl, ap, List, [], ◌∷◌, ◌++◌, length, All, true, false, length-append}
use Rattle.std.specs.Prelude.{replicate}
use Rattle.std.proofs.lemmas.List.Elements.{All-cons, All-nil, All-append, All-weaker}
use Rattle.wcc_base.specs.declared.compare.Compare.{Compare}
use Rattle.wcc_base.specs.declared.compare.Compare.TheVariants.{AtMost, AtLeast, Equal}
use Rattle.code_flow_answer.specs.declared.bounded.Column.{Column}
use Rattle.simplex_tables.specs.Rows.{Row}
use Rattle.simplex_rounds.specs.declared.starting.Side.{Side}
use Rattle.simplex_rounds.specs.Starts.{sides_from, side_totals, slacks, side_row, side_rows, whole_row, values_of, own_slacks, started, variables}
use Rattle.simplex_tables.specs.Shapes.{IsShaped}

parts-long : (a x y z : ℤ) (xs ys : Row) (k n : ℕ) → length xs ≡ k → length ys ≡ n → length (a ∷ (xs ++ (ys ++ (x ∷ y ∷ z ∷ [])))) ≡ ((k + 1) + n) + 3
parts-long a x y z xs ys k n e f =
    let p = length-append xs (ys ++ (x ∷ y ∷ z ∷ [])) in
    let q = length-append ys (x ∷ y ∷ z ∷ []) in omega (arith, p, q, e, f)

totals-long : (s : Side) (cs : List Column) → length (side_totals s cs) ≡ length cs
totals-long s [] = refl
totals-long s (c ∷ cs) = ap suc (totals-long s cs)

slacks-long : (i k : ℕ) (ss : List Side) → length (slacks i k ss) ≡ length ss
slacks-long i k [] = refl
slacks-long i k (s ∷ ss) = ap suc (slacks-long i (k + 1) ss)

values-long : (cs : List Column) → length (values_of cs) ≡ length cs
values-long [] = refl
values-long (c ∷ cs) = ap suc (values-long cs)

many-long : (n : ℕ) (z : ℤ) → length (replicate n z) ≡ n
many-long zero z = refl
many-long (suc n) z = ap suc (many-long n z)

own-long : (n : ℕ) (ss : List Side) → length (own_slacks n ss) ≡ length ss
own-long n [] = refl
own-long n (s ∷ ss) = ap suc (own-long (n + 1) ss)

module _ (cs : List Column) (ss : List Side) where
  side-long : (i : ℕ) (s : Side) → length (side_row cs ss i s) ≡ ((length cs + 1) + length ss) + 3
  side-long i s = parts-long (pos 0) (pos 0) (pos 0) (pos 0) (side_totals s cs) (slacks i 0 ss) (length cs) (length ss) (totals-long s cs) (slacks-long i 0 ss)

  even-long : (a c x y z : ℤ) → length (a ∷ (replicate (length cs) c ++ (replicate (length ss) (pos 0) ++ (x ∷ y ∷ z ∷ [])))) ≡ ((length cs + 1) + length ss) + 3
  even-long a c x y z = parts-long a x y z (replicate (length cs) c) (replicate (length ss) (pos 0)) (length cs) (length ss) (many-long (length cs) c) (many-long (length ss) (pos 0))

  rows_long : (i : ℕ) (more : List Side) → All (λ r. length r ≡ ((length cs + 1) + length ss) + 3) (side_rows cs ss i more)
  rows_long i [] = All-nil (λ r. length r ≡ ((length cs + 1) + length ss) + 3)
  rows_long i (s ∷ more) = All-cons (λ r. length r ≡ ((length cs + 1) + length ss) + 3) (side_row cs ss i s) (side_rows cs ss (i + 1) more) (side-long i s) (rows_long (i + 1) more)

  rows_count : (i : ℕ) (more : List Side) → length (side_rows cs ss i more) ≡ length more
  rows_count i [] = refl
  rows_count i (s ∷ more) = ap suc (rows_count (i + 1) more)

  pub started_shaped : IsShaped (variables cs ss + 3) (started cs ss)
  started_shaped = record {
    some = omega arith;
    rows = All-append (λ r. length r ≡ ((length cs + 1) + length ss) + 3) (side_rows cs ss 0 ss) (whole_row (length cs) (length ss) ∷ []) (rows_long 0 ss)
        (All-cons (λ r. length r ≡ ((length cs + 1) + length ss) + 3) (whole_row (length cs) (length ss)) [] (even-long (pos 1) (pos 1) (pos 0) (pos 0) (pos 1)) (All-nil (λ r. length r ≡ ((length cs + 1) + length ss) + 3)));
    owns = (let a = length-append (own_slacks (length cs + 1) ss) (0 ∷ []) in let b = length-append (side_rows cs ss 0 ss) (whole_row (length cs) (length ss) ∷ []) in let c = own-long (length cs + 1) ss in let d = rows_count 0 ss in omega (arith, a, b, c, d));
    one = even-long (pos 0) (neg_ℤ (pos 1)) (pos 1) (pos 0) (neg_ℤ (pos 1));
    two = parts-long (pos 0) (pos 0) (pos 1) (pos 0) (values_of cs) (replicate (length ss) (pos 0)) (length cs) (length ss) (values-long cs) (many-long (length ss) (pos 0));
  }

-- ---- sides

sides_within : (n : ℕ) (os : List Compare) → All (λ (s : Side). s.fact < n + length os) (sides_from n os)
sides_within n [] = All-nil (λ (s : Side). s.fact < n + 0)
sides_within n (o ∷ os) = by_op o (All-weaker (λ (s : Side). s.fact < (n + 1) + length os) (λ (s : Side). s.fact < n + suc (length os)) (λ s h. omega (arith, h)) (sides_from (n + 1) os) (sides_within (n + 1) os))
  where
    by_op : (o : Compare) → All (λ (s : Side). s.fact < n + suc (length os)) (sides_from (n + 1) os) → All (λ (s : Side). s.fact < n + suc (length os)) (sides_from n (o ∷ os))
    by_op AtMost r = All-cons (λ (s : Side). s.fact < n + suc (length os)) (record { fact = n; negated = false }) (sides_from (n + 1) os) (omega arith) r
    by_op AtLeast r = All-cons (λ (s : Side). s.fact < n + suc (length os)) (record { fact = n; negated = true }) (sides_from (n + 1) os) (omega arith) r
    by_op Equal r = All-cons (λ (s : Side). s.fact < n + suc (length os)) (record { fact = n; negated = false }) (record { fact = n; negated = true } ∷ sides_from (n + 1) os) (omega arith) (All-cons (λ (s : Side). s.fact < n + suc (length os)) (record { fact = n; negated = true }) (sides_from (n + 1) os) (omega arith) r)

-- numbered from 0 on
pub sides_in : (os : List Compare) → All (λ (s : Side). s.fact < length os) (sides_from 0 os)
sides_in os = subst (λ k. All (λ (s : Side). s.fact < k) (sides_from 0 os)) {x = 0 + length os} {y = length os} (omega arith) (sides_within 0 os)

pub sides_few : (n : ℕ) (os : List Compare) → length (sides_from n os) ≤ 2 * length os
sides_few n [] = omega arith
sides_few n (AtMost ∷ os) = let r = sides_few (n + 1) os in omega (arith, r)
sides_few n (AtLeast ∷ os) = let r = sides_few (n + 1) os in omega (arith, r)
sides_few n (Equal ∷ os) = let r = sides_few (n + 1) os in omega (arith, r)
