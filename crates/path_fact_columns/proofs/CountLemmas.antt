-- Counts and sides, one term at a time.
use Rattle.std.proofs.Common.{◌≡◌, ℕ, zero, suc, ◌+◌, ◌*◌, ◌≤◌, ◌<◌, ℤ, pos, ◌+ℤ◌, ◌*ℤ◌, ◌≤ℤ◌, ◌<ℤ◌, ◌^◌, arith, refl, sym, ap, ◌∙◌, subst, ◌-◌, List, [], ◌∷◌, ◌++◌, length, drop, get_or, add-one, drop-cons, append_assoc, Bool, true, false, cond, unsigned_abs, FitsSigned}
use Rattle.std.specs.Prelude.{◌==◌, slice_index_or}
use mir.Val.{to_z, of_z}
use Rattle.std.specs.Int.{w128}
use Rattle.std.proofs.Math.ListN.{drop_of_length-le}
use Rattle.std.proofs.Math.Nat.{mul-le-mul_right}
use lib.IntN.{negsuc}
use Rattle.std.proofs.lemmas.Int.{ints, to_z-of_z}
use Rattle.std.proofs.lemmas.List.Elements.{All-head, All-tail}
use Rattle.frac128.specs.Terms.{Terms, int_sum_by, applied}
use Rattle.frac128.proofs.SignedLemmas.{mul_at_least}
use Rattle.rv_core.specs.Table.{Table}
use Rattle.code_flow_lookup.specs.Runs.{those_at}
use Rattle.code_flow_system.specs.declared.claims.FactClaim.{FactClaim}
use Rattle.code_flow_system.specs.declared.moves.Move.{Move}
use Rattle.code_flow_system.specs.Counts.{Amounts, amount, count, total}
use Rattle.code_flow_system.specs.Flows.{price}
use Rattle.code_flow_system.specs.Systems.{System}
use Rattle.path_conditions.specs.Natural.{AreNatural, IsNaturalFact, both_totals}
use Rattle.path_fact_kinds.specs.MixLaws.{total_of}
use Rattle.path_fact_kinds.specs.Columns.{totals_of}

-- the moves at an address count it
pub those_sum : (x : Amounts) (ms : List Move) (a : ℕ) → int_sum_by (amount x) (those_at (λ (m : Move). m.at) a ms) ≡ count x ms a
those_sum x [] a = refl
those_sum x (m ∷ ms) a = by_test (m.at == a) (those_sum x ms a)
  where
    by_test : (t : Bool) → int_sum_by (amount x) (those_at (λ (k : Move). k.at) a ms) ≡ count x ms a →
        int_sum_by (amount x) (cond t (m ∷ those_at (λ (k : Move). k.at) a ms) (those_at (λ (k : Move). k.at) a ms)) ≡ cond t (amount x m) (pos 0) +ℤ count x ms a
    by_test true r = omega (arith, ints)
    by_test false r = omega (arith, ints)

pub amounts_positive : (x : Amounts) (ms : List Move) → pos 0 ≤ℤ int_sum_by (amount x) ms
amounts_positive x [] = omega (arith, ints)
amounts_positive x (m ∷ ms) = let r = amounts_positive x ms in omega (arith, ints)

pub counts_positive : (x : Amounts) (ms : List Move) (a : ℕ) → pos 0 ≤ℤ count x ms a
counts_positive x ms a = subst (λ (z : ℤ). pos 0 ≤ℤ z) (those_sum x ms a) (amounts_positive x (those_at (λ (m : Move). m.at) a ms))

-- sums of products that aren't negative, one product at a time

pub record IsStep (all more rest whole : ℤ) : Type 0 where
  pub next : ((all +ℤ more) +ℤ rest) ≡ whole
  pub more_least : pos 0 ≤ℤ more
  pub most : (all +ℤ more) ≤ℤ whole

pub side_least : (n : ℕ → ℤ) → ((a : ℕ) → pos 0 ≤ℤ n a) → (ts : Terms) → AreNatural ts → pos 0 ≤ℤ applied ts n
side_least n least [] h = omega (arith, ints)
side_least n least (t ∷ ts) h =
    let r = side_least n least ts (All-tail (λ u. pos 0 ≤ℤ u.1) t ts h) in
    let e = mul_at_least t.1 (n t.0) (All-head (λ u. pos 0 ≤ℤ u.1) t ts h) (least t.0) in omega (arith, ints)

pub side_step : (n : ℕ → ℤ) → ((a : ℕ) → pos 0 ≤ℤ n a) → (ts : Terms) → AreNatural ts → (i : ℕ) (d : ℕ × ℤ) (all whole : ℤ) → i < length ts → (all +ℤ applied (drop i ts) n) ≡ whole →
    IsStep all ((slice_index_or ts i d).1 *ℤ n (slice_index_or ts i d).0) (applied (drop (i + 1) ts) n) whole
side_step n least [] h i d all whole lt e = absurd (omega (arith, lt))
side_step n least (t ∷ ts) h zero d all whole lt e =
    let r = side_least n least ts (All-tail (λ u. pos 0 ≤ℤ u.1) t ts h) in
    let p = mul_at_least t.1 (n t.0) (All-head (λ u. pos 0 ≤ℤ u.1) t ts h) (least t.0) in record {
      next = omega (arith, ints);
      more_least = p;
      most = omega (arith, ints);
    }
side_step n least (t ∷ ts) h (suc i) d all whole lt e =
    let next : suc (i + 1) ≡ suc i + 1 = omega arith in
    subst (λ k. IsStep all ((slice_index_or ts i d).1 *ℤ n (slice_index_or ts i d).0) (applied (drop k (t ∷ ts)) n) whole) next (side_step n least ts (All-tail (λ u. pos 0 ≤ℤ u.1) t ts h) i d all whole (omega (arith, lt)) e)

pub size_most : (z : ℤ) (k : ℕ) → pos 0 ≤ℤ z → z ≤ℤ pos k → unsigned_abs z ≤ k
size_most (pos n) k h le = omega (arith, ints)
size_most (negsuc n) k h le = absurd (omega (arith, ints))

-- what a flow pays, move by move

paid_least : (f : Move → ℤ) → ((m : Move) → pos 0 ≤ℤ f m) → (x : Amounts) (ms : List Move) → pos 0 ≤ℤ total f x ms
paid_least f least x [] = omega (arith, ints)
paid_least f least x (m ∷ ms) =
    let r = paid_least f least x ms in
    let e = mul_at_least (amount x m) (f m) (omega (arith, ints)) (least m) in omega (arith, ints)

pub paid_step : (f : Move → ℤ) → ((m : Move) → pos 0 ≤ℤ f m) → (x : Amounts) (ms : List Move) (i : ℕ) (d : Move) (all whole : ℤ) → i < length ms → (all +ℤ total f x (drop i ms)) ≡ whole →
    IsStep all (amount x (slice_index_or ms i d) *ℤ f (slice_index_or ms i d)) (total f x (drop (i + 1) ms)) whole
paid_step f least x [] i d all whole lt e = absurd (omega (arith, lt))
paid_step f least x (m ∷ ms) zero d all whole lt e =
    let r = paid_least f least x ms in
    let p = mul_at_least (amount x m) (f m) (omega (arith, ints)) (least m) in record {
      next = omega (arith, ints);
      more_least = p;
      most = omega (arith, ints);
    }
paid_step f least x (m ∷ ms) (suc i) d all whole lt e =
    let next : suc (i + 1) ≡ suc i + 1 = omega arith in
    subst (λ k. IsStep all (amount x (slice_index_or ms i d) *ℤ f (slice_index_or ms i d)) (total f x (drop k (m ∷ ms))) whole) next (paid_step f least x ms i d all whole (omega (arith, lt)) e)

-- and where what stands at the place, its product and a bound of the whole are known

pub record IsNext (k : ℕ) (all rest whole : ℤ) : Type 0 where
  pub sum : (all +ℤ rest) ≡ whole
  pub least : pos 0 ≤ℤ all
  pub most : all ≤ℤ pos k

stepped : (k : ℕ) (all p more rest whole : ℤ) → p ≡ more → pos 0 ≤ℤ all → whole ≤ℤ pos k → IsStep all more rest whole → IsNext k (all +ℤ p) rest whole
stepped k all p more rest whole e h bound step =
    let a = step.next in
    let b = step.more_least in
    let c = step.most in record { sum = omega (arith, ints); least = omega (arith, ints); most = omega (arith, ints) }

pub paid_next : (k : ℕ) (f : Move → ℤ) → ((m : Move) → pos 0 ≤ℤ f m) → (x : Amounts) (ms : List Move) (i : ℕ) (m : Move) (all p whole : ℤ) → m ≡ slice_index_or ms i m → i < length ms → p ≡ amount x m *ℤ f m →
    (all +ℤ total f x (drop i ms)) ≡ whole → pos 0 ≤ℤ all → whole ≤ℤ pos k → IsNext k (all +ℤ p) (total f x (drop (i + 1) ms)) whole
paid_next k f least x ms i m all p whole is lt e sum h bound =
    stepped k all p (amount x (slice_index_or ms i m) *ℤ f (slice_index_or ms i m)) (total f x (drop (i + 1) ms)) whole (e ∙ ap (λ (j : Move). amount x j *ℤ f j) is) h bound (paid_step f least x ms i m all whole lt sum)

pub side_next : (k : ℕ) (n : ℕ → ℤ) → ((a : ℕ) → pos 0 ≤ℤ n a) → (ts : Terms) → AreNatural ts → (i : ℕ) (d : ℕ × ℤ) (all p whole : ℤ) → i < length ts → p ≡ (slice_index_or ts i d).1 *ℤ n (slice_index_or ts i d).0 →
    (all +ℤ applied (drop i ts) n) ≡ whole → pos 0 ≤ℤ all → whole ≤ℤ pos k → IsNext k (all +ℤ p) (applied (drop (i + 1) ts) n) whole
side_next k n least ts natural i d all p whole lt e sum h bound =
    stepped k all p ((slice_index_or ts i d).1 *ℤ n (slice_index_or ts i d).0) (applied (drop (i + 1) ts) n) whole e h bound (side_step n least ts natural i d all whole lt sum)

pub next_fits : (k : ℕ) (all rest whole : ℤ) → k ≤ 2 ^ 124 → IsNext k all rest whole → FitsSigned w128 all
next_fits k all rest whole h next = natural_fits all (let l = next.least in let m = next.most in (l, m))
  where
    natural_fits : (z : ℤ) → (pos 0 ≤ℤ z) × (z ≤ℤ pos k) → FitsSigned w128 z
    natural_fits (pos n) b = let m : n ≤ k = let e = b.1 in omega (arith, ints) in record { sfits = omega (arith, h, m) }
    natural_fits (negsuc n) b = absurd (let e = b.0 in omega (arith, ints))

more_small : (k : ℕ) (all more rest whole : ℤ) → pos 0 ≤ℤ all → whole ≤ℤ pos k → IsStep all more rest whole → unsigned_abs more ≤ k
more_small k all more rest whole h bound step = let m = step.most in let l = step.more_least in size_most more k l (omega (arith, ints))

-- the product at a term
pub term_small : (k : ℕ) (n : ℕ → ℤ) → ((a : ℕ) → pos 0 ≤ℤ n a) → (ts : Terms) → AreNatural ts → (i : ℕ) (d : ℕ × ℤ) (all whole : ℤ) → i < length ts →
    (all +ℤ applied (drop i ts) n) ≡ whole → pos 0 ≤ℤ all → whole ≤ℤ pos k → unsigned_abs ((slice_index_or ts i d).1 *ℤ n (slice_index_or ts i d).0) ≤ k
term_small k n least ts natural i d all whole lt sum h bound =
    more_small k all ((slice_index_or ts i d).1 *ℤ n (slice_index_or ts i d).0) (applied (drop (i + 1) ts) n) whole h bound (side_step n least ts natural i d all whole lt sum)

-- sides of a fact
pub left_small : (n : ℕ → ℤ) → ((a : ℕ) → pos 0 ≤ℤ n a) → (f : FactClaim) → IsNaturalFact f → both_totals f n ≤ℤ pos (2 ^ 66) → applied f.left n ≤ℤ pos (2 ^ 66)
left_small n least f natural h = let r = side_least n least f.right natural.1 in omega (arith, ints)

pub right_small : (n : ℕ → ℤ) → ((a : ℕ) → pos 0 ≤ℤ n a) → (f : FactClaim) → IsNaturalFact f → both_totals f n ≤ℤ pos (2 ^ 66) → applied f.right n ≤ℤ pos (2 ^ 66)
right_small n least f natural h = let l = side_least n least f.left natural.0 in omega (arith, ints)

pub price_least : (t : Table) (s : System) (m : Move) → pos 0 ≤ℤ price t s m
price_least t s m = natural (price t s m) refl
  where
    natural : (z : ℤ) {n : ℕ} → z ≡ pos n → pos 0 ≤ℤ z
    natural z e = omega (arith, ints)

-- a count at its end
pub count_end : (x : Amounts) (steps ms : List Move) (a i : ℕ) (k : ℤ) → steps ≡ those_at (λ (m : Move). m.at) a ms → length steps ≤ i → (k +ℤ int_sum_by (amount x) (drop i steps)) ≡ int_sum_by (amount x) steps → k ≡ count x ms a
count_end x steps ms a i k is at e =
    let none : int_sum_by (amount x) (drop i steps) ≡ pos 0 = ap (int_sum_by (amount x)) (drop_of_length-le steps at) in
    let all : int_sum_by (amount x) steps ≡ count x ms a = ap (int_sum_by (amount x)) is ∙ those_sum x ms a in
    omega (arith, ints)

-- one total more
pub totals_next : (n : ℕ → ℤ) (fs : List FactClaim) (i : ℕ) (f : FactClaim) (z : ℤ) (vs us : List ℤ) → f ≡ slice_index_or fs i f → i < length fs → z ≡ total_of f n → us ≡ vs ++ z ∷ [] → vs ++ totals_of (drop i fs) n ≡ totals_of fs n → us ++ totals_of (drop (i + 1) fs) n ≡ totals_of fs n
totals_next n fs i f z vs us is lt e items h =
    ap (λ (xs : List ℤ). xs ++ totals_of (drop (i + 1) fs) n) items
    ∙ (append_assoc vs (z ∷ []) (totals_of (drop (i + 1) fs) n)
    ∙ (ap (λ (y : ℤ). vs ++ y ∷ totals_of (drop (i + 1) fs) n) e
    ∙ (ap (λ (gs : List FactClaim). vs ++ totals_of gs n) (ap (λ (g : FactClaim). g ∷ drop (i + 1) fs) is ∙ sym cut) ∙ h)))
  where
    cut : drop i fs ≡ get_or fs i f ∷ drop (i + 1) fs
    cut = rw add-one (drop-cons fs i f lt)

-- a product of an amount and a cost, in 128 bits
pub record IsPaid (a b : ℤ) : Type 0 where
  pub value : to_z w128 (of_z w128 (to_z w128 (of_z w128 a) *ℤ to_z w128 (of_z w128 b))) ≡ a *ℤ b
  pub least : pos 0 ≤ℤ (a *ℤ b)
  pub most : (a *ℤ b) <ℤ pos (2 ^ 93)

paid_small : (u cost : ℕ) → u < 2 ^ 60 → cost < 2 ^ 33 → u * cost < 2 ^ 93
paid_small u cost h k =
    let l : u ≤ 2 ^ 60 - 1 = omega (arith, h) in
    let f : u * cost ≤ (2 ^ 60 - 1) * cost = mul-le-mul_right cost l in omega (arith, f, k)

small_fits : (n : ℕ) → n < 2 ^ 93 → FitsSigned w128 (pos n)
small_fits n h = record { sfits = omega (arith, h) }

pub paid_is : (a b : ℤ) (cost : ℕ) → pos 0 ≤ℤ a → a <ℤ pos (2 ^ 60) → b ≡ pos cost → cost < 2 ^ 33 → IsPaid a b
paid_is (negsuc u) b cost h k e l = absurd (omega (arith, ints))
paid_is (pos u) b cost h k e l = subst (IsPaid (pos u)) (sym e) (record {
  value = ap (λ (z : ℤ). to_z w128 (of_z w128 (z *ℤ to_z w128 (of_z w128 (pos cost))))) fu ∙ (ap (λ (z : ℤ). to_z w128 (of_z w128 (pos u *ℤ z))) fc ∙ (ap (λ (z : ℤ). to_z w128 (of_z w128 z)) p ∙ (to_z-of_z w128 (pos (u * cost)) (small_fits (u * cost) s) ∙ sym p)));
  least = omega (arith, ints);
  most = subst (λ (z : ℤ). z <ℤ pos (2 ^ 93)) (sym p) (below (u * cost) s);
})
  where
    below : (n : ℕ) → n < 2 ^ 93 → pos n <ℤ pos (2 ^ 93)
    below n h = omega (arith, ints, h)

    lu : u < 2 ^ 60
    lu = omega (arith, ints)

    s : u * cost < 2 ^ 93
    s = paid_small u cost lu l

    fu : to_z w128 (of_z w128 (pos u)) ≡ pos u
    fu = to_z-of_z w128 (pos u) (small_fits u (let x = lu in omega (arith, x)))

    fc : to_z w128 (of_z w128 (pos cost)) ≡ pos cost
    fc = to_z-of_z w128 (pos cost) (small_fits cost (omega (arith, l)))

    p : pos u *ℤ pos cost ≡ pos (u * cost)
    p = omega (arith, ints)
