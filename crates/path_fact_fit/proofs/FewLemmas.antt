-- What sides of few terms and small numbers come to at small counts.
use Rattle.std.proofs.Common.{◌≡◌, ℕ, suc, ◌*◌, ◌^◌, ◌≤◌, ℤ, pos, ◌+ℤ◌, ◌*ℤ◌, ◌≤ℤ◌, ◌<ℤ◌, arith, List, [], ◌∷◌, length, All, Bool, true, false, cond}
use Rattle.std.specs.Prelude.{◌==◌}
use lib.IntN.{negsuc}
use Rattle.std.proofs.Math.Nat.{mul-le-mul_left}
use Rattle.std.proofs.lemmas.Int.{ints}
use Rattle.std.proofs.lemmas.List.Elements.{All-head, All-tail, All-cons, All-nil}
use Rattle.frac128.specs.Terms.{Terms, applied}
use Rattle.rv_core.specs.Table.{Table}
use Rattle.code_flow_system.specs.declared.claims.FactClaim.{FactClaim}
use Rattle.code_flow_system.specs.declared.moves.Move.{Move}
use Rattle.code_flow_system.specs.declared.shapes.LoopShape.{LoopShape}
use Rattle.code_flow_system.specs.declared.shapes.Span.{Span}
use Rattle.code_flow_system.specs.Systems.{System}
use Rattle.code_flow_system.specs.Counts.{Amounts, amount, count}
use Rattle.path_fit.specs.Fitting.{LoopsFit}
use Rattle.path_flows.specs.CountLaws.{HasBounds}
use Rattle.path_ranges.specs.Limits.{LooseCountsAreFew, LooseValuesBelow}
use Rattle.path_conditions.specs.Natural.{AreNatural, IsNaturalFact, both_totals}
use Rattle.path_conditions.specs.Searching.{CanSearch}
use Rattle.path_fact_fit.specs.Few.{IsFewTerm, IsFewFact}

counts_natural : (x : Amounts) (ms : List Move) (a : ℕ) → pos 0 ≤ℤ count x ms a
counts_natural x [] a = omega (arith, ints)
counts_natural x (m ∷ ms) a = by_test (m.at == a) (counts_natural x ms a)
  where
    by_test : (t : Bool) → pos 0 ≤ℤ count x ms a → pos 0 ≤ℤ (cond t (amount x m) (pos 0) +ℤ count x ms a)
    by_test true r = omega (arith, ints)
    by_test false r = omega (arith, ints)

product_few : (a n : ℤ) → pos 0 ≤ℤ a → a ≤ℤ pos (2 ^ 10) → pos 0 ≤ℤ n → n <ℤ pos (2 ^ 49) → (a *ℤ n) ≤ℤ pos (2 ^ 59)
product_few (pos a) (pos n) h k g l =
    let few : a ≤ 2 ^ 10 = omega (arith, ints) in
    let below : n ≤ 2 ^ 49 = omega (arith, ints) in
    let x : a * n ≤ a * 2 ^ 49 = mul-le-mul_left a below in
    let y : a * 2 ^ 49 ≤ 2 ^ 59 = omega (arith, few) in
    within (a * n) (omega (arith, x, y))
  where
    within : (m : ℕ) → m ≤ 2 ^ 59 → pos m ≤ℤ pos (2 ^ 59)
    within m h = omega (arith, ints)
product_few (pos a) (negsuc n) h k g l = absurd (omega (arith, ints))
product_few (negsuc a) n h k g l = absurd (omega (arith, ints))

side_few : (n : ℕ → ℤ) → ((a : ℕ) → (pos 0 ≤ℤ n a) × (n a <ℤ pos (2 ^ 49))) → (ts : Terms) → All IsFewTerm ts → applied ts n ≤ℤ pos (length ts * 2 ^ 59)
side_few n at [] h = omega (arith, ints)
side_few n at (t ∷ ts) h =
    let r = side_few n at ts (All-tail IsFewTerm t ts h) in
    let f = All-head IsFewTerm t ts h in
    let p = product_few t.1 (n t.0) f.0 f.1 (at t.0).0 (at t.0).1 in
    let e : pos (suc (length ts) * 2 ^ 59) ≡ pos (2 ^ 59) +ℤ pos (length ts * 2 ^ 59) = omega (arith, ints) in omega (arith, ints)

both_few : (n : ℕ → ℤ) → ((a : ℕ) → (pos 0 ≤ℤ n a) × (n a <ℤ pos (2 ^ 49))) → (f : FactClaim) → IsFewFact f → both_totals f n ≤ℤ pos (2 ^ 66)
both_few n at f h =
    let l = side_few n at f.left h.left in
    let r = side_few n at f.right h.right in
    let a : length f.left * 2 ^ 59 ≤ 2 ^ 65 = let k = h.left_short in omega (arith, k) in
    let b : length f.right * 2 ^ 59 ≤ 2 ^ 65 = let k = h.right_short in omega (arith, k) in
    added (applied f.left n) (applied f.right n) (length f.left * 2 ^ 59) (length f.right * 2 ^ 59) l r a b
  where
    added : (x y : ℤ) (m k : ℕ) → x ≤ℤ pos m → y ≤ℤ pos k → m ≤ 2 ^ 65 → k ≤ 2 ^ 65 → (x +ℤ y) ≤ℤ pos (2 ^ 66)
    added x y m k h g a b = omega (arith, ints, a, b)

all_few : (n : ℕ → ℤ) → ((a : ℕ) → (pos 0 ≤ℤ n a) × (n a <ℤ pos (2 ^ 49))) → (fs : List FactClaim) → All IsFewFact fs → All (λ f. both_totals f n ≤ℤ pos (2 ^ 66)) fs
all_few n at [] h = All-nil (λ (f : FactClaim). both_totals f n ≤ℤ pos (2 ^ 66))
all_few n at (f ∷ fs) h = All-cons (λ (f : FactClaim). both_totals f n ≤ℤ pos (2 ^ 66)) f fs (both_few n at f (All-head IsFewFact f fs h)) (all_few n at fs (All-tail IsFewFact f fs h))

natural_side : (ts : Terms) → All IsFewTerm ts → AreNatural ts
natural_side [] h = All-nil (λ (u : ℕ × ℤ). pos 0 ≤ℤ u.1)
natural_side (t ∷ ts) h = All-cons (λ (u : ℕ × ℤ). pos 0 ≤ℤ u.1) t ts (All-head IsFewTerm t ts h).0 (natural_side ts (All-tail IsFewTerm t ts h))

all_natural : (fs : List FactClaim) → All IsFewFact fs → All IsNaturalFact fs
all_natural [] h = All-nil IsNaturalFact
all_natural (f ∷ fs) h = let one = All-head IsFewFact f fs h in All-cons IsNaturalFact f fs (natural_side f.left one.left, natural_side f.right one.right) (all_natural fs (All-tail IsFewFact f fs h))

below_one : (z : ℤ) → z <ℤ (pos 1 *ℤ pos (2 ^ 49)) → z <ℤ pos (2 ^ 49)
below_one z h = omega (arith, ints)

pub searched : (t : Table) (s : System) (ls : List LoopShape) (ps : List Span) → LoopsFit s ls ps → All HasBounds s.claims.loops → LooseValuesBelow t s → LooseCountsAreFew s → length s.claims.facts ≤ 32 → All IsFewFact s.claims.facts → CanSearch t s ls ps
searched t s ls ps fit bounds loose counts few facts = record {
  fit = fit;
  bounds = bounds;
  loose = loose;
  counts = counts;
  few = few;
  natural = all_natural s.claims.facts facts;
  totals = λ x is. all_few (count x s.moves) (λ a. (counts_natural x s.moves a, below_one (count x s.moves a) (counts 1 x is a))) s.claims.facts facts;
}
