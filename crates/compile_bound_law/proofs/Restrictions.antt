-- Claims on restrictions over copy lines: their addresses are aligned, and their sides come to little.
use Rattle.std.proofs.Common.{◌≡◌, ℕ, ◌*◌, ◌%◌, ◌^◌, ◌<◌, ◌≤◌, ℤ, pos, ◌≤ℤ◌, Bool, true, false, List, [], ◌∷◌, All, Contains, ap, refl, arith}
use Rattle.std.specs.Prelude.{◌&&◌, not}
use Rattle.std.proofs.lemmas.Bool.{and_from, eq-eqb}
use Rattle.std.proofs.lemmas.Int.{ints}
use Rattle.std.proofs.lemmas.List.Elements.{All-cons, All-contains, All-head, All-nil, All-tail, All-weaker}
use Rattle.frac128.specs.Terms.{Terms, int_sum_by}
use Rattle.code_flow_system.specs.declared.claims.FactClaim.{FactClaim}
use Rattle.code_flow_system.specs.Claims.{are_aligned, fact_flaws, is_aligned}
use Rattle.facts_definitions.specs.declared.facts.Facts.{Facts}
use Rattle.facts_limits.specs.Limits.{AreLimited}
use Rattle.path_conditions.specs.Natural.{both_totals}
use Rattle.report_text.specs.declared.entries.CopyLine.{CopyLine}
use Rattle.compile_restrictions.specs.Laws.{StandIn}
use Rattle.compile_restrictions.specs.Told.{AreFactsTold}
use Rattle.compile_restrictions.proofs.Totals.{told_light}
use Rattle.compile_bound_law.proofs.Lines.{AreAligned}

-- aligned addresses are no flaws

abbrev Fine : Bool → Type 0
Fine flaw = flaw ≡ false

module _ (lines : List CopyLine) (aligned : All AreAligned lines) where
  abbrev Stands : ℕ × ℤ → Type 0
  Stands u = (line : CopyLine) × Contains lines line × Contains line.places u.0

  term_aligned : (u : ℕ × ℤ) → Stands u → is_aligned u.0 ≡ true
  term_aligned u h = eq-eqb (u.0 % 4) 0 (All-contains (λ a. a % 4 ≡ 0) h.0.places u.0 (All-contains AreAligned lines h.0 aligned h.1) h.2)

  side_aligned : (ts : Terms) → All Stands ts → are_aligned ts ≡ true
  side_aligned [] h = refl
  side_aligned (t ∷ ts) h = and_from (is_aligned t.0) (are_aligned ts) (term_aligned t (All-head Stands t ts h)) (side_aligned ts (All-tail Stands t ts h))

  pub facts_fine : (cs : List FactClaim) → All (StandIn lines) cs → All Fine (fact_flaws cs)
  facts_fine [] h = All-nil Fine
  facts_fine (c ∷ cs) h =
      let here = All-head (StandIn lines) c cs h in
      All-cons Fine (not (are_aligned c.left && are_aligned c.right)) (fact_flaws cs)
      (ap not (and_from (are_aligned c.left) (are_aligned c.right) (side_aligned c.left here.left) (side_aligned c.right here.right)))
      (facts_fine cs (All-tail (StandIn lines) c cs h))

-- sides of restrictions over lines that come to at most 2^40

pub facts_light : (facts : Facts) (lines : List CopyLine) (cs : List FactClaim) (n : ℕ → ℤ) → AreLimited facts → AreFactsTold facts lines cs → facts.most < 2 ^ 40 → All (λ (c : CopyLine). int_sum_by n c.places ≤ℤ pos facts.most) lines
    → All (λ (f : FactClaim). both_totals f n ≤ℤ pos (2 ^ 66)) cs
facts_light facts lines cs n limited told small each =
    All-weaker (λ (f : FactClaim). both_totals f n ≤ℤ pos (64000000 * facts.most)) (λ (f : FactClaim). both_totals f n ≤ℤ pos (2 ^ 66)) (λ f h. below (both_totals f n) (64000000 * facts.most) h (omega (arith, small)))
    cs (told_light facts lines n facts.most each cs limited told)
  where
    below : (x : ℤ) (a : ℕ) → x ≤ℤ pos a → a ≤ 2 ^ 66 → x ≤ℤ pos (2 ^ 66)
    below x a h k = omega (arith, ints)
