-- Walks at narrow multipliers: their numbers fit, and they find a best flow and a certificate.
use Rattle.std.proofs.Common.{◌≡◌, ℕ, ◌*◌, ◌/◌, ◌≤◌, ◌<◌, ◌^◌, ℤ, pos, neg_ℤ, ◌≤ℤ◌, ◌<ℤ◌, arith, refl, sym, subst, List, length, All, Bool, true, false}
use Rattle.std.specs.Prelude.{nat_le}
use lib.IntN.{negsuc}
use Rattle.std.proofs.Math.Nat.{le-div_iff_mul-le}
use Rattle.std.proofs.lemmas.Int.{ints}
use Rattle.std.proofs.lemmas.Bool.Decides.{nat_tests}
use Rattle.std.proofs.lemmas.List.Elements.{All-weaker}
use Rattle.rv_core.specs.Table.{Table}
use Rattle.code_flow_system.specs.declared.shapes.LoopShape.{LoopShape}
use Rattle.code_flow_system.specs.declared.shapes.Span.{Span}
use Rattle.code_flow_system.specs.Systems.{System}
use Rattle.code_flow_system.specs.Certificates.{whole_part, IsInForm, Accepts}
use Rattle.path_cert.specs.Ranges.{HasRanges}
use Rattle.path_flows.specs.Flows.{amounts_of}
use Rattle.path_places.specs.Driver.{blank}
use Rattle.path_walks.specs.Sizes.{AllStaySmall}
use Rattle.path_cert.specs.Priced.{fact_prices, fact_certificate, AreMultipliers, fact_most, fact_low}
use Rattle.path_cert.specs.Facts.{fact_numbers, IsFactFlow, HasFactFlow}
use Rattle.path_cert.proofs.PricedLemmas.{facts_accepted}
use Rattle.path_cert.proofs.RangeLemmas.{facts_ranged}
use Rattle.path_cert.proofs.FactLemmas.{facts_bounded, numbers_fit}
use Rattle.path_cert.proofs.FlowLemmas.{flows_best}
use Rattle.path_conditions.specs.Walking.{IsSearchable}
use Rattle.path_fact_columns.specs.Conditions.{AreNarrow}
use Rattle.path_fact_columns.specs.Answers.{worth_at}

pub whole_below : (z : ℤ) (d : ℕ) → 0 < d → z <ℤ pos (d * 2 ^ 60) → whole_part z d < 2 ^ 63
whole_below (negsuc n) d h lt = omega arith
whole_below (pos n) d h lt = by_test (nat_le (2 ^ 60) (n / d)) refl
  where
    by_test : (t : Bool) → nat_le (2 ^ 60) (n / d) ≡ t → n / d < 2 ^ 63
    by_test true e =
        let x : 2 ^ 60 ≤ n / d = grind (arith, nat_tests) in
        let k = (le-div_iff_mul-le h).0 x in
        let l : n < d * 2 ^ 60 = omega (arith, ints) in absurd (omega (arith, k, l))
    by_test false e = let x : n / d < 2 ^ 60 = grind (arith, nat_tests) in omega (arith, x)

above : (k : ℕ) (z : ℤ) → pos 0 ≤ℤ z → neg_ℤ (pos k) ≤ℤ z
above k z h = omega (arith, ints)

low_negative : (k : ℕ) → neg_ℤ (pos k) ≤ℤ pos 0
low_negative k = omega (arith, ints)

module _ (t : Table) (s : System) (ls : List LoopShape) (ps : List Span) (is : IsSearchable t s ls ps) (scale : ℕ) (ys : List ℤ) (narrow : AreNarrow s scale ys) where
  pub numbers_narrow : 3 * fact_numbers (length s.claims.loops) (fact_most scale ys) < 2 ^ 120
  numbers_narrow = numbers_fit (length s.claims.loops) scale ys (let l = is.limited.limited.few in omega (arith, l)) narrow.scaled narrow.facts (let f = is.few in let c = narrow.count in omega (arith, f, c))

  pub flow_there : HasFactFlow t s ls ps scale ys
  flow_there = flows_best t s ls ps is.limited is.fetches is.backs scale ys numbers_narrow

  -- where the worth isn't negative
  pub answer_there : pos 0 ≤ℤ worth_at t s ls ps scale ys → IsFactFlow s ls ps (fact_prices t s scale ys (fact_low scale ys))
  answer_there h = flow_there.flow (above (fact_most scale ys) (worth_at t s ls ps scale ys) h)

  pub ranges_there : 0 < scale → worth_at t s ls ps scale ys <ℤ pos (scale * 2 ^ 60) → HasRanges t s (fact_certificate t s ls ps scale ys (fact_low scale ys))
  ranges_there some lt =
      let b = facts_bounded t s ls ps is.limited scale ys in
      facts_ranged t s ls ps scale ys (fact_low scale ys) (pos (fact_most scale ys)) (2 ^ 32) (fact_numbers (length s.claims.loops) (fact_most scale ys)) b.bounded b.enough numbers_narrow (whole_below (worth_at t s ls ps scale ys) scale some lt)

  pub accepted_there : 0 < scale → worth_at t s ls ps scale ys <ℤ pos (scale * 2 ^ 60) → AreMultipliers s scale ys → IsInForm s.claims (fact_certificate t s ls ps scale ys (fact_low scale ys)) × Accepts t s (fact_certificate t s ls ps scale ys (fact_low scale ys))
  accepted_there some lt are = facts_accepted t s ls ps is.limited.limited.whole scale ys (fact_low scale ys) (low_negative (4 * fact_most scale ys)) are (ranges_there some lt)

  -- with the worth of a block by its number
  pub walks_small : (low : ℤ) → low ≡ fact_low scale ys → AllStaySmall s ls (fact_prices t s scale ys low) (blank (length s.moves) low) ps
  walks_small low e = subst (λ (z : ℤ). AllStaySmall s ls (fact_prices t s scale ys z) (blank (length s.moves) z) ps) (sym e) flow_there.walks

  pub amounts_small : pos 0 ≤ℤ worth_at t s ls ps scale ys → (low : ℤ) → low ≡ fact_low scale ys → All (λ u. u < 2 ^ 127) (amounts_of s ls ps (fact_prices t s scale ys low))
  amounts_small h low e =
      subst (λ (z : ℤ). All (λ u. u < 2 ^ 127) (amounts_of s ls ps (fact_prices t s scale ys z))) (sym e)
      (All-weaker (λ u. u < 2 ^ 60) (λ u. u < 2 ^ 127) (λ u k. omega (arith, k)) (amounts_of s ls ps (fact_prices t s scale ys (fact_low scale ys))) (answer_there h).amounts)
