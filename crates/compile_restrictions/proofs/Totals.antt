-- What the sides of restrictions come to, over the addresses of copy lines.
use Rattle.std.proofs.Common.{◌≡◌, ℕ, suc, ◌+◌, ◌*◌, ◌≤◌, ℤ, pos, ◌+ℤ◌, ◌*ℤ◌, ◌≤ℤ◌, arith, refl, sym, ap, ap₂, ◌∙◌, List, [], ◌∷◌, length, map, All, add-mul, suc-mul, mul-le-mul_right}
use lib.IntN.{*ℤ-zero}
use Rattle.std.proofs.lemmas.Int.{ints}
use Rattle.std.proofs.lemmas.List.{map-append}
use Rattle.std.proofs.lemmas.List.Elements.{All-cons, All-head, All-nil, All-tail}
use Rattle.frac128.specs.Terms.{applied, int_sum_by}
use Rattle.frac128.proofs.SignedLemmas.{mul-add, mul-le}
use Rattle.frac128.proofs.TermsLemmas.{applied-append, applied-from_coefficients}
use Rattle.code_flow_system.specs.declared.claims.FactClaim.{FactClaim}
use Rattle.facts_definitions.specs.declared.facts.Facts.{Facts}
use Rattle.facts_definitions.specs.declared.facts.Restriction.{Restriction}
use Rattle.facts_definitions.specs.declared.facts.Term.{Term}
use Rattle.flow_facts.specs.Translating.{as_term, places_of, sum_places, term_places, terms_places}
use Rattle.flow_facts.specs.declared.places.Places.{Places}
use Rattle.promise_report.specs.Facts.{AreFactLines, IsFactLine, places_by}
use Rattle.report_text.specs.declared.entries.CopyLine.{CopyLine}
use Rattle.facts_limits.specs.Limits.{AreLimited, IsCountedTerm, IsLimited}
use Rattle.path_conditions.specs.Natural.{both_totals}
use Rattle.compile_restrictions.specs.Told.{AreFactsTold}
use Rattle.compile_restrictions.proofs.Forms.{places_held}

module _ (facts : Facts) (places : Places) (n : ℕ → ℤ) where
  -- a term is as often what the addresses of its name come to
  abbrev pub term_total : Term → ℤ
  term_total t = pos t.coef *ℤ int_sum_by n (places_of facts places t.name.0)

  applied-places : (coef : ℕ) (ps : List ℕ) → applied (map as_term (map (λ place. (place, coef)) ps)) n ≡ pos coef *ℤ int_sum_by n ps
  applied-places coef [] = sym (*ℤ-zero (pos coef))
  applied-places coef (p ∷ ps) = let r = applied-places coef ps in let e = mul-add (pos coef) (n p) (int_sum_by n ps) in omega (arith, ints)

  applied-sum : (ts : List Term) → applied (sum_places facts places ts) n ≡ int_sum_by term_total ts
  applied-sum [] = refl
  applied-sum (t ∷ ts) =
      ap (λ us. applied us n) (map-append as_term (term_places facts places t) (terms_places facts places ts))
      ∙ applied-append (map as_term (term_places facts places t)) (sum_places facts places ts) n
      ∙ ap₂ (λ x y. x +ℤ y) (applied-places t.coef (places_of facts places t.name.0)) (applied-sum ts)

  -- a side of a claim comes to what its terms do
  pub left_total : (r : Restriction) (c : FactClaim) → IsFactLine facts places r c → applied c.left n ≡ int_sum_by term_total r.left
  left_total r c h = applied-from_coefficients c.left (sum_places facts places r.left) n h.left ∙ applied-sum r.left

  pub right_total : (r : Restriction) (c : FactClaim) → IsFactLine facts places r c → applied c.right n ≡ int_sum_by term_total r.right
  right_total r c h = applied-from_coefficients c.right (sum_places facts places r.right) n h.right ∙ applied-sum r.right

-- where the addresses of each line come to little
module _ (facts : Facts) (lines : List CopyLine) (n : ℕ → ℤ) (most : ℕ) (each : All (λ (c : CopyLine). int_sum_by n c.places ≤ℤ pos most) lines) where
  abbrev places : Places
  places = places_by facts lines

  abbrev IsFew : List ℕ → Type 0
  IsFew ps = int_sum_by n ps ≤ℤ pos most

  nothing_few : IsFew []
  nothing_few = omega (arith, ints)

  name_few : (id : ℕ) → IsFew (places_of facts places id)
  name_few id = places_held IsFew facts lines nothing_few each id

  product_few : (k : ℕ) (z : ℤ) → k ≤ 1000000 → z ≤ℤ pos most → (pos k *ℤ z) ≤ℤ pos (1000000 * most)
  product_few k z few h =
      let e = mul-le k z (pos most) h in
      let f : k * most ≤ 1000000 * most = mul-le-mul_right most few in
      let g : pos (k * most) ≤ℤ pos (1000000 * most) = over (k * most) (1000000 * most) f in omega (arith, ints, e, g)
    where
      over : (a b : ℕ) → a ≤ b → pos a ≤ℤ pos b
      over a b h = omega (arith, ints)

  side_few : (ts : List Term) → All (IsCountedTerm facts) ts → int_sum_by (term_total facts places n) ts ≤ℤ pos (length ts * (1000000 * most))
  side_few [] all = omega (arith, ints)
  side_few (t ∷ ts) all =
      let one = product_few t.coef (int_sum_by n (places_of facts places t.name.0)) (All-head (IsCountedTerm facts) t ts all).small (name_few t.name.0) in
      let rest = side_few ts (All-tail (IsCountedTerm facts) t ts all) in
      let e : suc (length ts) * (1000000 * most) ≡ length ts * (1000000 * most) + 1000000 * most = suc-mul (length ts) (1000000 * most) in
      added (term_total facts places n t) (int_sum_by (term_total facts places n) ts) (1000000 * most) (length ts * (1000000 * most)) (suc (length ts) * (1000000 * most)) one rest e
    where
      added : (x y : ℤ) (a b c : ℕ) → x ≤ℤ pos a → y ≤ℤ pos b → c ≡ b + a → (x +ℤ y) ≤ℤ pos c
      added x y a b c h k e = omega (arith, ints)

  abbrev IsLight : FactClaim → Type 0
  IsLight f = both_totals f n ≤ℤ pos (64000000 * most)

  both_few : (r : Restriction) (c : FactClaim) → IsLimited facts r → IsFactLine facts places r c → IsLight c
  both_few r c limited h =
      let x = left_total facts places n r c h in
      let y = right_total facts places n r c h in
      let a = side_few r.left limited.left in
      let b = side_few r.right limited.right in
      let unit = 1000000 * most in
      let e : (length r.left + length r.right) * unit ≡ length r.left * unit + length r.right * unit = add-mul (length r.left) (length r.right) unit in
      let f : (length r.left + length r.right) * unit ≤ 64 * unit = mul-le-mul_right unit limited.few in
      added (applied c.left n) (applied c.right n) _ _ (length r.left * unit) (length r.right * unit) x y a b (omega (arith, e, f))
    where
      added : (x y v w : ℤ) (a b : ℕ) → x ≡ v → y ≡ w → v ≤ℤ pos a → w ≤ℤ pos b → a + b ≤ 64000000 * most → (x +ℤ y) ≤ℤ pos (64000000 * most)
      added x y v w a b e f h k all = omega (arith, ints)

  all_few : (rs : List Restriction) (cs : List FactClaim) → All (IsLimited facts) rs → AreFactLines facts places rs cs → All IsLight cs
  all_few [] [] limited h = All-nil IsLight
  all_few [] (c ∷ cs) limited h = absurd h
  all_few (r ∷ rs) [] limited h = absurd h
  all_few (r ∷ rs) (c ∷ cs) limited h = All-cons IsLight c cs (both_few r c (All-head (IsLimited facts) r rs limited) h.0) (all_few rs cs (All-tail (IsLimited facts) r rs limited) h.1)

  pub told_light : (claims : List FactClaim) → AreLimited facts → AreFactsTold facts lines claims → All IsLight claims
  told_light claims limited told = all_few facts.restrictions claims limited.each told.each
