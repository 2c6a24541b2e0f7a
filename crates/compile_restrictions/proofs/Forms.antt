-- Claims on restrictions have the form of a report's facts, and stand at addresses of the copy lines.
use Rattle.std.proofs.Common.{◌≡◌, ◌≢◌, ℕ, zero, suc, ◌+◌, ◌*◌, ◌^◌, ◌≤◌, ◌<◌, ℤ, pos, ◌+ℤ◌, ◌≤ℤ◌, ◌<ℤ◌, Bool, true, false, nat_lt, List, [], ◌∷◌, length, map, take, drop, get_or, refl, sym, ap, ◌∙◌, subst, arith, inl, inr, All, Contains}
use Rattle.std.specs.Prelude.{if◌then◌else◌}
use Rattle.std.specs.List.{flat_map}
use Rattle.std.proofs.lemmas.Int.{ints}
use Rattle.std.proofs.lemmas.List.{map-append}
use Rattle.std.proofs.lemmas.List.Concat.{length-flat_map}
use Rattle.std.proofs.lemmas.List.Elements.{All-contains_itself, All-cons, All-drop, All-from_get_or, All-head, All-map, All-nil, All-tail, All-take, All-weaker, Contains-append_left, Contains-append_right}
use Rattle.frac128.specs.Terms.{Terms, coefficient}
use Rattle.frac128.specs.Sum.{IsSum, address_at}
use Rattle.frac128.proofs.TermsLemmas.{coefficient-append}
use Rattle.code_flow_system.specs.declared.claims.FactClaim.{FactClaim}
use Rattle.code_flow_system.specs.Claims.{AreSums}
use Rattle.facts_definitions.specs.declared.facts.Facts.{Facts}
use Rattle.facts_definitions.specs.declared.facts.Restriction.{Restriction}
use Rattle.facts_definitions.specs.declared.facts.Term.{Term}
use Rattle.flow_facts.specs.Translating.{as_term, index_in, places_of, sum_places, term_places, terms_places}
use Rattle.flow_facts.specs.declared.places.Places.{Places}
use Rattle.facts_limits.specs.Limits.{IsCountedTerm, IsLimited}
use Rattle.path_conditions.specs.Natural.{AreNatural, IsNaturalFact}
use Rattle.promise_report.specs.Facts.{AreFactLines, IsFactLine, places_by, places_in}
use Rattle.report_text.specs.declared.entries.CopyLine.{CopyLine}
use Rattle.report_text.specs.Forms.{Ascend, IsFact, IsTerm}
use Rattle.compile_restrictions.specs.Told.{AreAscending, places_many}
use Rattle.compile_restrictions.specs.Laws.{AreLow, StandIn, ToldAreClaims}
use Rattle.compile_restrictions.proofs.Sums.{IsSum-among, IsUpTo, coefficient-own, each, each-contains, each-up_to, is_zero}

-- the places of a name are those of a line, or none

held_or : {X : Type 0} (P : X → Type 0) (xs : List X) (k : ℕ) (d : X) → P d → All P xs → P (get_or xs k d)
held_or P [] k d here h = here
held_or P (x ∷ xs) zero d here h = All-head P x xs h
held_or P (x ∷ xs) (suc k) d here h = held_or P xs k d here (All-tail P x xs h)

module _ (P : List ℕ → Type 0) (facts : Facts) (lines : List CopyLine) (none : P []) (all : All (λ (c : CopyLine). P c.places) lines) where
  places_in_held : (cs : List CopyLine) (k : ℕ) → All (λ (c : CopyLine). P c.places) cs → P (get_or (places_in cs) k [])
  places_in_held cs k h = held_or P (places_in cs) k [] none (All-map P (λ (c : CopyLine). c.places) cs h)

  pub places_held : (id : ℕ) → P (places_of facts (places_by facts lines) id)
  places_held id = choose (nat_lt (index_in facts.functions id) (length facts.functions))
    where
      choose : (b : Bool) → P (if b then get_or (places_in (take (length facts.functions) lines)) (index_in facts.functions id) [] else get_or (places_in (drop (length facts.functions) lines)) (index_in facts.markers id) [])
      choose true = places_in_held (take (length facts.functions) lines) (index_in facts.functions id) (All-take (λ (c : CopyLine). P c.places) (length facts.functions) lines all)
      choose false = places_in_held (drop (length facts.functions) lines) (index_in facts.markers id) (All-drop (λ (c : CopyLine). P c.places) (length facts.functions) lines all)

-- an address of a line
abbrev pub StandsIn : List CopyLine → ℕ → Type 0
StandsIn lines a = (line : CopyLine) × Contains lines line × Contains line.places a

pub places_stand : (facts : Facts) (lines : List CopyLine) (id a : ℕ) → Contains (places_of facts (places_by facts lines) id) a → StandsIn lines a
places_stand facts lines id =
    places_held (λ ps. (a : ℕ) → Contains ps a → StandsIn lines a) facts lines (λ a h. absurd (omega (arith, h.1)))
    (All-weaker (Contains lines) (λ (c : CopyLine). (a : ℕ) → Contains c.places a → StandsIn lines a) (λ c there a h. (c, there, h)) lines (All-contains_itself lines)) id

-- all addresses of the lines

abbrev addresses : List CopyLine → List ℕ
addresses lines = flat_map (λ (c : CopyLine). c.places) lines

inside : (lines : List CopyLine) (line : CopyLine) (a : ℕ) → Contains lines line → Contains line.places a → Contains (addresses lines) a
inside [] line a (k, lt, e) here = absurd (omega (arith, lt))
inside (c ∷ cs) line a (zero, lt, e) here = Contains-append_left c.places (addresses cs) a (subst (λ (l : CopyLine). Contains l.places a) (sym e) here)
inside (c ∷ cs) line a (suc k, lt, e) here = Contains-append_right c.places (addresses cs) a (inside cs line a (k, omega (arith, lt), e) here)

-- the sum of the places of names

module _ (facts : Facts) (places : Places) where
  sum_step : (t : Term) (ts : List Term) (q : ℕ) → coefficient (sum_places facts places (t ∷ ts)) q ≡ coefficient (each t.coef (places_of facts places t.name.0)) q +ℤ coefficient (sum_places facts places ts) q
  sum_step t ts q =
      ap (λ us. coefficient us q) (map-append as_term (term_places facts places t) (terms_places facts places ts))
      ∙ coefficient-append (map as_term (term_places facts places t)) (sum_places facts places ts) q
      ∙ ap (λ us. coefficient us q +ℤ coefficient (sum_places facts places ts) q) (as_each (places_of facts places t.name.0))
    where
      as_each : (ps : List ℕ) → map as_term (map (λ p. (p, t.coef)) ps) ≡ each t.coef ps
      as_each [] = refl
      as_each (p ∷ ps) = ap (λ us. (p, pos t.coef) ∷ us) (as_each ps)

  sum-up_to : ((id : ℕ) → Ascend (places_of facts places id)) → (ts : List Term) (q : ℕ) → All (IsCountedTerm facts) ts → IsUpTo (coefficient (sum_places facts places ts) q) (1000000 * length ts)
  sum-up_to up [] q small = record { least = omega (arith, ints); below = omega (arith, ints) }
  sum-up_to up (t ∷ ts) q small =
      let e = sum_step t ts q in
      let one = each-up_to t.coef q (places_of facts places t.name.0) (up t.name.0) in
      let rest = sum-up_to up ts q (All-tail (IsCountedTerm facts) t ts small) in
      let low = (All-head (IsCountedTerm facts) t ts small).small in
      record { least = omega (arith, ints, e, one.least, rest.least); below = omega (arith, ints, e, one.below, rest.below, low) }

  sum-contains : (ts : List Term) (q : ℕ) → coefficient (sum_places facts places ts) q ≢ pos 0 → (id : ℕ) × Contains (places_of facts places id) q
  sum-contains [] q some = absurd (some refl)
  sum-contains (t ∷ ts) q some = elim (is_zero (coefficient (each t.coef (places_of facts places t.name.0)) q)) [
    | inl none ↦ sum-contains ts q (λ zero. some (omega (arith, ints, sum_step t ts q, none, zero)))
    | inr one ↦ (t.name.0, each-contains t.coef q (places_of facts places t.name.0) one)
  ]

-- one side

record IsSide (lines : List CopyLine) (ts : Terms) : Type 0 where
  form : All IsTerm ts
  natural : AreNatural ts
  low : AreLow ts
  standing : All (λ u. StandsIn lines u.0) ts
  short : length ts ≤ places_many lines

module _ (facts : Facts) (lines : List CopyLine) (up : AreAscending lines) where
  side : (terms : List Term) (ts : Terms) → length terms ≤ 64 → All (IsCountedTerm facts) terms → IsSum ts → ((a : ℕ) → coefficient ts a ≡ coefficient (sum_places facts (places_by facts lines) terms) a) → IsSide lines ts
  side terms ts few small sum same =
      let places = places_by facts lines in
      let own : (k : ℕ) → k < length ts → coefficient (sum_places facts places terms) (address_at ts k) ≡ (get_or ts k (0, pos 0)).1 = λ k lt. sym (same (address_at ts k)) ∙ coefficient-own ts k sum lt in
      let sized : (k : ℕ) → k < length ts → IsUpTo (get_or ts k (0, pos 0)).1 (1000000 * length terms) = λ k lt. subst (λ z. IsUpTo z (1000000 * length terms)) (own k lt) (sum-up_to facts places (places_held Ascend facts lines tt up) terms (address_at ts k) small) in
      let some : (k : ℕ) → k < length ts → (get_or ts k (0, pos 0)).1 ≢ pos 0 = λ k lt. sum.no_zero k (0, pos 0) lt in
      let stands : (k : ℕ) → k < length ts → StandsIn lines (address_at ts k) = λ k lt. let found = sum-contains facts places terms (address_at ts k) (λ zero. some k lt (sym (own k lt) ∙ zero)) in places_stand facts lines found.0 (address_at ts k) found.1 in
      record {
        form = All-from_get_or IsTerm ts (0, pos 0) (λ k lt. is_term (get_or ts k (0, pos 0)).1 (length terms) (sized k lt) (some k lt) few);
        natural = All-from_get_or (λ u. pos 0 ≤ℤ u.1) ts (0, pos 0) (λ k lt. (sized k lt).least);
        low = All-from_get_or (λ u. u.1 ≤ℤ pos 64000000) ts (0, pos 0) (λ k lt. is_low (get_or ts k (0, pos 0)).1 (length terms) (sized k lt) few);
        standing = All-from_get_or (λ u. StandsIn lines u.0) ts (0, pos 0) stands;
        short = subst (λ n. length ts ≤ n) (length-flat_map (λ (c : CopyLine). c.places) lines) (IsSum-among ts (addresses lines) sum (λ k lt. let s = stands k lt in inside lines s.0 (address_at ts k) s.1 s.2));
      }
    where
      is_term : (z : ℤ) (n : ℕ) → IsUpTo z (1000000 * n) → z ≢ pos 0 → n ≤ 64 → (pos 0 <ℤ z) × (z <ℤ pos (2 ^ 32))
      is_term z n h some few = (omega (arith, ints, h.least, some), omega (arith, ints, h.below, few))

      is_low : (z : ℤ) (n : ℕ) → IsUpTo z (1000000 * n) → n ≤ 64 → z ≤ℤ pos 64000000
      is_low z n h few = omega (arith, ints, h.below, few)

  -- one claim

  record IsClaim (c : FactClaim) : Type 0 where
    form : IsFact c
    natural : IsNaturalFact c
    low : AreLow c.left × AreLow c.right
    standing : StandIn lines c
    short : (length c.left ≤ places_many lines) × (length c.right ≤ places_many lines)

  claim : (r : Restriction) (c : FactClaim) → IsLimited facts r → IsFactLine facts (places_by facts lines) r c → AreSums c → IsClaim c
  claim r c limited line sums =
      let left = side r.left c.left (omega (arith, limited.few)) limited.left sums.left line.left in
      let right = side r.right c.right (omega (arith, limited.few)) limited.right sums.right line.right in
      record {
        form = record { left = left.form; right = right.form };
        natural = (left.natural, right.natural);
        low = (left.low, right.low);
        standing = record { left = left.standing; right = right.standing };
        short = (left.short, right.short);
      }

  claims : (rs : List Restriction) (cs : List FactClaim) → All (IsLimited facts) rs → AreFactLines facts (places_by facts lines) rs cs → All AreSums cs → (length cs ≡ length rs) × All IsClaim cs
  claims [] [] limited told sums = (refl, All-nil IsClaim)
  claims [] (c ∷ cs) limited told sums = absurd told
  claims (r ∷ rs) [] limited told sums = absurd told
  claims (r ∷ rs) (c ∷ cs) limited told sums =
      let rest = claims rs cs (All-tail (IsLimited facts) r rs limited) told.1 (All-tail AreSums c cs sums) in
      (ap suc rest.0, All-cons IsClaim c cs (claim r c (All-head (IsLimited facts) r rs limited) told.0 (All-head AreSums c cs sums)) rest.1)

pub told-claims : ToldAreClaims
told-claims facts lines cs limited up told =
    let made = claims facts lines up facts.restrictions cs limited.each told.each told.sums in
    let is = IsClaim facts lines up in
    record {
      count = made.0;
      form = All-weaker is IsFact (λ c h. h.form) cs made.1;
      natural = All-weaker is IsNaturalFact (λ c h. h.natural) cs made.1;
      low = All-weaker is (λ (c : FactClaim). AreLow c.left × AreLow c.right) (λ c h. h.low) cs made.1;
      standing = All-weaker is (StandIn lines) (λ c h. h.standing) cs made.1;
      short = All-weaker is (λ (c : FactClaim). (length c.left ≤ places_many lines) × (length c.right ≤ places_many lines)) (λ c h. h.short) cs made.1;
    }
