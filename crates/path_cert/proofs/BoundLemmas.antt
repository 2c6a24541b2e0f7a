-- The ranges of the certificate of the walks, by the values of loose flows.
use Rattle.std.proofs.Common.{◌≡◌, ℕ, zero, suc, ◌+◌, ◌/◌, ◌^◌, ◌<◌, ℤ, pos, neg_ℤ, ◌*ℤ◌, ◌≤ℤ◌, ◌<ℤ◌, arith, refl, sym, ap, ◌∙◌, subst, List, [], ◌∷◌, Contains, All, Bool, true, false, cond}
use lib.IntN.{negsuc}
use Rattle.std.specs.Prelude.{◌==◌, unsigned_abs}
use Rattle.std.specs.Int.RustNames.{int_lt}
use Rattle.std.proofs.lemmas.Int.{ints}
use Rattle.std.proofs.lemmas.Bool.Decides.{nat_tests}
use Rattle.std.proofs.lemmas.List.Elements.{All-contains, All-cons, All-nil}
use Rattle.frac128.specs.Terms.{coefficient}
use Rattle.rv_core.specs.Table.{Table}
use Rattle.code_flow_system.specs.declared.cert.Cert.{Cert}
use Rattle.code_flow_system.specs.declared.cert.Mark.{Mark}
use Rattle.code_flow_system.specs.declared.cert.Mark.TheVariants.{Greatest, Empty}
use Rattle.code_flow_system.specs.declared.moves.Move.{Move}
use Rattle.code_flow_system.specs.declared.shapes.LoopShape.{LoopShape}
use Rattle.code_flow_system.specs.declared.shapes.Span.{Span}
use Rattle.code_flow_system.specs.Moves.{destinations}
use Rattle.code_flow_system.specs.Systems.{System}
use Rattle.code_flow_system.specs.Counts.{Amounts, amount, count, inflow}
use Rattle.code_flow_system.specs.Flows.{IsFlow, price, value}
use Rattle.code_flow_system.specs.Loose.{IsLoose}
use Rattle.code_flow_system.specs.Certificates.{limits, row_size, size_by, scaled_price, potential, whole_part, IsNarrow, IsSmall, listed, Accepts, IsInForm}
use Rattle.code_flow_system.proofs.LooseLemmas.{flows_are_loose, goes_back}
use Rattle.path_places.specs.PlaceLaws.{IsReachedWhole}
use Rattle.path_places.specs.Duals.{values_of, dual_of}
use Rattle.path_places.proofs.PotentialLemmas.{all_of}
use Rattle.path_flows.specs.Flows.{amounts_of, parts_of}
use Rattle.path_flows.proofs.SumLemmas.{sum_if, begins_at, AreAmounts, amounts_below, one_unit}
use Rattle.path_flows.proofs.ConservedLemmas.{listed_amounts}
use Rattle.path_flows.specs.CountLaws.{HasBounds, IsOpenSystem}
use Rattle.path_flows.proofs.KeepLemmas.{all_keep, goes, counted}
use Rattle.path_cert.proofs.MoveLemmas.{all_reached}
use Rattle.path_cert.specs.Certificates.{entry_worth, mark_of, certificate_with, costs_of, certificate_of}
use Rattle.path_cert.specs.Ranges.{HasRanges}
use Rattle.path_cert.specs.Accepted.{HasFlowRanges, IsOpenFlow}
use Rattle.path_cert.proofs.CertLemmas.{limits_same, price_same, below_zero, all_accepted}
use Rattle.path_ranges.specs.Limits.{IsLoopWithin}
use Rattle.path_ranges.proofs.NarrowLemmas.{counts_below, narrow_limits}
use Rattle.path_sizes.specs.CostRanges.{HasRanges as HasNumbers}
use Rattle.path_sizes.proofs.RangeLemmas.{all_map, costs_ranged}
use Rattle.path_cert.specs.BoundLaws.{IsBoundable, BoundsAreGreatest}

-- no loose flow has a value, a count or an amount of 2^60 units or more
abbrev pub LooseBelow : Table → System → Type 0
LooseBelow t s = (unit : ℕ) (x : Amounts) → IsLoose s unit x →
    (value t s x <ℤ (pos unit *ℤ pos (2 ^ 60))) × ((a : ℕ) → count x s.moves a <ℤ (pos unit *ℤ pos (2 ^ 60))) × ((m : Move) → Contains s.moves m → amount x m <ℤ (pos unit *ℤ pos (2 ^ 60)))

-- ---- sizes

size_below : (z : ℤ) (k : ℕ) → pos 0 ≤ℤ z → z <ℤ pos k → unsigned_abs z < k
size_below (pos n) k h lt = omega (arith, ints)
size_below (negsuc n) k h lt = absurd (omega (arith, ints))

narrow_pair : (a b : ℤ) (k : ℕ) → pos 0 ≤ℤ a → a <ℤ pos k → b ≡ a → unsigned_abs a + unsigned_abs b < k + k
narrow_pair a b k h lt e = let x = size_below a k h lt in let y = ap unsigned_abs e in omega (arith, x, y)

-- the whole part of a worth below 2^60 over 1, or of a negative one
whole_below : (z : ℤ) → z <ℤ pos (2 ^ 60) → whole_part z 1 < 2 ^ 63
whole_below (pos n) lt = let a : n < 2 ^ 60 = omega (arith, ints) in let b = one_part n in omega (arith, a, b)
  where
    one_part : (n : ℕ) → n / 1 ≡ n
    one_part n = omega arith
whole_below (negsuc n) lt = omega arith

module _ (t : Table) (s : System) (ls : List LoopShape) (ps : List Span) (is : IsBoundable t s ls ps) where
  whole : IsReachedWhole s ls ps
  whole = is.limited.whole

  numbers : HasNumbers t s ls ps
  numbers = costs_ranged t s ls ps is.limited

  pub kept_bounds : All HasBounds s.claims.loops
  kept_bounds = all_map IsLoopWithin HasBounds s.claims.loops (λ c k. k.0) is.limited.loops

  pub loose_below : LooseBelow t s
  loose_below unit x l = let b = counts_below t s is.fetches whole.system (2 ^ 60) is.limited.values unit x l in (is.limited.values unit x l, b.0, b.1)

  abbrev cert : Mark → Cert
  cert m = certificate_with m s (costs_of t s) (values_of s ls ps (costs_of t s)) (amounts_of s ls ps (costs_of t s))

  abbrev x : Amounts
  x = listed (parts_of s.moves (amounts_of s ls ps (costs_of t s)))

  abbrev z : ℤ
  z = entry_worth s (values_of s ls ps (costs_of t s))

  open_system : pos 0 ≤ℤ z → IsOpenSystem s ls ps (costs_of t s) (neg_ℤ (pos (2 ^ 60)))
  open_system h = record {
    negative = below_zero (2 ^ 62);
    code = numbers.opens;
    entry = (let b = below_zero (2 ^ 60) in later (neg_ℤ (pos (2 ^ 60))) z b h);
    bounds = kept_bounds;
    backs = is.backs;
    facts = is.facts;
  }
    where
      later : (a b : ℤ) → a ≤ℤ pos 0 → pos 0 ≤ℤ b → a ≤ℤ b
      later a b h k = omega (arith, ints)

  loose : pos 0 ≤ℤ z → IsLoose s 1 x
  loose h = flows_are_loose s (goes_back s s.claims.loops ls whole.fits.shapes whole.fits.loops) 1 x (all_keep s ls ps whole (costs_of t s) (neg_ℤ (pos (2 ^ 60))) (open_system h))

  reached : pos 0 ≤ℤ z → value t s x ≡ z
  reached h = all_reached s ls ps whole (costs_of t s) (neg_ℤ (pos (2 ^ 60))) (open_system h)

  -- the entry's worth is that of a flow, or negative
  pub worth_below : z <ℤ pos (2 ^ 60)
  worth_below = by_sign (int_lt z (pos 0)) refl
    where
      small : pos 0 ≤ℤ z → z <ℤ pos (2 ^ 60)
      small h = subst (λ (y : ℤ). y <ℤ pos (2 ^ 60)) (reached h) (one_unit (value t s x) (2 ^ 60) (loose_below 1 x (loose h)).0)

      below : (y : ℤ) (k : ℕ) → int_lt y (pos 0) ≡ true → y <ℤ pos k
      below y k e = let n : y <ℤ pos 0 = grind (arith, ints, nat_tests) in omega (arith, ints)

      by_sign : (b : Bool) → int_lt z (pos 0) ≡ b → z <ℤ pos (2 ^ 60)
      by_sign true e = below z (2 ^ 60) e
      by_sign false e = small (at_least z e)
        where
          at_least : (y : ℤ) → int_lt y (pos 0) ≡ false → pos 0 ≤ℤ y
          at_least y e = grind (arith, ints, nat_tests)

  row_same : (m : Mark) (k : Move) → row_size (scaled_price t s (cert m)) (potential (cert m)) (limits s.claims (cert m)) k ≡ row_size (price t s) (potential (cert m)) (dual_of s (price t s) (values_of s ls ps (costs_of t s))).limits k
  row_same m k =
      ap (λ js. row_size (scaled_price t s (cert m)) (potential (cert m)) js k) (limits_same t s ls ps whole is.facts m)
      ∙ ap (λ (y : ℤ). unsigned_abs y + unsigned_abs (potential (cert m) k.at) + size_by (potential (cert m)) (destinations k) + size_by (λ l. l.by *ℤ coefficient l.terms k.at) (dual_of s (price t s) (values_of s ls ps (costs_of t s))).limits) (price_same t s ls ps whole is.facts m k)

  ranges : (m : Mark) → HasRanges t s (cert m)
  ranges m = record {
    cycles = whole_below z worth_below;
    potentials = numbers.values.potentials;
    nevers = numbers.values.nevers;
    loops = numbers.values.loops;
    rows = all_of (λ k. IsNarrow (row_size (scaled_price t s (cert m)) (potential (cert m)) (limits s.claims (cert m)) k)) s.moves
        (λ k ik. subst IsNarrow (sym (row_same m k)) (All-contains (λ k. IsNarrow (row_size (price t s) (potential (cert m)) (dual_of s (price t s) (values_of s ls ps (costs_of t s))).limits k)) s.moves k numbers.values.rows ik));
  }

  -- ---- the listed flow

  parts_small : (ms : List Move) (us : List ℕ) → AreAmounts x ms us → ((m : Move) → Contains ms m → amount x m <ℤ pos (2 ^ 60)) → All (λ p. IsSmall p.part) (parts_of ms us)
  parts_small [] us are h = All-nil (λ p. IsSmall p.part)
  parts_small (m ∷ ms) [] are h = All-nil (λ p. IsSmall p.part)
  parts_small (m ∷ ms) (u ∷ us) are h = with_part (parts_small ms us are.1 (λ k i. h k (suc i.0, omega (arith, i.1), i.2))) (u == 0)
    where
      small : u < 2 ^ 120
      small = let a = h m (zero, omega arith, refl) in let b = are.0 in below a b
        where
          below : pos (x m.at m.number) <ℤ pos (2 ^ 60) → x m.at m.number ≡ u → u < 2 ^ 120
          below a b = let c : x m.at m.number < 2 ^ 60 = omega (arith, ints) in omega (arith, c, b)

      with_part : All (λ p. IsSmall p.part) (parts_of ms us) → (b : Bool) → All (λ p. IsSmall p.part) (cond b (parts_of ms us) (record { at = m.at; number = m.number; part = pos u } ∷ parts_of ms us))
      with_part rest true = rest
      with_part rest false = All-cons (λ p. IsSmall p.part) (record { at = m.at; number = m.number; part = pos u }) (parts_of ms us) small rest

  -- where there is a flow, each of its amounts is a loose one
  pub flow_small : pos 0 ≤ℤ z → All (λ u. u < 2 ^ 60) (amounts_of s ls ps (costs_of t s))
  flow_small h =
      let long = (goes s ls ps whole (costs_of t s) (neg_ℤ (pos (2 ^ 60))) (open_system h)).long_amounts in
      amounts_below x s.moves (amounts_of s ls ps (costs_of t s)) long (listed_amounts s.moves (amounts_of s ls ps (costs_of t s)) long whole.system.ascending) (λ m im. one_unit (amount x m) (2 ^ 60) ((loose_below 1 x (loose h)).2 m im))

  flow_ranges : pos 0 ≤ℤ z → HasFlowRanges t s (cert Greatest)
  flow_ranges h = record {
    parts = parts_small s.moves (amounts_of s ls ps (costs_of t s)) (listed_amounts s.moves (amounts_of s ls ps (costs_of t s)) (goes s ls ps whole (costs_of t s) (neg_ℤ (pos (2 ^ 60))) (open_system h)).long_amounts whole.system.ascending)
        (λ m im. one_unit (amount x m) (2 ^ 60) (below.2 m im));
    balances = λ a. within (narrow_pair (count x s.moves a) (coefficient (inflow s.entry 1 x s.moves) a) (2 ^ 60) (counts a).0 (counts a).1 (sym (flow.conserved a)));
    claims = subst (λ js. All (λ l. IsNarrow (size_by (λ u. u.1 *ℤ count x s.moves u.0) l.terms)) js) (sym (limits_same t s ls ps whole is.facts Greatest)) (narrow_limits s.claims is.short (2 ^ 60) (omega arith) (count x s.moves) counts (cert Greatest).nevers (cert Greatest).loops);
    value = alone (size_below (value t s x) (2 ^ 60) (subst (λ (y : ℤ). pos 0 ≤ℤ y) (sym (reached h)) h) (one_unit (value t s x) (2 ^ 60) below.0));
  }
    where
      flow : IsFlow s 1 (listed (parts_of s.moves (amounts_of s ls ps (costs_of t s))))
      flow = all_keep s ls ps whole (costs_of t s) (neg_ℤ (pos (2 ^ 60))) (open_system h)

      below : (value t s x <ℤ (pos 1 *ℤ pos (2 ^ 60))) × ((a : ℕ) → count x s.moves a <ℤ (pos 1 *ℤ pos (2 ^ 60))) × ((m : Move) → Contains s.moves m → amount x m <ℤ (pos 1 *ℤ pos (2 ^ 60)))
      below = loose_below 1 x (loose h)

      natural : (k : ℕ) → pos 0 ≤ℤ pos k
      natural k = omega (arith, ints)

      counts : (a : ℕ) → (pos 0 ≤ℤ count x s.moves a) × (count x s.moves a <ℤ pos (2 ^ 60))
      counts a = (
        subst (λ (y : ℤ). pos 0 ≤ℤ y) (sym (counted s ls ps whole (costs_of t s) (neg_ℤ (pos (2 ^ 60))) (open_system h) a)) (natural (sum_if (begins_at a) s.moves (amounts_of s ls ps (costs_of t s)))),
        one_unit (count x s.moves a) (2 ^ 60) (below.1 a),
      )

      within : {k : ℕ} → k < 2 ^ 60 + 2 ^ 60 → IsNarrow k
      within lt = omega (arith, lt)

      alone : {k : ℕ} → k < 2 ^ 60 → IsNarrow k
      alone lt = omega (arith, lt)

  -- ---- all

  open_flow : pos 0 ≤ℤ z → IsOpenFlow t s ls ps
  open_flow h = record {
    least = neg_ℤ (pos (2 ^ 60));
    system = open_system h;
    ranges = subst (λ m. HasFlowRanges t s (cert m)) (sym (greatest h)) (flow_ranges h);
  }
    where
      greatest : pos 0 ≤ℤ z → mark_of z ≡ Greatest
      greatest h = by_sign (int_lt z (pos 0)) refl
        where
          by_sign : (b : Bool) → int_lt z (pos 0) ≡ b → cond b Empty Greatest ≡ Greatest
          by_sign true e = absurd (not_below z h e)
            where
              not_below : (y : ℤ) → pos 0 ≤ℤ y → int_lt y (pos 0) ≡ true → ⊥
              not_below y h e = let n : y <ℤ pos 0 = grind (arith, ints, nat_tests) in omega (arith, ints)
          by_sign false e = refl

  greatest_or_none : IsInForm s.claims (certificate_of t s ls ps) × Accepts t s (certificate_of t s ls ps)
  greatest_or_none = all_accepted t s ls ps whole is.facts (ranges (mark_of z)) open_flow

pub all_greatest : (t : Table) (s : System) (ls : List LoopShape) (ps : List Span) → BoundsAreGreatest t s ls ps
all_greatest t s ls ps is = greatest_or_none t s ls ps is
