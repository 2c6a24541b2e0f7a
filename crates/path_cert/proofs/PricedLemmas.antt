-- Prices that pay for facts: their totals, and the certificate of the walks at them.
use Rattle.std.proofs.Common.{◌≡◌, ℕ, ◌*◌, ℤ, pos, ◌+ℤ◌, ◌-ℤ◌, ◌*ℤ◌, ◌≤ℤ◌, arith, refl, sym, ap, List, [], ◌∷◌, ◌++◌, Contains}
use lib.IntN.{*ℤ-zero}
use Rattle.std.proofs.lemmas.Int.{ints}
use Rattle.std.proofs.lemmas.List.Elements.{All-contains, All-nil, All-append}
use Rattle.frac128.specs.Terms.{coefficient, applied}
use Rattle.frac128.proofs.SignedLemmas.{mul-add, mul-sub, mul-mul_swap}
use Rattle.frac128.proofs.TermsLemmas.{int_sum_by-append, applied-append, applied-coefficient}
use Rattle.rv_core.specs.Table.{Table}
use Rattle.code_flow_system.specs.declared.claims.FactClaim.{FactClaim}
use Rattle.code_flow_system.specs.declared.cert.Cert.{Cert}
use Rattle.code_flow_system.specs.declared.moves.Move.{Move}
use Rattle.code_flow_system.specs.declared.shapes.LoopShape.{LoopShape}
use Rattle.code_flow_system.specs.declared.shapes.Span.{Span}
use Rattle.code_flow_system.specs.MoveCosts.{move_cost}
use Rattle.code_flow_system.specs.Systems.{System}
use Rattle.code_flow_system.specs.Counts.{Amounts, amount, departures, count, total}
use Rattle.code_flow_system.specs.Flows.{price}
use Rattle.code_flow_system.specs.Certificates.{Limit, negated, never_limits, loop_limits, fact_limits, limits, IsSigned, held, IsCovered, scaled_price, potential, whole_part, Accepts, IsPart, IsInForm}
use Rattle.code_flow_system.specs.Bounds.{IsDual}
use Rattle.code_flow_system.proofs.LimitLemmas.{applied-negated}
use Rattle.path_places.specs.PlaceLaws.{IsReachedWhole}
use Rattle.path_places.specs.Driver.{Prices}
use Rattle.path_places.specs.Duals.{final_level, final_pairs, values_of, owe_of, never_multipliers, loop_multipliers, dual_of}
use Rattle.path_places.proofs.PotentialLemmas.{all_of, given_moves}
use Rattle.path_places.proofs.RowLemmas.{alongside, final_priced, potential_place, walks_dual}
use Rattle.path_flows.proofs.FreeLemmas.{left_all, right_all}
use Rattle.path_cert.specs.Ranges.{HasRanges}
use Rattle.path_cert.proofs.LongLemmas.{nevers_long, loops_long}
use Rattle.path_cert.proofs.PartLemmas.{potentials_ascend}
use Rattle.path_cert.specs.Priced.{fact_price, fact_prices, fact_total, PricesPayFacts, fact_certificate, AreMultipliers}
use Rattle.path_cert.specs.BestLaws.{FactsAreAccepted}

-- ---- totals

-- what limits hold, over all moves that are made
abbrev held_total : List Limit → Amounts → List Move → ℤ
held_total ks x ms = total (λ m. held ks m.at) x ms

-- each limit's multiplier times its form of the counts
abbrev held_counts : List Limit → (ℕ → ℤ) → ℤ
held_counts [] n = pos 0
held_counts (k ∷ ks) n = (k.by *ℤ applied k.terms n) +ℤ held_counts ks n

none_held : (x : Amounts) (ms : List Move) → held_total [] x ms ≡ pos 0
none_held x [] = refl
none_held x (m ∷ ms) = let r = none_held x ms in let z = *ℤ-zero (amount x m) in omega (arith, ints)

one_held : (k : Limit) (ks : List Limit) (x : Amounts) (ms : List Move) → held_total (k ∷ ks) x ms ≡ (k.by *ℤ applied (departures x ms) (coefficient k.terms)) +ℤ held_total ks x ms
one_held k ks x [] = let z = *ℤ-zero k.by in omega (arith, ints)
one_held k ks x (m ∷ ms) =
    let r = one_held k ks x ms in
    let a = mul-add (amount x m) (k.by *ℤ coefficient k.terms m.at) (held ks m.at) in
    let b = mul-mul_swap (amount x m) k.by (coefficient k.terms m.at) in
    let c = mul-add k.by (amount x m *ℤ coefficient k.terms m.at) (applied (departures x ms) (coefficient k.terms)) in
    omega (arith, ints)

held_sum : (ks : List Limit) (x : Amounts) (ms : List Move) → held_total ks x ms ≡ held_counts ks (count x ms)
held_sum [] x ms = none_held x ms
held_sum (k ∷ ks) x ms =
    let r = held_sum ks x ms in
    let a = one_held k ks x ms in
    let b = ap (λ (z : ℤ). k.by *ℤ z) (applied-coefficient (departures x ms) k.terms) in
    omega (arith, ints)

facts_sum : (cs : List FactClaim) (ys : List ℤ) (n : ℕ → ℤ) → held_counts (fact_limits cs ys) n ≡ fact_total cs ys n
facts_sum [] ys n = refl
facts_sum (c ∷ cs) [] n = refl
facts_sum (c ∷ cs) (y ∷ ys) n =
    let r = facts_sum cs ys n in
    let a = applied-append c.left (negated c.right) n in
    let b = applied-negated c.right n in
    let e : applied (c.left ++ negated c.right) n ≡ (applied c.left n -ℤ applied c.right n) = omega (arith, ints) in
    let f = ap (λ (z : ℤ). y *ℤ z) e in omega (arith, ints)

split_total : (t : Table) (s : System) (scale : ℕ) (ks : List Limit) (x : Amounts) (ms : List Move) → total (λ m. pos (move_cost t s m * scale) -ℤ held ks m.at) x ms ≡ (pos scale *ℤ total (price t s) x ms) -ℤ held_total ks x ms
split_total t s scale ks x [] = let z = *ℤ-zero (pos scale) in omega (arith, ints)
split_total t s scale ks x (m ∷ ms) =
    let r = split_total t s scale ks x ms in
    let a = mul-sub (amount x m) (pos (move_cost t s m * scale)) (held ks m.at) in
    let b : pos (move_cost t s m * scale) ≡ pos scale *ℤ price t s m = scaled (move_cost t s m) scale in
    let c = ap (λ (z : ℤ). amount x m *ℤ z) b in
    let d = mul-mul_swap (amount x m) (pos scale) (price t s m) in
    let e = mul-add (pos scale) (amount x m *ℤ price t s m) (total (price t s) x ms) in
    omega (arith, ints)
  where
    scaled : (a b : ℕ) → pos (a * b) ≡ pos b *ℤ pos a
    scaled a b = omega (arith, ints)

pub prices_pay : (t : Table) (s : System) → PricesPayFacts t s
prices_pay t s scale ys x =
    let a = split_total t s scale (fact_limits s.claims.facts ys) x s.moves in
    let b = held_sum (fact_limits s.claims.facts ys) x s.moves in
    let c = facts_sum s.claims.facts ys (count x s.moves) in omega (arith, ints)

-- ---- the certificate

held-append : (xs ys : List Limit) (a : ℕ) → held (xs ++ ys) a ≡ held xs a +ℤ held ys a
held-append xs ys a = int_sum_by-append (λ (l : Limit). l.by *ℤ coefficient l.terms a) xs ys

module _ (t : Table) (s : System) (ls : List LoopShape) (ps : List Span) (whole : IsReachedWhole s ls ps) (scale : ℕ) (ys : List ℤ) (low : ℤ) (negative : low ≤ℤ pos 0) (are : AreMultipliers s scale ys) where
  abbrev q : Prices
  q = fact_prices t s scale ys low

  abbrev cert : Cert
  cert = fact_certificate t s ls ps scale ys low

  abbrev nl : List Limit
  nl = never_limits s.claims.nevers (never_multipliers s (fact_price t s scale ys) (values_of s ls ps (fact_prices t s scale ys low)))

  abbrev ll : List Limit
  ll = loop_limits s.claims.loops (loop_multipliers s (fact_price t s scale ys) (values_of s ls ps (fact_prices t s scale ys low)))

  abbrev fl : List Limit
  fl = fact_limits s.claims.facts ys

  dual : IsDual s (dual_of s (fact_price t s scale ys) (values_of s ls ps (fact_prices t s scale ys low)))
  dual = walks_dual s ls ps whole (fact_prices t s scale ys low) negative

  row : (m : Move) → Contains s.moves m → IsCovered (scaled_price t s (fact_certificate t s ls ps scale ys low)) (potential (fact_certificate t s ls ps scale ys low)) (limits s.claims (fact_certificate t s ls ps scale ys low)) m
  row m im =
      let r = All-contains (IsCovered (fact_price t s scale ys) (potential (fact_certificate t s ls ps scale ys low)) (nl ++ ll)) s.moves m dual.rows im in
      let a = held-append nl (ll ++ fl) m.at in
      let b = held-append ll fl m.at in
      let c = held-append nl ll m.at in
      omega (arith, ints)

  pub accepts : HasRanges t s (fact_certificate t s ls ps scale ys low) → Accepts t s (fact_certificate t s ls ps scale ys low)
  accepts ranges = record {
    present = given_moves s whole.system (final_level s ls ps (fact_prices t s scale ys low)).worths;
    signs = All-append IsSigned nl (ll ++ fl) (left_all IsSigned nl ll dual.signs) (All-append IsSigned ll fl (right_all IsSigned nl ll dual.signs) are.signs);
    narrow = ranges.rows;
    rows = all_of (IsCovered (scaled_price t s (fact_certificate t s ls ps scale ys low)) (potential (fact_certificate t s ls ps scale ys low)) (limits s.claims (fact_certificate t s ls ps scale ys low))) s.moves row;
    value = ap (λ z. whole_part z scale) (sym (potential_place s ls ps whole (fact_prices t s scale ys low) s.entry whole.system.entry));
    mark = tt;
  }

  pub in_form : HasRanges t s (fact_certificate t s ls ps scale ys low) → IsInForm s.claims (fact_certificate t s ls ps scale ys low)
  in_form ranges = record {
    nevers = nevers_long (owe_of s (fact_price t s scale ys) (values_of s ls ps (fact_prices t s scale ys low))) s.claims.nevers;
    loops = loops_long (owe_of s (fact_price t s scale ys) (values_of s ls ps (fact_prices t s scale ys low))) s.claims.loops (final_pairs s ls ps (fact_prices t s scale ys low))
        (alongside s ls ps whole (fact_prices t s scale ys low) s.claims.loops ls (final_pairs s ls ps (fact_prices t s scale ys low)) (final_priced s ls ps whole (fact_prices t s scale ys low) negative));
    facts = are.long;
    cycles = ranges.cycles;
    scale = are.scaled;
    ascending = potentials_ascend s.moves (final_level s ls ps (fact_prices t s scale ys low)).worths s.moves whole.system.ascending;
    potentials = ranges.potentials;
    small_nevers = ranges.nevers;
    small_loops = ranges.loops;
    small_facts = are.small;
    parts = All-nil IsPart;
    parts_ascend = tt;
    unit = (refl, refl);
  }

pub facts_accepted : (t : Table) (s : System) (ls : List LoopShape) (ps : List Span) → IsReachedWhole s ls ps → FactsAreAccepted t s ls ps
facts_accepted t s ls ps whole scale ys low negative are ranges = (in_form t s ls ps whole scale ys low negative are ranges, accepts t s ls ps whole scale ys low negative are ranges)
