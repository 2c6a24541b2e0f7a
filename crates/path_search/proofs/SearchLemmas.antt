-- What a search finds is the certificate of the walks.
use Rattle.std.proofs.Common.{rules, ◌≡◌, ℕ, zero, suc, ◌*◌, ◌<◌, ◌/◌, ◌^◌, ℤ, pos, neg_ℤ, ◌*ℤ◌, ◌≤ℤ◌, ◌<ℤ◌, arith, refl, sym, ap, ◌∙◌, subst, List, [], ◌∷◌, ◌++◌, length, All, Bool, true, false, cond, Option, Some, None, unsigned_abs}
use lib.IntN.{negsuc}
use Rattle.std.specs.Prelude.{MatchOption}
use Rattle.std.specs.Option.{IsSome}
use Rattle.std.specs.Int.RustNames.{int_lt}
use Rattle.std.proofs.Math.ListN.{replicate, length-replicate}
use Rattle.std.proofs.Math.IntN.{zero-*ℤ}
use Rattle.std.proofs.lemmas.Int.{ints}
use Rattle.std.proofs.lemmas.Bool.Decides.{nat_tests}
use Rattle.std.proofs.lemmas.List.Elements.{All-head, All-tail, All-cons, All-nil, All-weaker}
use Rattle.frac128.specs.Terms.{Terms, coefficient}
use Rattle.rv_core.specs.Table.{Table}
use Rattle.code_flow_system.specs.declared.claims.Never.{Never}
use Rattle.code_flow_system.specs.declared.claims.LoopClaim.{LoopClaim}
use Rattle.code_flow_system.specs.declared.claims.FactClaim.{FactClaim}
use Rattle.code_flow_system.specs.declared.cert.Cert.{Cert}
use Rattle.code_flow_system.specs.declared.cert.Part.{Part}
use Rattle.code_flow_system.specs.declared.cert.Mark.TheVariants.{Greatest, Empty}
use Rattle.code_flow_system.specs.declared.moves.Move.{Move}
use Rattle.code_flow_system.specs.declared.shapes.LoopShape.{LoopShape}
use Rattle.code_flow_system.specs.declared.shapes.Span.{Span}
use Rattle.code_flow_system.specs.Claims.{Claims, claim_count}
use Rattle.code_flow_system.specs.Systems.{System, IsSystem}
use Rattle.code_flow_system.specs.MoveCosts.{move_cost}
use Rattle.code_flow_system.specs.Flows.{price}
use Rattle.code_flow_system.specs.Certificates.{Limit, never_limits, loop_limits, fact_limits, limits, potential, row_size, scaled_price, size_by, whole_part, AddressesAscend, IsNarrow, IsSmall, IsPart, IsInForm}
use Rattle.loop_walks.specs.declared.step.Pair.{Pair}
use Rattle.loop_walks.specs.Levels.{Level, level_of}
use Rattle.path_places.specs.Reached.{AreReached}
use Rattle.path_places.specs.PlaceLaws.{IsReachedWhole}
use Rattle.path_places.specs.Duals.{Values, values_of, potentials_of, both_of, never_multipliers, loop_multipliers, final_level, final_pairs}
use Rattle.path_places.proofs.LongLemmas.{worths_long}
use Rattle.path_places.proofs.PotentialLemmas.{potential_at}
use Rattle.path_flows.specs.Flows.{amounts_of, parts_of}
use Rattle.path_ranges.specs.Narrow.{FetchesCost, HasShortBounds}
use Rattle.path_sizes.proofs.ClaimSizes.{size-append}
use Rattle.path_sizes.specs.CostRanges.{HasSmallValues}
use Rattle.path_sizes.proofs.RangeLemmas.{costs_ranged}
use Rattle.path_cert.specs.Certificates.{entry_worth, certificate_with, costs_of, certificate_of}
use Rattle.path_cert.proofs.PartLemmas.{potentials_ascend}
use Rattle.path_cert.specs.BoundLaws.{IsBoundable}
use Rattle.path_cert.proofs.BoundLemmas.{worth_below, flow_small}
use Rattle.path_walks.specs.declared.walks.Settled.{Settled}
use Rattle.path_values.specs.Plain.{plain_of}
use Rattle.path_values.specs.Owed.{owe_at, nevers_by, loops_by}
use Rattle.path_values.proofs.ValueLemmas.{multipliers_of}
use Rattle.path_values.specs.Laws.{plain_by}
use Rattle.path_conditions.specs.Bounding.{CanBound}
use Rattle.path_conditions.proofs.Holding.{within_all, backs_free}
use Rattle.path_search.specs.Kinds.{SaysOne}
use Rattle.path_search.specs.Unmarked.{values_in, unmarked_of, AreAddable, marked}

-- ---- the rows of a certificate without multipliers of never claims

nothing_sized : (cs : List Never) (n a : ℕ) → size_by (λ (l : Limit). l.by *ℤ coefficient l.terms a) (never_limits cs (replicate n (pos 0))) ≡ 0
nothing_sized [] n a = refl
nothing_sized (c ∷ cs) zero a = refl
nothing_sized (c ∷ cs) (suc n) a = let r = nothing_sized cs n a in let z = ap unsigned_abs (zero-*ℤ (coefficient ((c.at, pos 1) ∷ []) a)) in omega (arith, r, z)

no_facts : (fs : List FactClaim) → fact_limits fs [] ≡ []
no_facts [] = refl
no_facts (f ∷ fs) = refl

plain_sized : (claims : Claims) (ts : Terms) (ps : List Pair) (a : ℕ) → size_by (λ (l : Limit). l.by *ℤ coefficient l.terms a) (limits claims (plain_of claims ts ps)) ≡ size_by (λ (l : Limit). l.by *ℤ coefficient l.terms a) (loop_limits claims.loops (both_of ps))
plain_sized claims ts ps a =
    let x = size-append (λ (l : Limit). l.by *ℤ coefficient l.terms a) (never_limits claims.nevers (replicate (length claims.nevers) (pos 0))) (loop_limits claims.loops (both_of ps) ++ fact_limits claims.facts []) in
    let y = size-append (λ (l : Limit). l.by *ℤ coefficient l.terms a) (loop_limits claims.loops (both_of ps)) (fact_limits claims.facts []) in
    let z = ap (λ ls. size_by (λ (l : Limit). l.by *ℤ coefficient l.terms a) ls) (no_facts claims.facts) in
    let n = nothing_sized claims.nevers (length claims.nevers) a in
    omega (arith, x, y, z, n)

module _ (t : Table) (s : System) (x : Values) where
  row_same : (m : Move) → row_size (scaled_price t s (plain_by s x)) (potential (plain_by s x)) (limits s.claims (plain_by s x)) m ≡ row_size (price t s) (coefficient (potentials_of s.moves x.worths s.moves)) (loop_limits s.claims.loops (both_of x.pairs)) m
  row_same m =
      let e : unsigned_abs (scaled_price t s (plain_by s x) m) ≡ unsigned_abs (price t s m) = ap (λ n. unsigned_abs (pos n)) (once (move_cost t s m)) in
      let f = plain_sized s.claims (potentials_of s.moves x.worths s.moves) x.pairs m.at in
      omega (arith, e, f)
    where
      once : (n : ℕ) → n * 1 ≡ n
      once n = omega arith

  zeros_small : (n : ℕ) → All IsSmall (replicate n (pos 0))
  zeros_small zero = All-nil IsSmall
  zeros_small (suc n) = All-cons IsSmall (pos 0) (replicate n (pos 0)) (omega arith) (zeros_small n)

  both_small : (ps : List Pair) → All (λ p. IsSmall p.least × IsSmall p.most) ps → All (λ w. IsSmall w.0 × IsSmall w.1) (both_of ps)
  both_small [] h = All-nil (λ w. IsSmall w.0 × IsSmall w.1)
  both_small (p ∷ ps) h = All-cons (λ w. IsSmall w.0 × IsSmall w.1) (p.least, p.most) (both_of ps) (All-head (λ p. IsSmall p.least × IsSmall p.most) p ps h) (both_small ps (All-tail (λ p. IsSmall p.least × IsSmall p.most) p ps h))

  both_long : (ps : List Pair) → length (both_of ps) ≡ length ps
  both_long [] = refl
  both_long (p ∷ ps) = ap suc (both_long ps)

  plain_in_form : (ls : List LoopShape) (ps : List Span) → IsReachedWhole s ls ps → s.claims.facts ≡ [] → HasSmallValues t s x → IsInForm s.claims (plain_by s x)
  plain_in_form ls ps whole facts small = record {
    nevers = length-replicate (length s.claims.nevers) (pos 0);
    loops = both_long x.pairs ∙ small.long;
    facts = sym (ap length facts);
    cycles = omega arith;
    scale = (omega arith, omega arith);
    ascending = potentials_ascend s.moves x.worths s.moves whole.system.ascending;
    potentials = small.potentials;
    small_nevers = zeros_small (length s.claims.nevers);
    small_loops = both_small x.pairs small.pairs;
    small_facts = All-nil IsSmall;
    parts = All-nil IsPart;
    parts_ascend = tt;
    unit = (refl, refl);
  }

  pub addable : (ls : List LoopShape) (ps : List Span) → IsReachedWhole s ls ps → s.claims.facts ≡ [] → length s.moves < length x.worths → HasSmallValues t s x → AreAddable t s x
  addable ls ps whole facts long small = record {
    system = whole.system;
    long = long;
    form = plain_in_form ls ps whole facts small;
    narrow = All-weaker (λ m. IsNarrow (row_size (price t s) (coefficient (potentials_of s.moves x.worths s.moves)) (loop_limits s.claims.loops (both_of x.pairs)) m)) (λ m. IsNarrow (row_size (scaled_price t s (plain_by s x)) (potential (plain_by s x)) (limits s.claims (plain_by s x)) m)) (λ m k. subst IsNarrow (sym (row_same m)) k) s.moves small.plain;
    pairs = small.long;
    small = All-weaker (λ p. IsSmall p.least × IsSmall p.most) (λ p. IsSmall p.most) (λ p k. k.1) x.pairs small.pairs;
  }

-- ---- answers that are there

pub some_of : {V X : Type 0} (o : Option V) (items : V → List X) (got : Option (List X)) (xs : List X) → got ≡ Some xs → MatchOption o (got ≡ None) (λ v. got ≡ Some (items v)) → IsSome o
some_of None items got xs e h = cc
some_of (Some v) items got xs e h = search rules

pub items_of : {V X : Type 0} (o : Option V) (items : V → List X) (got : Option (List X)) (xs : List X) (v : V) → got ≡ Some xs → MatchOption o (got ≡ None) (λ v. got ≡ Some (items v)) → o ≡ Some v → items v ≡ xs
items_of None items got xs v e h f = cc
items_of (Some w) items got xs v e h f = cc

-- a certificate with other multipliers
abbrev pub with_both : Cert → List ℤ → List (ℤ × ℤ) → Cert
with_both c ns us = record {
  cycles = c.cycles;
  mark = c.mark;
  scale = c.scale;
  potentials = c.potentials;
  nevers = ns;
  loops = us;
  facts = c.facts;
  flow = c.flow;
}

pub unmarked_by : (t : Table) (s : System) (x : Values) (c : Cert) (ns : List ℤ) (us : List (ℤ × ℤ)) → c ≡ plain_by s x → ns ≡ never_multipliers s (price t s) x → us ≡ loop_multipliers s (price t s) x → with_both c ns us ≡ unmarked_of s (price t s) x
unmarked_by t s x c ns us e f g =
    ap (λ (y : Cert). with_both y ns us) e ∙ (ap (λ (y : List ℤ). with_both (plain_by s x) y us) f ∙ ap (λ (y : List (ℤ × ℤ)). with_both (plain_by s x) (never_multipliers s (price t s) x) y) g)

-- the certificate of what walks found, by its parts
pub plain_is : (s : System) (r : Settled) (c : Cert) (ts : Terms) (ms : List Move) (ws : List ℤ) (ps : List Pair) → c ≡ plain_of s.claims ts ps → ts ≡ potentials_of ms ws ms → ms ≡ s.moves → ws ≡ r.worths → ps ≡ r.pairs → c ≡ plain_by s (values_in r)
plain_is s r c ts ms ws ps e f g h k =
    e ∙ (ap (λ (y : Terms). plain_of s.claims y ps) (f ∙ (ap (λ (y : List Move). potentials_of y ws y) g ∙ ap (λ (y : List ℤ). potentials_of s.moves y s.moves) h)) ∙ ap (λ (y : List Pair). plain_of s.claims (potentials_of s.moves r.worths s.moves) y) k)

module _ (t : Table) (s : System) (x : Values) (c : Cert) (able : AreAddable t s x) (is : c ≡ plain_by s x) where
  pub nevers_found : nevers_by (owe_at t s c) s.claims.nevers ≡ Some (never_multipliers s (price t s) x)
  nevers_found = ap (λ (y : Cert). nevers_by (owe_at t s y) s.claims.nevers) is ∙ (multipliers_of t s x able.narrow).0

  pub loops_found : (ps : List Pair) → ps ≡ x.pairs → loops_by (owe_at t s c) s.claims.loops ps ≡ Some (loop_multipliers s (price t s) x)
  loops_found ps e = ap (λ (y : Cert). loops_by (owe_at t s y) s.claims.loops ps) is ∙ (ap (λ (y : List Pair). loops_by (owe_at t s (plain_by s x)) s.claims.loops y) e ∙ (multipliers_of t s x able.narrow).1)

-- ---- the marked certificate

pub low_negative : (n : ℕ) → neg_ℤ (pos n) ≤ℤ pos 0
low_negative n = omega (arith, ints)

module _ (t : Table) (s : System) (ls : List LoopShape) (ps : List Span) (whole : IsReachedWhole s ls ps) where
  abbrev x : Values
  x = values_of s ls ps (costs_of t s)

  pub worth_is : coefficient (potentials_of s.moves (values_of s ls ps (costs_of t s)).worths s.moves) s.entry ≡ entry_worth s (values_of s ls ps (costs_of t s))
  worth_is = potential_at s whole.system (values_of s ls ps (costs_of t s)).worths s.entry whole.system.entry

  below_sign : (z : ℤ) → z <ℤ pos 0 → int_lt z (pos 0) ≡ true
  below_sign z h = grind (arith, ints, nat_tests)

  above_sign : (z : ℤ) → pos 0 ≤ℤ z → int_lt z (pos 0) ≡ false
  above_sign z h = grind (arith, ints, nat_tests)

  none_whole : (z : ℤ) → z <ℤ pos 0 → whole_part z 1 ≡ 0
  none_whole (pos n) h = absurd (omega (arith, ints))
  none_whole (negsuc n) h = refl

  pub marked_empty : entry_worth s (values_of s ls ps (costs_of t s)) <ℤ pos 0 → marked (unmarked_of s (price t s) (values_of s ls ps (costs_of t s))) Empty 0 (record { unit = 0; parts = [] }) ≡ certificate_of t s ls ps
  marked_empty h =
      ap (λ n. marked (unmarked_of s (price t s) (values_of s ls ps (costs_of t s))) Empty n (record { unit = 0; parts = [] })) (sym (none_whole (entry_worth s (values_of s ls ps (costs_of t s))) h))
      ∙ ap (λ b. certificate_with (cond b Empty Greatest) s (costs_of t s) (values_of s ls ps (costs_of t s)) (amounts_of s ls ps (costs_of t s))) (sym (below_sign (entry_worth s (values_of s ls ps (costs_of t s))) h))

  whole_is : (z : ℤ) (n : ℕ) → z ≡ pos n → n ≡ whole_part z 1
  whole_is z n e = sym (ap (λ (y : ℤ). whole_part y 1) e ∙ one n)
    where
      one : (n : ℕ) → n / 1 ≡ n
      one n = omega arith

  pub marked_greatest : (n : ℕ) → entry_worth s (values_of s ls ps (costs_of t s)) ≡ pos n → marked (unmarked_of s (price t s) (values_of s ls ps (costs_of t s))) Greatest n (record { unit = 1; parts = parts_of s.moves (amounts_of s ls ps (costs_of t s)) }) ≡ certificate_of t s ls ps
  marked_greatest n e =
      ap (λ k. marked (unmarked_of s (price t s) (values_of s ls ps (costs_of t s))) Greatest k (record { unit = 1; parts = parts_of s.moves (amounts_of s ls ps (costs_of t s)) })) (whole_is (entry_worth s (values_of s ls ps (costs_of t s))) n e)
      ∙ ap (λ b. certificate_with (cond b Empty Greatest) s (costs_of t s) (values_of s ls ps (costs_of t s)) (amounts_of s ls ps (costs_of t s))) (sym (above_sign (entry_worth s (values_of s ls ps (costs_of t s))) (natural e)))
    where
      natural : entry_worth s (values_of s ls ps (costs_of t s)) ≡ pos n → pos 0 ≤ℤ entry_worth s (values_of s ls ps (costs_of t s))
      natural e = omega (arith, ints)

  pub says_one : SaysOne (certificate_of t s ls ps).mark
  says_one = by_sign (int_lt (entry_worth s (values_of s ls ps (costs_of t s))) (pos 0))
    where
      by_sign : (b : Bool) → SaysOne (cond b Empty Greatest)
      by_sign true = tt
      by_sign false = tt

-- ---- the conditions

pub conditions_hold : (t : Table) (s : System) (ls : List LoopShape) (ps : List Span) → IsSystem s → AreReached s → CanBound t s ls ps → FetchesCost t → All HasShortBounds s.claims.loops → claim_count s.claims < 2 ^ 32 → IsBoundable t s ls ps
conditions_hold t s ls ps system reached can fetches short few = record {
  limited = record {
    whole = record { system = system; fits = can.fit.fits; filled = can.fit.filled; reached = reached };
    values = can.loose;
    loops = within_all s.claims.loops can.bounds short;
    few = omega (arith, few);
  };
  fetches = fetches;
  short = short;
  backs = backs_free s ls can.fit.fits.shapes can.fit.apart;
  facts = can.facts;
}

-- the same, of what a system's lists of claims say
pub boundable : (t : Table) (s : System) (ls : List LoopShape) (ps : List Span) → IsSystem s → AreReached s → CanBound t s ls ps → FetchesCost t → (claims : Claims) (loops : List LoopClaim) → claims ≡ s.claims → loops ≡ claims.loops → All HasShortBounds loops → claim_count claims < 2 ^ 32 → IsBoundable t s ls ps
boundable t s ls ps system reached can fetches claims loops same all short few =
    conditions_hold t s ls ps system reached can fetches (subst (All HasShortBounds) (all ∙ ap (λ (x : Claims). x.loops) same) short) (subst (λ x. claim_count x < 2 ^ 32) same few)

-- ---- what walks found

abbrev both : List ℤ → List Pair → Values
both ws xs = record { worths = ws; pairs = xs }

module _ (t : Table) (s : System) (ls : List LoopShape) (ps : List Span) (is : IsBoundable t s ls ps) (r : Settled) (level : level_of r.worths r.weights ≡ final_level s ls ps (costs_of t s)) (pairs : r.pairs ≡ final_pairs s ls ps (costs_of t s)) where
  pub found_values : values_in r ≡ values_of s ls ps (costs_of t s)
  found_values =
      ap (λ (ws : List ℤ). both ws r.pairs) (ap (λ (v : Level). v.worths) level)
      ∙ ap (λ (xs : List Pair). both (final_level s ls ps (costs_of t s)).worths xs) pairs

  pub found_addable : AreAddable t s (values_in r)
  found_addable = subst (AreAddable t s) (sym found_values)
      (addable t s (values_of s ls ps (costs_of t s)) ls ps is.limited.whole is.facts (worths_long s ls ps is.limited.whole (costs_of t s) (low_negative (2 ^ 62))) (costs_ranged t s ls ps is.limited).values)

  module _ (c : Cert) (cert_is : c ≡ unmarked_of s (price t s) (values_in r)) where
    pub found_cert : c ≡ unmarked_of s (price t s) (values_of s ls ps (costs_of t s))
    found_cert = cert_is ∙ ap (unmarked_of s (price t s)) found_values

    pub found_ascend : AddressesAscend c.potentials
    found_ascend = subst (λ (x : Cert). AddressesAscend x.potentials) (sym found_cert) (potentials_ascend s.moves (values_of s ls ps (costs_of t s)).worths s.moves is.limited.whole.system.ascending)

    pub found_worth : (z : ℤ) → z ≡ coefficient c.potentials s.entry → z ≡ entry_worth s (values_of s ls ps (costs_of t s))
    found_worth z e = e ∙ (ap (λ (x : Cert). coefficient x.potentials s.entry) found_cert ∙ worth_is t s ls ps is.limited.whole)

    -- without a flow, and with one
    pub found_empty : (z : ℤ) → z ≡ coefficient c.potentials s.entry → z <ℤ pos 0 → marked c Empty 0 (record { unit = 0; parts = [] }) ≡ certificate_of t s ls ps
    found_empty z e h =
        ap (λ x. marked x Empty 0 (record { unit = 0; parts = [] })) found_cert
        ∙ marked_empty t s ls ps is.limited.whole (subst (λ (y : ℤ). y <ℤ pos 0) (found_worth z e) h)

    pub found_small : (z : ℤ) → z ≡ coefficient c.potentials s.entry → z <ℤ pos (2 ^ 60)
    found_small z e = subst (λ (y : ℤ). y <ℤ pos (2 ^ 60)) (sym (found_worth z e)) (worth_below t s ls ps is)

    pub found_amounts : (z : ℤ) → z ≡ coefficient c.potentials s.entry → pos 0 ≤ℤ z → All (λ u. u < 2 ^ 127) (amounts_of s ls ps (costs_of t s))
    found_amounts z e h = All-weaker (λ u. u < 2 ^ 60) (λ u. u < 2 ^ 127) (λ u k. omega (arith, k)) (amounts_of s ls ps (costs_of t s)) (flow_small t s ls ps is (subst (λ (y : ℤ). pos 0 ≤ℤ y) (found_worth z e) h))

    pub found_greatest : (z : ℤ) (n : ℕ) (parts : List Part) → z ≡ coefficient c.potentials s.entry → z ≡ pos n → parts ≡ parts_of s.moves (amounts_of s ls ps (costs_of t s)) → marked c Greatest n (record { unit = 1; parts = parts }) ≡ certificate_of t s ls ps
    found_greatest z n parts e f g =
        ap (λ x. marked x Greatest n (record { unit = 1; parts = parts })) found_cert
        ∙ (ap (λ xs. marked (unmarked_of s (price t s) (values_of s ls ps (costs_of t s))) Greatest n (record { unit = 1; parts = xs })) g
        ∙ marked_greatest t s ls ps is.limited.whole n (sym (found_worth z e) ∙ f))
