-- Where the answer at a round's multipliers doesn't improve on the round, the weighted flow has exactly the value that the certificate bounds.
use Rattle.std.proofs.Common.{◌≡◌, ℕ, zero, suc, ◌+◌, ◌*◌, ◌≤◌, ◌<◌, ◌^◌, ℤ, pos, ◌*ℤ◌, ◌≤ℤ◌, ◌<ℤ◌, arith, refl, sym, ap, ◌∙◌, subst, List, [], ◌∷◌, length, Contains, All, Bool, true, false, cond, unsigned_abs}
use Rattle.std.specs.Prelude.{◌==◌, slice_index_or}
use Rattle.std.proofs.lemmas.Int.{ints}
use Rattle.std.proofs.lemmas.List.Elements.{All-cons, All-nil, All-weaker, All-contains}
use Rattle.frac128.specs.Terms.{int_sum_by, coefficient, applied}
use Rattle.rv_core.specs.Table.{Table}
use Rattle.code_flow_system.specs.declared.cert.Part.{Part}
use Rattle.code_flow_system.specs.declared.moves.Move.{Move}
use Rattle.code_flow_system.specs.declared.claims.FactClaim.{FactClaim}
use Rattle.code_flow_system.specs.declared.shapes.LoopShape.{LoopShape}
use Rattle.code_flow_system.specs.declared.shapes.Span.{Span}
use Rattle.code_flow_system.specs.Systems.{System}
use Rattle.code_flow_system.specs.Counts.{Amounts, amount, count, inflow, KeepsFact}
use Rattle.code_flow_system.specs.Flows.{IsFlow, price, value}
use Rattle.code_flow_system.specs.Loose.{IsLoose}
use Rattle.code_flow_system.specs.Certificates.{listed, potential, IsGreatest, IsNarrow, IsSmall, Accepts, IsInForm}
use Rattle.code_flow_system.proofs.LooseLemmas.{flows_are_loose, goes_back}
use Rattle.path_places.specs.PlaceLaws.{IsReachedWhole}
use Rattle.path_places.proofs.PotentialLemmas.{all_of}
use Rattle.path_places.proofs.RowLemmas.{potential_place}
use Rattle.path_flows.specs.Flows.{parts_of}
use Rattle.path_flows.proofs.SumLemmas.{AreAmounts}
use Rattle.path_flows.proofs.ConservedLemmas.{listed_amounts}
use Rattle.path_ranges.proofs.NarrowLemmas.{counts_below}
use Rattle.path_cert.proofs.PartLemmas.{parts_ascend, parts_positive, parts_there, parts_are}
use Rattle.path_ranges.proofs.TotalLemmas.{leaves, count-total, total_least}
use Rattle.path_ranges.proofs.PartLemmas.{same_least}
use Rattle.code_flow_answer.specs.declared.bounded.Column.{Column}
use Rattle.simplex_tables.specs.Rows.{entry}
use Rattle.simplex_rounds.specs.declared.pricing.Multipliers.{Multipliers}
use Rattle.simplex_rounds.specs.declared.weighing.Weight.{Weight}
use Rattle.simplex_tables.specs.declared.table.Table.{Table as Rows}
use Rattle.simplex_tables.specs.Choices.{right}
use Rattle.simplex_rounds.specs.Limits.{is_narrow, all_narrow}
use Rattle.simplex_rounds.specs.Multiplied.{duals, objective_place}
use Rattle.simplex_rounds.specs.Weighted.{weights_of, denominator}
use Rattle.simplex_rounds.proofs.NarrowLemmas.{narrow_says, all_narrow_say}
use Rattle.simplex_laws.specs.RoundLaws.{IsWeighing, HaveSigns, column_at, over}
use Rattle.simplex_laws.proofs.TableLemmas.{all_at}
use Rattle.path_flows.specs.Free.{free}
use Rattle.path_cert.specs.Priced.{fact_prices, fact_certificate, AreMultipliers, fact_low}
use Rattle.path_conditions.specs.Natural.{both_totals}
use Rattle.path_cert.specs.Facts.{IsFactFlow}
use Rattle.path_cert.proofs.PricedLemmas.{prices_pay}
use Rattle.path_cert.proofs.BestLemmas.{free_loose}
use Rattle.path_fact_kinds.specs.Mixes.{Share, mix, often}
use Rattle.path_fact_kinds.proofs.MixLemmas.{all_flows}
use Rattle.path_fact_kinds.specs.Columns.{ops_of}
use Rattle.path_conditions.specs.Walking.{IsSearchable}
use Rattle.path_fact_columns.specs.Conditions.{AreNarrow}
use Rattle.path_fact_columns.specs.Answers.{worth_at}
use Rattle.path_fact_columns.specs.Adding.{AreAsked, no_multipliers, flow_of, shares, amounts_in, mixed_parts}
use Rattle.path_fact_columns.proofs.WalkLemmas.{answer_there, accepted_there}
use Rattle.path_fact_columns.specs.OptimumLaws.{IsSolved, greatest_of, SolvedAreGreatest}
use Rattle.path_fact_columns.proofs.NumberLemmas.{reached_by, narrow_same, narrow_alone, units_below, small_one, small_part, quotient_below}
use Rattle.path_fact_columns.proofs.ScaledLemmas.{IsScaled, scaled_is, duals-long, have_signs, limits_signed, total_low, both_true}
use Rattle.path_fact_columns.proofs.WeightLemmas.{common_is, sum_shares, often_is, shares_are, facts_of}
use Rattle.path_fact_columns.proofs.ListedLemmas.{amounts-long, counts_same, total_same, flow_same}
use Rattle.path_fact_columns.proofs.NarrowLemmas.{totals_below, limits_narrow}

module _ (t : Table) (s : System) (ls : List LoopShape) (ps : List Span) (is : IsSearchable t s ls ps) (asked : List Multipliers) (cs : List Column) (b : Rows) (y : Multipliers) (m : ℕ) (solved : IsSolved t s ls ps asked cs b y m) where
  whole : IsReachedWhole s ls ps
  whole = is.limited.limited.whole

  abbrev ws : List Weight
  ws = weights_of (length cs) b.owns b.rows

  abbrev flow : ℕ → Amounts
  flow = flow_of t s ls ps asked

  abbrev hs : List Share
  hs = shares flow m ws

  abbrev f : Amounts
  f = mix hs

  -- ---- multipliers

  numbers : IsScaled (entry b.two (objective_place (length cs) (ops_of s.claims.facts) 1)) (duals (length cs + 1) (ops_of s.claims.facts) b.two) y.scale y.facts
  numbers = subst (λ (u : Multipliers). IsScaled (entry b.two (objective_place (length cs) (ops_of s.claims.facts) 1)) (duals (length cs + 1) (ops_of s.claims.facts) b.two) u.scale u.facts) (sym solved.multipliers)
      (scaled_is (entry b.two (objective_place (length cs) (ops_of s.claims.facts) 1)) (duals (length cs + 1) (ops_of s.claims.facts) b.two) solved.optimum.scale)

  signs : HaveSigns (ops_of s.claims.facts) y.facts
  signs = have_signs numbers.factor (ops_of s.claims.facts) (duals (length cs + 1) (ops_of s.claims.facts) b.two) y.facts numbers.positive numbers.tail solved.optimum.signs

  limited : (is_narrow (length s.claims.loops + 1) y.scale ≡ true) × (all_narrow (length s.claims.loops + 1) y.facts ≡ true)
  limited = both_true (is_narrow (length s.claims.loops + 1) y.scale) (all_narrow (length s.claims.loops + 1) y.facts) solved.narrow

  narrow : AreNarrow s y.scale y.facts
  narrow = record {
    count = numbers.long ∙ duals-long (length cs + 1) s.claims.facts b.two;
    scaled = narrow_says (length s.claims.loops + 1) y.scale limited.0;
    facts = all_narrow_say (length s.claims.loops + 1) y.facts limited.1;
  }

  answer : IsFactFlow s ls ps (fact_prices t s y.scale y.facts (fact_low y.scale y.facts))
  answer = answer_there t s ls ps is y.scale y.facts narrow solved.worth

  are : AreMultipliers s y.scale y.facts
  are = record {
    scaled = (numbers.some, (let w = small_one y.scale (length s.claims.loops) narrow.scaled in omega (arith, w)));
    long = narrow.count;
    signs = limits_signed s.claims.facts y.facts signs;
    small = All-weaker (λ u. unsigned_abs u * (length s.claims.loops + 1) ≤ 2 ^ 44) IsSmall (λ u h. let w = small_one (unsigned_abs u) (length s.claims.loops) h in omega (arith, w)) y.facts narrow.facts;
  }

  -- ---- the weighted flow

  inside : All (λ w. w.column < length cs) ws
  inside = All-weaker (λ (w : Weight). (w.column < length cs) × (0 < w.bottom)) (λ (w : Weight). w.column < length cs) (λ w h. h.0) ws solved.optimum.weights

  bottoms : All (λ w. 0 < w.bottom) ws
  bottoms = All-weaker (λ (w : Weight). (w.column < length cs) × (0 < w.bottom)) (λ (w : Weight). 0 < w.bottom) (λ w h. h.1) ws solved.optimum.weights

  weighing : IsWeighing cs (ops_of s.claims.facts) b m (over m ws)
  weighing = subst (λ k. IsWeighing cs (ops_of s.claims.facts) b k (over k ws)) (sym solved.common) (solved.optimum.weighing (denominator 1 ws) (common_is ws bottoms))

  positive : 0 < m
  positive = subst (λ k. 0 < k) (sym solved.common) (common_is ws bottoms).positive

  unit : m ≤ 2 ^ 44
  unit = small_one m (length s.claims.loops) (narrow_says (length s.claims.loops + 1) m solved.common_narrow)

  all_often : often hs ≡ m
  all_often = same (often hs) m (sym (often_is flow (length cs) m ws) ∙ weighing.whole)
    where
      same : (a b : ℕ) → pos a ≡ pos b → a ≡ b
      same a b e = omega (arith, ints)

  own_flow : (i : ℕ) → i < length cs → IsFlow (free s) 1 (flow i)
  own_flow i lt =
      let a = all_at (AreAsked t s ls ps) asked no_multipliers solved.answers.asked i (let e = solved.answers.long in omega (arith, lt, e)) in
      (answer_there t s ls ps is (slice_index_or asked i no_multipliers).scale (slice_index_or asked i no_multipliers).facts a.narrow a.worth).best.flow

  mixed : IsFlow s (often hs) f × (value t s f ≡ int_sum_by (λ h. pos h.often *ℤ value t s h.flow) hs)
  mixed = all_flows t s hs (subst (λ k. 0 < k) (sym all_often) positive)
      (shares_are flow (length cs) m (IsFlow (free s) 1) own_flow ws inside)
      (facts_of cs s.moves flow m ws inside s.claims.facts (λ i lt. ap (λ (c : Column). c.totals) (solved.answers.columns i lt)) weighing.facts)

  weighted : IsFlow s m f
  weighted = subst (λ k. IsFlow s k f) all_often mixed.0

  value_is : value t s f ≡ applied (over m ws) (λ i. (column_at cs i).value)
  value_is = mixed.1 ∙ sym (sum_shares flow (length cs) m (λ i. (column_at cs i).value) (value t s) (λ i lt. ap (λ (c : Column). c.value) (solved.answers.columns i lt)) ws inside)

  -- ---- its value

  without : IsFlow (free s) m f
  without = record {
    positive = weighted.positive;
    conserved = weighted.conserved;
    claims = record { nevers = weighted.claims.nevers; loops = weighted.claims.loops; facts = All-nil (KeepsFact (count f s.moves)) };
  }

  at_most : (pos y.scale *ℤ value t s f) ≤ℤ (pos m *ℤ worth_at t s ls ps y.scale y.facts)
  at_most =
      let a = answer.best.best m f without in
      let e = prices_pay t s y.scale y.facts f in
      let l = total_low (count f s.moves) s.claims.facts y.facts signs weighted.claims.facts in omega (arith, ints)

  exactly : (pos y.scale *ℤ value t s f) ≡ (pos m *ℤ worth_at t s ls ps y.scale y.facts)
  exactly = reached_by m y.scale (worth_at t s ls ps y.scale y.facts) (value t s f) (entry b.two (objective_place (length cs) (ops_of s.claims.facts) 1)) (right b.two)
      (some solved.optimum.scale)
      (ap (λ (z : ℤ). entry b.two (objective_place (length cs) (ops_of s.claims.facts) 1) *ℤ z) value_is ∙ weighing.value) solved.still at_most
    where
      some : pos 1 ≤ℤ entry b.two (objective_place (length cs) (ops_of s.claims.facts) 1) → pos 0 <ℤ entry b.two (objective_place (length cs) (ops_of s.claims.facts) 1)
      some h = omega (arith, ints)

  -- ---- as it is listed

  abbrev parts : List Part
  parts = mixed_parts t s ls ps asked m ws

  are_amounts : AreAmounts (listed parts) s.moves (amounts_in f s.moves)
  are_amounts = listed_amounts s.moves (amounts_in f s.moves) (amounts-long f s.moves) whole.system.ascending

  listed_flow : IsFlow s m (listed parts)
  listed_flow = flow_same (listed parts) f s m are_amounts weighted

  listed_value : value t s (listed parts) ≡ value t s f
  listed_value = total_same (listed parts) f (price t s) s.moves are_amounts

  loose : IsLoose s m (listed parts)
  loose = flows_are_loose s (goes_back s s.claims.loops ls whole.fits.shapes whole.fits.loops) m (listed parts) listed_flow

  amounts_below : (k : Move) → Contains s.moves k → amount (listed parts) k <ℤ (pos m *ℤ pos (2 ^ 60))
  amounts_below = (counts_below t s is.fetches whole.system (2 ^ 60) is.limited.limited.values m (listed parts) loose).1

  counts : (a : ℕ) → (pos 0 ≤ℤ count (listed parts) s.moves a) × (count (listed parts) s.moves a <ℤ pos (2 ^ 93))
  counts a = (
    subst (λ (z : ℤ). pos 0 ≤ℤ z) (sym (count-total (listed parts) s.moves a)) (total_least (leaves a) (listed parts) s.moves (λ k ik. same_least k.at a)),
    (let l = units_below m (2 ^ 44) (2 ^ 49) (count (listed parts) s.moves a) unit (is.limited.counts m (listed parts) loose a) in omega (arith, ints)),
  )

  worth_is : potential (fact_certificate t s ls ps y.scale y.facts (fact_low y.scale y.facts)) s.entry ≡ worth_at t s ls ps y.scale y.facts
  worth_is = potential_place s ls ps whole (fact_prices t s y.scale y.facts (fact_low y.scale y.facts)) s.entry whole.system.entry

  reached : (pos y.scale *ℤ value t s (listed parts)) ≡ (pos m *ℤ potential (fact_certificate t s ls ps y.scale y.facts (fact_low y.scale y.facts)) s.entry)
  reached = ap (λ (z : ℤ). pos y.scale *ℤ z) listed_value ∙ (exactly ∙ ap (λ (z : ℤ). pos m *ℤ z) (sym worth_is))

  value_below : value t s (listed parts) <ℤ pos (2 ^ 44 * 2 ^ 60)
  value_below = units_below m (2 ^ 44) (2 ^ 60) (value t s (listed parts)) unit (is.limited.limited.values m (listed parts) loose)

  value_narrow : IsNarrow (unsigned_abs (value t s (listed parts)))
  value_narrow = narrow_alone (value t s (listed parts)) (total_least (price t s) (listed parts) s.moves (λ k ik. natural (price t s k) refl)) value_below
    where
      natural : (z : ℤ) {n : ℕ} → z ≡ pos n → pos 0 ≤ℤ z
      natural z e = omega (arith, ints)

  -- what each flow comes to in a fact, and what they come to together
  shares_fit : All (λ h. IsFlow (free s) 1 h.flow) hs
  shares_fit = shares_are flow (length cs) m (IsFlow (free s) 1) own_flow ws inside

  fact_below : (c : FactClaim) → Contains s.claims.facts c → both_totals c (count (listed parts) s.moves) ≤ℤ pos (2 ^ 110)
  fact_below c ic =
      let each : All (λ h. both_totals c (count h.flow s.moves) ≤ℤ pos (2 ^ 66)) hs = All-weaker (λ h. IsFlow (free s) 1 h.flow) (λ h. both_totals c (count h.flow s.moves) ≤ℤ pos (2 ^ 66))
      (λ h fl. All-contains (λ c. both_totals c (count h.flow s.moves) ≤ℤ pos (2 ^ 66)) s.claims.facts c (is.limited.totals h.flow (free_loose s ls ps whole 1 h.flow fl)) ic) hs shares_fit in
      let l = totals_below s.moves c (2 ^ 66) hs each in
      let e = counts_same (listed parts) f s.moves are_amounts in
      let b : often hs * 2 ^ 66 ≤ 2 ^ 110 = few (often hs) m all_often unit in
      at_most_of (both_totals c (count (listed parts) s.moves)) (both_totals c (count f s.moves)) (often hs * 2 ^ 66) (ap (both_totals c) e) l b
    where
      few : (a b : ℕ) → a ≡ b → b ≤ 2 ^ 44 → a * 2 ^ 66 ≤ 2 ^ 110
      few a b e h = omega (arith, e, h)

      at_most_of : (x z : ℤ) (k : ℕ) → x ≡ z → z ≤ℤ pos k → k ≤ 2 ^ 110 → x ≤ℤ pos (2 ^ 110)
      at_most_of x z k e l b = omega (arith, ints, b)

  facts_below : All (λ c. both_totals c (count (listed parts) s.moves) ≤ℤ pos (2 ^ 110)) s.claims.facts
  facts_below = all_of (λ c. both_totals c (count (listed parts) s.moves) ≤ℤ pos (2 ^ 110)) s.claims.facts fact_below

  -- the worth is the value over the unit, over the scale
  worth_below : worth_at t s ls ps y.scale y.facts <ℤ pos (y.scale * 2 ^ 60)
  worth_below = quotient_below y.scale m (2 ^ 60) (value t s (listed parts)) (worth_at t s ls ps y.scale y.facts) positive numbers.some (is.limited.limited.values m (listed parts) loose) (ap (λ (z : ℤ). pos y.scale *ℤ z) listed_value ∙ exactly)

  accepted : IsInForm s.claims (fact_certificate t s ls ps y.scale y.facts (fact_low y.scale y.facts)) × Accepts t s (fact_certificate t s ls ps y.scale y.facts (fact_low y.scale y.facts))
  accepted = accepted_there t s ls ps is y.scale y.facts narrow numbers.some worth_below are

  is_greatest : IsGreatest t s (greatest_of t s ls ps asked cs b y m)
  is_greatest = record {
    in_system = parts_there s.moves (amounts_in f s.moves);
    balanced = λ a. record {
      equal = listed_flow.conserved a;
      narrow = narrow_same (count (listed parts) s.moves a) (coefficient (inflow s.entry m (listed parts) s.moves) a) (counts a).0 (counts a).1 (sym (listed_flow.conserved a));
    };
    claims = listed_flow.claims;
    claims_narrow = limits_narrow (count (listed parts) s.moves) s.claims (greatest_of t s ls ps asked cs b y m) (2 ^ 93) (omega arith) counts is.short is.limited.natural facts_below;
    reached = reached;
    narrow = value_narrow;
  }

  parts_small : (ms : List Move) (us : List ℕ) → AreAmounts (listed parts) ms us → ((k : Move) → Contains ms k → amount (listed parts) k <ℤ (pos m *ℤ pos (2 ^ 60))) → All (λ p. IsSmall p.part) (parts_of ms us)
  parts_small [] us are h = All-nil (λ p. IsSmall p.part)
  parts_small (k ∷ ms) [] are h = All-nil (λ p. IsSmall p.part)
  parts_small (k ∷ ms) (u ∷ us) are h = with_part (parts_small ms us are.1 (λ j i. h j (suc i.0, omega (arith, i.1), i.2))) (u == 0)
    where
      small : IsSmall (pos u)
      small = subst (λ n. IsSmall (pos n)) are.0 (small_part (listed parts k.at k.number) (units_below m (2 ^ 44) (2 ^ 60) (amount (listed parts) k) unit (h k (zero, omega arith, refl))))

      with_part : All (λ p. IsSmall p.part) (parts_of ms us) → (t : Bool) → All (λ p. IsSmall p.part) (cond t (parts_of ms us) (record { at = k.at; number = k.number; part = pos u } ∷ parts_of ms us))
      with_part rest true = rest
      with_part rest false = All-cons (λ p. IsSmall p.part) (record { at = k.at; number = k.number; part = pos u }) (parts_of ms us) small rest

  both : (worth_at t s ls ps y.scale y.facts <ℤ pos (y.scale * 2 ^ 60)) × IsInForm s.claims (greatest_of t s ls ps asked cs b y m) × Accepts t s (greatest_of t s ls ps asked cs b y m)
  both =
      let form = accepted.0 in let accepts = accepted.1 in (
        worth_below,
        record {
          nevers = form.nevers;
          loops = form.loops;
          facts = form.facts;
          cycles = form.cycles;
          scale = form.scale;
          ascending = form.ascending;
          potentials = form.potentials;
          small_nevers = form.small_nevers;
          small_loops = form.small_loops;
          small_facts = form.small_facts;
          parts = parts_are parts (parts_positive s.moves (amounts_in f s.moves)) (parts_small s.moves (amounts_in f s.moves) are_amounts amounts_below);
          parts_ascend = parts_ascend s.moves (amounts_in f s.moves) whole.system.ascending;
          unit = (positive, (let u = unit in omega (arith, u)));
        },
        record {
          present = accepts.present;
          signs = accepts.signs;
          narrow = accepts.narrow;
          rows = accepts.rows;
          value = accepts.value;
          mark = is_greatest;
        },
      )

pub all_greatest : (t : Table) (s : System) (ls : List LoopShape) (ps : List Span) → SolvedAreGreatest t s ls ps
all_greatest t s ls ps is asked cs b y m solved = both t s ls ps is asked cs b y m solved
