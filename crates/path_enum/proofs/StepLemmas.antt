-- What an answer at multipliers is, with a flow or without one.
use Rattle.std.proofs.Common.{◌≡◌, ℕ, suc, ◌*◌, ◌≤◌, ◌<◌, ◌^◌, ℤ, pos, neg_ℤ, ◌-ℤ◌, ◌*ℤ◌, ◌≤ℤ◌, ◌<ℤ◌, arith, refl, sym, ap, ◌∙◌, subst, List, [], ◌∷◌, length, All, Bool, true, false, cond, Option, Some, None, unsigned_abs}
use Rattle.std.specs.Prelude.{IfSome}
use Rattle.std.specs.Int.RustNames.{int_lt}
use lib.IntN.{negsuc}
use Rattle.std.proofs.lemmas.Int.{ints}
use Rattle.std.proofs.lemmas.Bool.Decides.{nat_tests}
use Rattle.std.proofs.lemmas.List.Elements.{All-head, All-tail, All-cons, All-nil}
use Rattle.frac128.specs.Terms.{Terms, applied}
use Rattle.frac128.proofs.SignedLemmas.{mul_at_least}
use Rattle.rv_core.specs.Table.{Table}
use Rattle.code_flow_system.specs.declared.cert.Cert.{Cert}
use Rattle.code_flow_system.specs.declared.claims.FactClaim.{FactClaim}
use Rattle.code_flow_system.specs.declared.shapes.LoopShape.{LoopShape}
use Rattle.code_flow_system.specs.declared.shapes.Span.{Span}
use Rattle.code_flow_system.specs.Systems.{System}
use Rattle.code_flow_system.specs.Counts.{Amounts, count}
use Rattle.code_flow_system.specs.Flows.{price, value}
use Rattle.code_flow_system.specs.Certificates.{fact_limits, listed, potential, IsSigned, IsInForm, Accepts}
use Rattle.path_places.proofs.RowLemmas.{potential_place}
use Rattle.path_ranges.proofs.TotalLemmas.{leaves, count-total, total_least}
use Rattle.path_ranges.proofs.PartLemmas.{same_least}
use Rattle.simplex_rounds.specs.Rounds.{IsColumnOf}
use Rattle.path_cert.specs.Priced.{fact_prices, fact_certificate, fact_low}
use Rattle.path_conditions.specs.Natural.{AreNatural, IsNaturalFact, both_totals}
use Rattle.path_cert.proofs.PricedLemmas.{prices_pay}
use Rattle.path_fact_kinds.specs.MixLaws.{total_of}
use Rattle.path_fact_kinds.specs.Columns.{totals_of, column_of, multiplied, IsBest}
use Rattle.path_conditions.specs.Walking.{IsSearchable}
use Rattle.path_fact_columns.specs.Conditions.{AreNarrow}
use Rattle.path_fact_columns.specs.Answers.{certificate_at, flow_at, parts_at, worth_at, answer_of}
use Rattle.path_fact_columns.specs.declared.answering.Answer.{Answer}
use Rattle.path_fact_columns.specs.Laws.{IsAnswer}
use Rattle.path_fact_columns.proofs.WalkLemmas.{answer_there}
use Rattle.path_fact_columns.proofs.BestLemmas.{multiplied_is, parts_some}
use Rattle.path_enum.specs.declared.asking.Answered.{Answered}
use Rattle.path_enum.specs.Marks.{empty}
use Rattle.path_enum.specs.Steps.{IsAccepted, IsBound, IsAnswered}

-- ---- columns with small numbers

side_least : (ts : Terms) (n : ℕ → ℤ) → ((a : ℕ) → pos 0 ≤ℤ n a) → AreNatural ts → pos 0 ≤ℤ applied ts n
side_least [] n h g = omega (arith, ints)
side_least (t ∷ ts) n h g =
    let r = side_least ts n h (All-tail (λ u. pos 0 ≤ℤ u.1) t ts g) in
    let p = mul_at_least t.1 (n t.0) (All-head (λ u. pos 0 ≤ℤ u.1) t ts g) (h t.0) in omega (arith, ints)

sized : (z : ℤ) → neg_ℤ (pos (2 ^ 66)) ≤ℤ z → z ≤ℤ pos (2 ^ 66) → unsigned_abs z < 2 ^ 120
sized (pos k) a b = let l : k ≤ 2 ^ 66 = omega (arith, ints) in omega (arith, l)
sized (negsuc k) a b = let l : suc k ≤ 2 ^ 66 = omega (arith, ints) in omega (arith, l)

total_small : (f : FactClaim) (n : ℕ → ℤ) → ((a : ℕ) → pos 0 ≤ℤ n a) → IsNaturalFact f → both_totals f n ≤ℤ pos (2 ^ 66) → unsigned_abs (total_of f n) < 2 ^ 120
total_small f n h g lt =
    let l = side_least f.left n h g.0 in
    let r = side_least f.right n h g.1 in
    sized (total_of f n) (omega (arith, ints)) (omega (arith, ints))

totals_small : (fs : List FactClaim) (n : ℕ → ℤ) → ((a : ℕ) → pos 0 ≤ℤ n a) → All IsNaturalFact fs → All (λ f. both_totals f n ≤ℤ pos (2 ^ 66)) fs → All (λ z. unsigned_abs z < 2 ^ 120) (totals_of fs n)
totals_small [] n h g a = All-nil (λ z. unsigned_abs z < 2 ^ 120)
totals_small (f ∷ fs) n h g a = All-cons (λ z. unsigned_abs z < 2 ^ 120) (total_of f n) (totals_of fs n)
    (total_small f n h (All-head IsNaturalFact f fs g) (All-head (λ f. both_totals f n ≤ℤ pos (2 ^ 66)) f fs a)) (totals_small fs n h (All-tail IsNaturalFact f fs g) (All-tail (λ f. both_totals f n ≤ℤ pos (2 ^ 66)) f fs a))

totals-long : (fs : List FactClaim) (n : ℕ → ℤ) → length (totals_of fs n) ≡ length fs
totals-long [] n = refl
totals-long (f ∷ fs) n = ap suc (totals-long fs n)

natural : (z : ℤ) {n : ℕ} → z ≡ pos n → pos 0 ≤ℤ z
natural z e = omega (arith, ints)

visits : (x : Amounts) (s : System) (a : ℕ) → pos 0 ≤ℤ count x s.moves a
visits x s a = subst (λ (z : ℤ). pos 0 ≤ℤ z) (sym (count-total x s.moves a)) (total_least (leaves a) x s.moves (λ k ik. same_least k.at a))

pub value_least : (t : Table) (s : System) (x : Amounts) → pos 0 ≤ℤ value t s x
value_least t s x = total_least (price t s) x s.moves (λ k ik. natural (price t s k) refl)

small_value : (z : ℤ) → pos 0 ≤ℤ z → z ≤ℤ pos (2 ^ 60) → unsigned_abs z < 2 ^ 120
small_value (pos k) h lt = let l : k ≤ 2 ^ 60 = omega (arith, ints) in omega (arith, l)
small_value (negsuc k) h lt = absurd (omega (arith, ints))

pub column_fits : (t : Table) (s : System) (x : Amounts) → All IsNaturalFact s.claims.facts → value t s x ≤ℤ pos (2 ^ 60) → All (λ f. both_totals f (count x s.moves) ≤ℤ pos (2 ^ 66)) s.claims.facts → IsColumnOf (length s.claims.facts) (column_of t s x)
column_fits t s x facts small totals = record {
  totals = totals-long s.claims.facts (count x s.moves);
  value = small_value (value t s x) (value_least t s x) small;
  small = totals_small s.claims.facts (count x s.moves) (visits x s) facts totals;
}

-- ---- the answer at multipliers

some_same : {x y : Cert} → Some x ≡ Some y → x ≡ y
some_same e = cc

module _ (t : Table) (s : System) (ls : List LoopShape) (ps : List Span) (is : IsSearchable t s ls ps) (scale : ℕ) (ys : List ℤ) (some : 0 < scale) (narrow : AreNarrow s scale ys) where
  worth_is : potential (fact_certificate t s ls ps scale ys (fact_low scale ys)) s.entry ≡ worth_at t s ls ps scale ys
  worth_is = potential_place s ls ps is.limited.limited.whole (fact_prices t s scale ys (fact_low scale ys)) s.entry is.limited.limited.whole.system.entry

  -- the worth is what the multipliers leave of the flow's value
  pub worth_paid : pos 0 ≤ℤ worth_at t s ls ps scale ys → worth_at t s ls ps scale ys ≡ (pos scale *ℤ value t s (flow_at t s ls ps scale ys)) -ℤ multiplied ys (totals_of s.claims.facts (count (flow_at t s ls ps scale ys) s.moves))
  worth_paid positive =
      let own = answer_there t s ls ps is scale ys narrow positive in
      let e = prices_pay t s scale ys (flow_at t s ls ps scale ys) in
      let f = multiplied_is (count (flow_at t s ls ps scale ys) s.moves) s.claims.facts ys in
      let w = own.best.total in omega (arith, ints)

  pub certificate_there : worth_at t s ls ps scale ys <ℤ pos (scale * 2 ^ 60) → certificate_at t s ls ps scale ys ≡ Some (fact_certificate t s ls ps scale ys (fact_low scale ys))
  certificate_there h = ap (λ b. cond b (Some (fact_certificate t s ls ps scale ys (fact_low scale ys))) None) (test (worth_at t s ls ps scale ys) (pos (scale * 2 ^ 60)) h)
    where
      test : (a b : ℤ) → a <ℤ b → int_lt a b ≡ true
      test a b h = grind (arith, ints, nat_tests)

  module _ (a : Answer) (value_is : a ≡ answer_of t s ls ps scale ys) (keeps : IsAnswer t s scale ys a) where
    cert_at : a.cert ≡ certificate_at t s ls ps scale ys
    cert_at = ap (λ (b : Answer). b.cert) value_is

    worth_here : a.worth ≡ worth_at t s ls ps scale ys
    worth_here = ap (λ (b : Answer). b.worth) value_is

    -- ---- where the worth is negative

    module _ (negative : a.worth <ℤ pos 0) where
      cert_there : a.cert ≡ Some (fact_certificate t s ls ps scale ys (fact_low scale ys))
      cert_there = cert_at ∙ certificate_there (below (scale * 2 ^ 60) (worth_at t s ls ps scale ys) (subst (λ (z : ℤ). z <ℤ pos 0) worth_here negative))
        where
          below : (k : ℕ) (z : ℤ) → z <ℤ pos 0 → z <ℤ pos k
          below k z h = omega (arith, ints)

      pub cert_given : (c : Cert) → a.cert ≡ Some c → c ≡ fact_certificate t s ls ps scale ys (fact_low scale ys)
      cert_given c e = some_same (sym e ∙ cert_there)

      empty_accepted : (c : Cert) → IsInForm s.claims c × Accepts t s c → potential c s.entry <ℤ pos 0 → c.flow ≡ record { unit = 0; parts = [] } → IsAccepted t s (empty c)
      empty_accepted c h lt e = record {
        form = record {
          nevers = h.0.nevers;
          loops = h.0.loops;
          facts = h.0.facts;
          cycles = h.0.cycles;
          scale = h.0.scale;
          ascending = h.0.ascending;
          potentials = h.0.potentials;
          small_nevers = h.0.small_nevers;
          small_loops = h.0.small_loops;
          small_facts = h.0.small_facts;
          parts = h.0.parts;
          parts_ascend = h.0.parts_ascend;
          unit = (cc, cc);
        };
        accepts = record {
          present = h.1.present;
          signs = h.1.signs;
          narrow = h.1.narrow;
          rows = h.1.rows;
          value = h.1.value;
          mark = lt;
        };
      }

      pub no_flow : All IsSigned (fact_limits s.claims.facts ys) → (c : Cert) → a.cert ≡ Some c → IsAccepted t s (empty c)
      no_flow signs c e =
          let h = subst (λ (o : Option Cert). IfSome o (λ d. IsInForm s.claims d × Accepts t s d)) e (keeps.accepted signs) in
          empty_accepted c h
          (subst (λ (d : Cert). potential d s.entry <ℤ pos 0) (sym (cert_given c e)) (subst (λ (z : ℤ). z <ℤ pos 0) (sym worth_is) (subst (λ (z : ℤ). z <ℤ pos 0) worth_here negative)))
          (ap (λ (d : Cert). d.flow) (cert_given c e))

    -- ---- where it isn't

    module _ (positive : pos 0 ≤ℤ a.worth) where
      there : pos 0 ≤ℤ worth_at t s ls ps scale ys
      there = subst (λ (z : ℤ). pos 0 ≤ℤ z) worth_here positive

      parts_there : a.parts ≡ parts_at t s ls ps scale ys
      parts_there = ap (λ (b : Answer). b.parts) value_is ∙ sym (parts_some t s ls ps scale ys there)

      pub bound_kept : All IsSigned (fact_limits s.claims.facts ys) → IfSome a.cert (IsBound t s)
      bound_kept signs = subst (λ (o : Option Cert). IfSome o (IsBound t s)) (sym cert_at)
          (by_test (int_lt (worth_at t s ls ps scale ys) (pos (scale * 2 ^ 60))) (subst (λ (o : Option Cert). IfSome o (λ d. IsInForm s.claims d × Accepts t s d)) cert_at (keeps.accepted signs)))
        where
          by_test : (b : Bool) → IfSome (cond b (Some (fact_certificate t s ls ps scale ys (fact_low scale ys))) None) (λ d. IsInForm s.claims d × Accepts t s d) → IfSome (cond b (Some (fact_certificate t s ls ps scale ys (fact_low scale ys))) None) (IsBound t s)
          by_test true h = record {
            accepted = record { form = h.0; accepts = h.1 };
            mark = refl;
            entry = subst (λ (z : ℤ). pos 0 ≤ℤ z) (sym worth_is) there;
          }
          by_test false h = tt

      pub answered : All IsSigned (fact_limits s.claims.facts ys) → (b : Answered) → b.multipliers ≡ record { scale = scale; facts = ys } → b.cert ≡ a.cert → b.worth ≡ a.worth → b.column ≡ column_of t s (listed a.parts) → IsAnswered t s ls ps (record { scale = scale; facts = ys }) b
      answered signs b m c w k =
          let best = keeps.best positive in record {
            multipliers = m;
            cert = c ∙ cert_at;
            worth = w ∙ worth_here;
            positive = subst (λ (z : ℤ). pos 0 ≤ℤ z) (sym w) positive;
            column = k ∙ ap (λ us. column_of t s (listed us)) parts_there;
            best = subst (IsBest t s scale ys) (sym k) best.best;
            each = subst (IsColumnOf (length s.claims.facts)) (sym k) (column_fits t s (listed a.parts) is.limited.natural best.small best.totals);
            bound = subst (λ (o : Option Cert). IfSome o (IsBound t s)) (sym c) (bound_kept signs);
          }
