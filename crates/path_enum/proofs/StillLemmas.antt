-- An answer that doesn't improve on its round: the weighted columns are the greatest flow.
use Rattle.std.proofs.Common.{◌≡◌, ℕ, ◌+◌, ◌≤◌, ◌<◌, ◌^◌, ℤ, pos, ◌*ℤ◌, ◌≤ℤ◌, ◌<ℤ◌, arith, refl, sym, ap, ◌∙◌, subst, List, length, All, Bool, true, false, Some}
use Rattle.std.specs.Int.RustNames.{int_lt}
use Rattle.std.proofs.lemmas.Int.{ints}
use Rattle.std.proofs.lemmas.Bool.Decides.{nat_tests}
use Rattle.wcc_base.specs.declared.compare.Compare.{Compare}
use Rattle.rv_core.specs.Table.{Table}
use Rattle.code_flow_system.specs.declared.cert.Cert.{Cert}
use Rattle.code_flow_system.specs.declared.cert.Part.{Part}
use Rattle.code_flow_system.specs.declared.cert.Mark.TheVariants as marks
use Rattle.code_flow_system.specs.declared.shapes.LoopShape.{LoopShape}
use Rattle.code_flow_system.specs.declared.shapes.Span.{Span}
use Rattle.code_flow_system.specs.Systems.{System}
use Rattle.code_flow_answer.specs.declared.bounded.Column.{Column}
use Rattle.simplex_tables.specs.Rows.{entry}
use Rattle.simplex_tables.specs.declared.table.Table.{Table as Rows}
use Rattle.simplex_tables.specs.declared.running.Ending.TheVariants.{Second}
use Rattle.simplex_tables.specs.Choices.{right}
use Rattle.simplex_tables.specs.Shapes.{IsShaped}
use Rattle.simplex_rounds.specs.declared.pricing.Multipliers.{Multipliers}
use Rattle.simplex_rounds.specs.declared.weighing.Weight.{Weight}
use Rattle.simplex_rounds.specs.Limits.{is_narrow}
use Rattle.simplex_rounds.specs.Multiplied.{objective_place, second_multipliers, are_narrow}
use Rattle.simplex_rounds.specs.Weighted.{weights_of, numerator}
use Rattle.simplex_laws.specs.RoundLaws.{IsOptimum}
use Rattle.path_cert.specs.Priced.{fact_certificate, fact_low}
use Rattle.path_conditions.specs.Walking.{IsSearchable}
use Rattle.path_fact_kinds.specs.Columns.{ops_of}
use Rattle.path_fact_columns.specs.Adding.{mixed_parts, AreWeights}
use Rattle.path_fact_columns.specs.OptimumLaws.{greatest, AreAnswers, IsSolved, SolvedAreGreatest}
use Rattle.path_enum.specs.declared.asking.Answered.{Answered}
use Rattle.path_enum.specs.Weighing.{IsCommonOf}
use Rattle.path_enum.specs.Steps.{IsAccepted, IsAnswered, IsStill, IsNext}
use Rattle.path_enum.proofs.StepLemmas.{certificate_there}
use Rattle.path_enum.proofs.NextLemmas.{second_some, second_narrow, second_next}
use Rattle.path_enum.proofs.WeightLemmas.{weights_few, are_weights}

-- ---- whether the answer improves

not_less : (r : Bool) (x y : ℤ) → (x <ℤ y → r ≡ true) → r ≡ false → y ≤ℤ x
not_less r x y h e = by_test (int_lt x y) refl
  where
    less : int_lt x y ≡ true → x <ℤ y
    less q = grind (arith, ints, nat_tests)

    differ : r ≡ true → y ≤ℤ x
    differ q = cc

    by_test : (t : Bool) → int_lt x y ≡ t → y ≤ℤ x
    by_test true q = differ (h (less q))
    by_test false q = grind (arith, ints, nat_tests)

module _ (t : Table) (s : System) (ls : List LoopShape) (ps : List Span) (is : IsSearchable t s ls ps) (cs : List Column) (b : Rows) (ends : IsOptimum cs (ops_of s.claims.facts) b) (y : Multipliers) (y_is : y ≡ second_multipliers (length cs) (ops_of s.claims.facts) b) (past : are_narrow (length s.claims.loops + 1) y ≡ true) (os : List Compare) (same : os ≡ ops_of s.claims.facts) (a : Answered) (h : IsAnswered t s ls ps y a) where
  pub improved : (right b.two *ℤ pos a.multipliers.scale) <ℤ (a.worth *ℤ entry b.two (objective_place (length cs) os 1)) → IsNext t s ls ps cs (Second b) a
  improved lt =
      second_next t s ls ps is cs b ends y y_is past a h
      (subst (λ (qs : List Compare). (right b.two *ℤ pos y.scale) <ℤ (a.worth *ℤ entry b.two (objective_place (length cs) qs 1))) same
      (subst (λ (u : Multipliers). (right b.two *ℤ pos u.scale) <ℤ (a.worth *ℤ entry b.two (objective_place (length cs) os 1))) h.multipliers lt))

  pub is_still : (r : Bool) → ((right b.two *ℤ pos a.multipliers.scale) <ℤ (a.worth *ℤ entry b.two (objective_place (length cs) os 1)) → r ≡ true) → r ≡ false → (ys : List Multipliers) → AreAnswers t s ls ps ys cs → IsStill t s ls ps ys cs b a
  is_still r says e ys answers = record {
    answered = subst (λ (u : Multipliers). IsAnswered t s ls ps u a) y_is h;
    answers = answers;
    optimum = ends;
    narrow = subst (λ (u : Multipliers). are_narrow (length s.claims.loops + 1) u ≡ true) y_is past;
    still =
        subst (λ (u : Multipliers). (a.worth *ℤ entry b.two (objective_place (length cs) (ops_of s.claims.facts) 1)) ≤ℤ (right b.two *ℤ pos u.scale)) (h.multipliers ∙ y_is)
        (subst (λ (qs : List Compare). (a.worth *ℤ entry b.two (objective_place (length cs) qs 1)) ≤ℤ (right b.two *ℤ pos a.multipliers.scale)) same
        (not_less r (right b.two *ℤ pos a.multipliers.scale) (a.worth *ℤ entry b.two (objective_place (length cs) os 1)) says e));
  }

-- ---- the weighted columns

module _ (t : Table) (s : System) (ls : List LoopShape) (ps : List Span) (is : IsSearchable t s ls ps) (ys : List Multipliers) (cs : List Column) (b : Rows) (a : Answered) (still : IsStill t s ls ps ys cs b a) (n m : ℕ) (n_is : n ≡ length s.claims.loops + 1) (ws : List Weight) (ws_are : ws ≡ weights_of (length cs) b.owns b.rows) (common : IsCommonOf n ws m) where
  pub weights_fit : (k : ℕ) → IsShaped k b → length b.rows ≤ 2 ^ 10 → AreWeights (length ys) m ws
  weights_fit k shape rows =
      let f = weights_few (length cs) b.owns b.rows in
      let o = shape.owns in
      let w = ap length ws_are in
      subst (λ i. AreWeights i m ws) (sym still.answers.long)
      (are_weights (length cs) n m ws (omega (arith, n_is)) (omega (arith, f, o, w, rows)) (subst (All (λ (w : Weight). (w.column < length cs) × (0 < w.bottom))) (sym ws_are) still.optimum.weights) common)

  abbrev y : Multipliers
  y = second_multipliers (length cs) (ops_of s.claims.facts) b

  common_here : IsCommonOf n (weights_of (length cs) b.owns b.rows) m
  common_here = subst (λ vs. IsCommonOf n vs m) ws_are common

  solved : IsSolved t s ls ps ys cs b (second_multipliers (length cs) (ops_of s.claims.facts) b) m
  solved = record {
    answers = still.answers;
    optimum = still.optimum;
    multipliers = refl;
    narrow = still.narrow;
    common = common_here.is;
    common_narrow = subst (λ i. is_narrow i m ≡ true) n_is common_here.narrow;
    weights_narrow = subst (λ i. All (λ (w : Weight). is_narrow i (numerator m w) ≡ true) (weights_of (length cs) b.owns b.rows)) n_is common_here.each;
    worth = subst (λ (z : ℤ). pos 0 ≤ℤ z) still.answered.worth still.answered.positive;
    still = subst (λ (z : ℤ). (z *ℤ entry b.two (objective_place (length cs) (ops_of s.claims.facts) 1)) ≤ℤ (right b.two *ℤ pos (second_multipliers (length cs) (ops_of s.claims.facts) b).scale)) still.answered.worth still.still;
  }

  module _ (law : SolvedAreGreatest t s ls ps) where
    pub cert_there : a.cert ≡ Some (fact_certificate t s ls ps y.scale y.facts (fact_low y.scale y.facts))
    cert_there =
        still.answered.cert
        ∙ certificate_there t s ls ps is y.scale y.facts (second_some t s ls ps is cs b still.optimum y refl still.narrow) (second_narrow t s ls ps is cs b still.optimum y refl still.narrow)
        (law is ys cs b y m solved).0

    some_same : {c d : Cert} → Some c ≡ Some d → c ≡ d
    some_same e = cc

    pub weighed_greatest : (c : Cert) → a.cert ≡ Some c → (us : List Part) → us ≡ mixed_parts t s ls ps ys m ws → IsAccepted t s (greatest c m us) × ((greatest c m us).mark ≡ marks.Greatest)
    weighed_greatest c e us f =
        let l = law is ys cs b y m solved in
        let d = some_same (sym cert_there ∙ e) in
        let g = sym (f ∙ ap (λ vs. mixed_parts t s ls ps ys m vs) ws_are) in (
          subst (λ (x : Cert). IsAccepted t s (greatest x m us)) d
              (subst (λ (vs : List Part). IsAccepted t s (greatest (fact_certificate t s ls ps y.scale y.facts (fact_low y.scale y.facts)) m vs)) g (record { form = l.1; accepts = l.2 })),
          refl,
        )
