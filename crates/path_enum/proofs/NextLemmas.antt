-- The multipliers of a round, and the column that follows it.
use Rattle.std.proofs.Common.{◌≡◌, ℕ, suc, ◌+◌, ◌≤◌, ◌<◌, ◌^◌, ℤ, pos, neg_ℤ, ◌+ℤ◌, ◌-ℤ◌, ◌*ℤ◌, ◌≤ℤ◌, ◌<ℤ◌, arith, refl, sym, ap, ◌∙◌, subst, List, [], ◌∷◌, length, All, Bool, true, false, unsigned_abs}
use Rattle.std.specs.Int.RustNames.{int_lt}
use lib.IntN.{negsuc, *ℤ_comm}
use Rattle.std.proofs.lemmas.Int.{ints}
use Rattle.std.proofs.lemmas.Bool.Decides.{nat_tests}
use Rattle.frac128.proofs.SignedLemmas.{mul-add, mul-sub, mul_assoc, mul-le, mul_at_most, mul_at_least, mul-le-mul_right}
use Rattle.wcc_base.specs.declared.compare.Compare.{Compare}
use Rattle.wcc_base.specs.declared.compare.Compare.TheVariants.{AtMost, AtLeast, Equal}
use Rattle.rv_core.specs.Table.{Table}
use Rattle.code_flow_system.specs.declared.claims.FactClaim.{FactClaim}
use Rattle.code_flow_system.specs.declared.shapes.LoopShape.{LoopShape}
use Rattle.code_flow_system.specs.declared.shapes.Span.{Span}
use Rattle.code_flow_system.specs.Systems.{System}
use Rattle.code_flow_system.specs.Counts.{count}
use Rattle.code_flow_system.specs.Flows.{value}
use Rattle.code_flow_system.specs.Certificates.{fact_limits, IsSigned}
use Rattle.code_flow_answer.specs.declared.bounded.Column.{Column}
use Rattle.simplex_tables.specs.Rows.{entry}
use Rattle.simplex_tables.proofs.RowLemmas.{Times}
use Rattle.simplex_rounds.specs.declared.pricing.Multipliers.{Multipliers}
use Rattle.simplex_tables.specs.declared.running.Ending.TheVariants.{Second, First}
use Rattle.simplex_tables.specs.declared.table.Table.{Table as Rows}
use Rattle.simplex_tables.specs.Choices.{right}
use Rattle.simplex_rounds.specs.Limits.{is_narrow, all_narrow}
use Rattle.simplex_rounds.specs.Multiplied.{duals, scaled, head_of, tail_of, times_all, first_multipliers, second_multipliers, are_narrow, objective_place}
use Rattle.simplex_rounds.proofs.NarrowLemmas.{narrow_says, all_narrow_say}
use Rattle.simplex_laws.specs.RoundLaws.{HasSign, HaveSigns, IsOptimum, IsInfeasible, column_at}
use Rattle.path_cert.proofs.BestLemmas.{free_loose}
use Rattle.path_fact_kinds.specs.Columns.{ops_of, totals_of, column_of, multiplied, IsBest}
use Rattle.path_conditions.specs.Walking.{IsSearchable}
use Rattle.path_fact_columns.specs.Conditions.{AreNarrow}
use Rattle.path_fact_columns.specs.Answers.{certificate_at, flow_at, worth_at}
use Rattle.path_fact_columns.specs.Adding.{AreAsked}
use Rattle.path_fact_columns.specs.OptimumLaws.{raised_by, FirstAnswersAreBest}
use Rattle.path_fact_columns.proofs.ScaledLemmas.{IsScaled, scaled_is, have_signs, limits_signed, both_true, duals-long}
use Rattle.path_enum.specs.declared.asking.Answered.{Answered}
use Rattle.path_enum.specs.Steps.{AreFirst, IsAnswered, IsNext}
use Rattle.path_enum.proofs.StepLemmas.{value_least, worth_paid}

-- ---- rows and totals

-- a row's multiple
multiplied_times : (g : ℕ) (ds ys ts : List ℤ) → Times g ds ys → multiplied ds ts ≡ pos g *ℤ multiplied ys ts
multiplied_times g [] [] ts h = sym (nothing g)
  where
    nothing : (g : ℕ) → pos g *ℤ pos 0 ≡ pos 0
    nothing g = omega (arith, ints)
multiplied_times g [] (y ∷ ys) ts h = absurd h
multiplied_times g (d ∷ ds) [] ts h = absurd h
multiplied_times g (d ∷ ds) (y ∷ ys) [] h = sym (nothing g)
  where
    nothing : (g : ℕ) → pos g *ℤ pos 0 ≡ pos 0
    nothing g = omega (arith, ints)
multiplied_times g (d ∷ ds) (y ∷ ys) (t ∷ ts) h =
    let r = multiplied_times g ds ys ts h.1 in
    let a = ap (λ (z : ℤ). z *ℤ t) h.0 in
    let b = mul_assoc (pos g) y t in
    let c = mul-add (pos g) (y *ℤ t) (multiplied ys ts) in omega (arith, ints)

-- totals that aren't above 0 together improve on a first phase
first_improves : (g : ℕ) (ds ns ts : List ℤ) (right : ℤ) → Times g ds ns → multiplied ns ts ≤ℤ pos 0 → right ≤ℤ neg_ℤ (pos 1) → right <ℤ neg_ℤ (multiplied ds ts)
first_improves g ds ns ts right h le low =
    let w = multiplied_times g ds ns ts h in
    let m = mul-le g (multiplied ns ts) (pos 0) le in
    let z : pos g *ℤ pos 0 ≡ pos 0 = nothing g in omega (arith, ints)
  where
    nothing : (g : ℕ) → pos g *ℤ pos 0 ≡ pos 0
    nothing g = omega (arith, ints)

-- raised multipliers have the same signs
raised_sign : (v : ℤ) (o : Compare) (y : ℤ) → pos 0 ≤ℤ v → HasSign o y → HasSign o ((v +ℤ pos 1) *ℤ y)
raised_sign v AtMost y h s = mul_at_least (v +ℤ pos 1) y (omega (arith, ints)) s
raised_sign v AtLeast y h s = mul_at_most (v +ℤ pos 1) y (omega (arith, ints)) s
raised_sign v Equal y h s = tt

raised_signs : (v : ℤ) (os : List Compare) (ys : List ℤ) → pos 0 ≤ℤ v → HaveSigns os ys → HaveSigns os (raised_by v ys)
raised_signs v [] ys h s = tt
raised_signs v (o ∷ os) [] h s = absurd s
raised_signs v (o ∷ os) (y ∷ ys) h s = (raised_sign v o y h s.0, raised_signs v os ys h s.1)

raised-long : (v : ℤ) (ns : List ℤ) → length (raised_by v ns) ≡ length ns
raised-long v [] = refl
raised-long v (n ∷ ns) = ap suc (raised-long v ns)

-- a factor of all is the same in both spellings
times_raised : (v : ℤ) (ns : List ℤ) → times_all (v +ℤ pos 1) ns ≡ raised_by v ns
times_raised v [] = refl
times_raised v (n ∷ ns) = ap (λ (zs : List ℤ). ((v +ℤ pos 1) *ℤ n) ∷ zs) (times_raised v ns)

-- a positive factor can be taken out of an order
less_of : (a b : ℤ) (d : ℕ) → 0 < d → (a *ℤ pos d) <ℤ (b *ℤ pos d) → a <ℤ b
less_of a b d some h = by_test (int_lt a b) refl
  where
    by_test : (t : Bool) → int_lt a b ≡ t → a <ℤ b
    by_test true e = grind (arith, ints, nat_tests)
    by_test false e = let g : b ≤ℤ a = grind (arith, ints, nat_tests) in let k = mul-le-mul_right b a (pos d) (omega (arith, ints)) g in absurd (omega (arith, ints))

-- ---- what a round's functions are given, in the words of its facts

ops-long : (fs : List FactClaim) → length (ops_of fs) ≡ length fs
ops-long [] = refl
ops-long (f ∷ fs) = ap suc (ops-long fs)

pub ops_long : (fs : List FactClaim) (os : List Compare) → os ≡ ops_of fs → length os ≡ length fs
ops_long fs os e = ap length e ∙ ops-long fs

pub ops_few : (fs : List FactClaim) (os : List Compare) → os ≡ ops_of fs → length fs ≤ 32 → length os ≤ 32
ops_few fs os e few = let l = ap length e in let k = ops-long fs in omega (arith, l, k, few)

pub first_is : (n m k : ℕ) (os qs : List Compare) (v w : ℤ) (b : Rows) (y : Multipliers) → n ≡ m → os ≡ qs → v ≡ w → (y ≡ first_multipliers k os v b) × (all_narrow n y.facts ≡ true) → (y ≡ first_multipliers k qs w b) × (all_narrow m y.facts ≡ true)
first_is n m k os qs v w b y e f g h = (
  h.0 ∙ (ap (λ (us : List Compare). first_multipliers k us v b) f ∙ ap (λ (z : ℤ). first_multipliers k qs z b) g),
  subst (λ i. all_narrow i y.facts ≡ true) e h.1,
)

pub second_is : (n m k : ℕ) (os qs : List Compare) (b : Rows) (y : Multipliers) → n ≡ m → os ≡ qs → (y ≡ second_multipliers k os b) × (are_narrow n y ≡ true) → (y ≡ second_multipliers k qs b) × (are_narrow m y ≡ true)
second_is n m k os qs b y e f h = (h.0 ∙ ap (λ (us : List Compare). second_multipliers k us b) f, subst (λ i. are_narrow i y ≡ true) e h.1)

-- the value of a best answer
pub best_value : (t : Table) (s : System) (ls : List LoopShape) (ps : List Span) → IsSearchable t s ls ps → (scale : ℕ) (ys : List ℤ) (c : Column) → IsBest t s scale ys c → (pos 0 ≤ℤ c.value) × (c.value <ℤ pos (2 ^ 60))
best_value t s ls ps is scale ys c best =
    let e = ap (λ (k : Column). k.value) best.column.is in
    let l = free_loose s ls ps is.limited.limited.whole 1 best.column.amounts best.column.flow in
    let v = is.limited.limited.values 1 best.column.amounts l in
    let p = value_least t s best.column.amounts in (omega (arith, ints), omega (arith, ints))

pub size_below : (x v : ℤ) → x ≡ v → pos 0 ≤ℤ v → v <ℤ pos (2 ^ 60) → unsigned_abs x < 2 ^ 60
size_below x v e h lt = subst (λ (z : ℤ). unsigned_abs z < 2 ^ 60) (sym e) (below v h lt)
  where
    below : (v : ℤ) → pos 0 ≤ℤ v → v <ℤ pos (2 ^ 60) → unsigned_abs v < 2 ^ 60
    below (pos n) h lt = omega (arith, ints)
    below (negsuc n) h lt = absurd (omega (arith, ints))

module _ (t : Table) (s : System) (ls : List LoopShape) (ps : List Span) (is : IsSearchable t s ls ps) (cs : List Column) (b : Rows) where
  abbrev n : ℕ
  n = length s.claims.loops + 1

  -- ---- the first phase

  module _ (firsts : AreFirst t s cs) (ends : IsInfeasible cs (ops_of s.claims.facts) b) (y : Multipliers) (y_is : y ≡ first_multipliers (length cs) (ops_of s.claims.facts) (column_at cs 0).value b) (past : all_narrow (length s.claims.loops + 1) y.facts ≡ true) where
    abbrev ns : List ℤ
    ns = tail_of (scaled (length cs) (ops_of s.claims.facts) 0 b.one)

    numbers : IsScaled (entry b.one (objective_place (length cs) (ops_of s.claims.facts) 0)) (duals (length cs + 1) (ops_of s.claims.facts) b.one) (unsigned_abs (head_of (scaled (length cs) (ops_of s.claims.facts) 0 b.one))) (tail_of (scaled (length cs) (ops_of s.claims.facts) 0 b.one))
    numbers = scaled_is (entry b.one (objective_place (length cs) (ops_of s.claims.facts) 0)) (duals (length cs + 1) (ops_of s.claims.facts) b.one) ends.scale

    facts_are : y.facts ≡ raised_by (column_at cs 0).value ns
    facts_are = ap (λ (u : Multipliers). u.facts) y_is ∙ times_raised (column_at cs 0).value ns

    scale_is : y.scale ≡ 1
    scale_is = ap (λ (u : Multipliers). u.scale) y_is

    first_least : pos 0 ≤ℤ (column_at cs 0).value
    first_least = subst (λ (z : ℤ). pos 0 ≤ℤ z) (sym (ap (λ (k : Column). k.value) firsts.best.column.is)) (value_least t s firsts.best.column.amounts)

    raised_narrow : AreNarrow s 1 (raised_by (column_at cs 0).value ns)
    raised_narrow = record {
      count = raised-long (column_at cs 0).value ns ∙ (numbers.long ∙ duals-long (length cs + 1) s.claims.facts b.one);
      scaled = (let f = is.limited.limited.few in omega (arith, f));
      facts = all_narrow_say (length s.claims.loops + 1) (raised_by (column_at cs 0).value ns) (subst (λ us. all_narrow (length s.claims.loops + 1) us ≡ true) facts_are past);
    }

    pub first_some : 0 < y.scale
    first_some = let e = scale_is in omega (arith, e)

    pub first_narrow : AreNarrow s y.scale y.facts
    first_narrow = subst (λ k. AreNarrow s k y.facts) (sym scale_is) (subst (λ us. AreNarrow s 1 us) (sym facts_are) raised_narrow)

    pub first_signs : All IsSigned (fact_limits s.claims.facts y.facts)
    first_signs = subst (λ us. All IsSigned (fact_limits s.claims.facts us)) (sym facts_are)
        (limits_signed s.claims.facts (raised_by (column_at cs 0).value ns) (raised_signs (column_at cs 0).value (ops_of s.claims.facts) ns first_least (have_signs numbers.factor (ops_of s.claims.facts) (duals (length cs + 1) (ops_of s.claims.facts) b.one) ns numbers.positive numbers.tail ends.signs)))

    pub first_next : FirstAnswersAreBest t s ls ps → (a : Answered) → IsAnswered t s ls ps y a → IsNext t s ls ps cs (First b) a
    first_next law a h =
        let worth : pos 0 ≤ℤ worth_at t s ls ps 1 (raised_by (column_at cs 0).value ns) = subst (λ us. pos 0 ≤ℤ worth_at t s ls ps 1 us) facts_are (subst (λ k. pos 0 ≤ℤ worth_at t s ls ps k y.facts) scale_is (subst (λ (z : ℤ). pos 0 ≤ℤ z) h.worth h.positive)) in
        let best = law is (column_at cs 0) ns firsts.best raised_narrow worth in
        let same : column_of t s (flow_at t s ls ps 1 (raised_by (column_at cs 0).value ns)) ≡ a.column = sym (h.column ∙ (ap (λ k. column_of t s (flow_at t s ls ps k y.facts)) scale_is ∙ ap (λ us. column_of t s (flow_at t s ls ps 1 us)) facts_are)) in record {
          follows = (
            subst (IsBest t s 0 ns) same best.0,
            subst (λ (c : Column). right b.one <ℤ neg_ℤ (multiplied (duals (length cs + 1) (ops_of s.claims.facts) b.one) c.totals)) same (first_improves numbers.factor (duals (length cs + 1) (ops_of s.claims.facts) b.one) ns (column_of t s (flow_at t s ls ps 1 (raised_by (column_at cs 0).value ns))).totals (right b.one) numbers.tail best.1 ends.negative),
          );
          asked = subst (AreAsked t s ls ps) (sym h.multipliers) (record { scale = first_some; narrow = first_narrow; worth = subst (λ (z : ℤ). pos 0 ≤ℤ z) h.worth h.positive });
          column = h.column ∙ ap (λ (u : Multipliers). column_of t s (flow_at t s ls ps u.scale u.facts)) (sym h.multipliers);
          each = h.each;
          bound = h.bound;
          cert = subst (λ (u : Multipliers). a.cert ≡ certificate_at t s ls ps u.scale u.facts) (sym h.multipliers) h.cert;
        }

  -- ---- the second phase

  module _ (ends : IsOptimum cs (ops_of s.claims.facts) b) (y : Multipliers) (y_is : y ≡ second_multipliers (length cs) (ops_of s.claims.facts) b) (past : are_narrow (length s.claims.loops + 1) y ≡ true) where
    second_numbers : IsScaled (entry b.two (objective_place (length cs) (ops_of s.claims.facts) 1)) (duals (length cs + 1) (ops_of s.claims.facts) b.two) y.scale y.facts
    second_numbers = subst (λ (u : Multipliers). IsScaled (entry b.two (objective_place (length cs) (ops_of s.claims.facts) 1)) (duals (length cs + 1) (ops_of s.claims.facts) b.two) u.scale u.facts) (sym y_is)
        (scaled_is (entry b.two (objective_place (length cs) (ops_of s.claims.facts) 1)) (duals (length cs + 1) (ops_of s.claims.facts) b.two) ends.scale)

    limited : (is_narrow (length s.claims.loops + 1) y.scale ≡ true) × (all_narrow (length s.claims.loops + 1) y.facts ≡ true)
    limited = both_true (is_narrow (length s.claims.loops + 1) y.scale) (all_narrow (length s.claims.loops + 1) y.facts) past

    pub second_some : 0 < y.scale
    second_some = second_numbers.some

    pub second_narrow : AreNarrow s y.scale y.facts
    second_narrow = record {
      count = second_numbers.long ∙ duals-long (length cs + 1) s.claims.facts b.two;
      scaled = narrow_says (length s.claims.loops + 1) y.scale limited.0;
      facts = all_narrow_say (length s.claims.loops + 1) y.facts limited.1;
    }

    pub second_signs : All IsSigned (fact_limits s.claims.facts y.facts)
    second_signs = limits_signed s.claims.facts y.facts (have_signs second_numbers.factor (ops_of s.claims.facts) (duals (length cs + 1) (ops_of s.claims.facts) b.two) y.facts second_numbers.positive second_numbers.tail ends.signs)

    -- the answer's worth, times the divisor, is what the round compares
    round_worth : (pos 0 ≤ℤ worth_at t s ls ps y.scale y.facts) → (pos second_numbers.factor *ℤ worth_at t s ls ps y.scale y.facts) ≡
        (entry b.two (objective_place (length cs) (ops_of s.claims.facts) 1) *ℤ value t s (flow_at t s ls ps y.scale y.facts)) -ℤ multiplied (duals (length cs + 1) (ops_of s.claims.facts) b.two) (totals_of s.claims.facts (count (flow_at t s ls ps y.scale y.facts) s.moves))
    round_worth h =
        let w = worth_paid t s ls ps is y.scale y.facts second_some second_narrow h in
        let g = ap (λ (z : ℤ). pos second_numbers.factor *ℤ z) w in
        let m = mul-sub (pos second_numbers.factor) (pos y.scale *ℤ value t s (flow_at t s ls ps y.scale y.facts)) (multiplied y.facts (totals_of s.claims.facts (count (flow_at t s ls ps y.scale y.facts) s.moves))) in
        let a = mul_assoc (pos second_numbers.factor) (pos y.scale) (value t s (flow_at t s ls ps y.scale y.facts)) in
        let e = ap (λ (z : ℤ). z *ℤ value t s (flow_at t s ls ps y.scale y.facts)) second_numbers.head in
        let r = multiplied_times second_numbers.factor (duals (length cs + 1) (ops_of s.claims.facts) b.two) y.facts (totals_of s.claims.facts (count (flow_at t s ls ps y.scale y.facts) s.moves)) second_numbers.tail in omega (arith, ints)

    pub second_next : (a : Answered) → IsAnswered t s ls ps y a → (right b.two *ℤ pos y.scale) <ℤ (a.worth *ℤ entry b.two (objective_place (length cs) (ops_of s.claims.facts) 1)) → IsNext t s ls ps cs (Second b) a
    second_next a h lt =
        let w : pos 0 ≤ℤ worth_at t s ls ps y.scale y.facts = subst (λ (z : ℤ). pos 0 ≤ℤ z) h.worth h.positive in
        let e = ap (λ (z : ℤ). a.worth *ℤ z) second_numbers.head in
        let c = mul_assoc a.worth (pos second_numbers.factor) (pos y.scale) in
        let k = less_of (right b.two) (a.worth *ℤ pos second_numbers.factor) y.scale second_some (omega (arith, ints)) in
        let q = *ℤ_comm a.worth (pos second_numbers.factor) in
        let v = ap (λ (z : ℤ). pos second_numbers.factor *ℤ z) h.worth in
        let g = round_worth w in
        let improves : right b.two <ℤ ((entry b.two (objective_place (length cs) (ops_of s.claims.facts) 1) *ℤ value t s (flow_at t s ls ps y.scale y.facts)) -ℤ multiplied (duals (length cs + 1) (ops_of s.claims.facts) b.two) (totals_of s.claims.facts (count (flow_at t s ls ps y.scale y.facts) s.moves))) = omega (arith, ints) in record {
          follows = (
            subst (λ (u : Multipliers). IsBest t s u.scale u.facts a.column) y_is h.best,
            subst (λ (x : Column). right b.two <ℤ ((entry b.two (objective_place (length cs) (ops_of s.claims.facts) 1) *ℤ x.value) -ℤ multiplied (duals (length cs + 1) (ops_of s.claims.facts) b.two) x.totals)) (sym h.column) improves,
          );
          asked = subst (AreAsked t s ls ps) (sym h.multipliers) (record { scale = second_some; narrow = second_narrow; worth = w });
          column = h.column ∙ ap (λ (u : Multipliers). column_of t s (flow_at t s ls ps u.scale u.facts)) (sym h.multipliers);
          each = h.each;
          bound = h.bound;
          cert = subst (λ (u : Multipliers). a.cert ≡ certificate_at t s ls ps u.scale u.facts) (sym h.multipliers) h.cert;
        }
