-- The answer at the multipliers of the first phase is best for the totals alone: values are no greater than that of the first column, and the multipliers have one more than it as a factor.
use Rattle.std.proofs.Common.{◌≡◌, ℕ, suc, ◌+◌, ◌*◌, ◌≤◌, ◌^◌, ℤ, pos, neg_ℤ, ◌+ℤ◌, ◌-ℤ◌, ◌*ℤ◌, ◌≤ℤ◌, arith, refl, sym, ap, ◌∙◌, subst, List, [], ◌∷◌, length, All, unsigned_abs}
use lib.IntN.{negsuc, *ℤ_comm}
use Rattle.std.proofs.Math.IntN.{zero-*ℤ}
use Rattle.std.proofs.Math.Nat.{mul-le-mul_left}
use Rattle.std.proofs.lemmas.Int.{ints}
use Rattle.std.proofs.lemmas.List.Elements.{All-cons, All-nil, All-head, All-tail}
use Rattle.frac128.proofs.SignedLemmas.{mul-add, mul-sub, mul_assoc, mul-le, le_of_mul-lt}
use Rattle.rv_core.specs.Table.{Table}
use Rattle.code_flow_system.specs.declared.shapes.LoopShape.{LoopShape}
use Rattle.code_flow_system.specs.declared.shapes.Span.{Span}
use Rattle.code_flow_system.specs.declared.claims.FactClaim.{FactClaim}
use Rattle.code_flow_system.specs.Systems.{System}
use Rattle.code_flow_system.specs.Counts.{Amounts, count, total}
use Rattle.code_flow_system.specs.Flows.{IsFlow, price, value}
use Rattle.path_ranges.proofs.TotalLemmas.{total_least}
use Rattle.code_flow_answer.specs.declared.bounded.Column.{Column}
use Rattle.path_flows.specs.Free.{free}
use Rattle.path_cert.specs.Priced.{fact_price, fact_total, fact_prices, fact_low}
use Rattle.path_cert.specs.Facts.{IsFactFlow, HasFactFlow}
use Rattle.path_cert.proofs.PricedLemmas.{prices_pay}
use Rattle.path_fact_kinds.specs.Columns.{totals_of, column_of, multiplied, weighed, IsBest}
use Rattle.path_conditions.specs.Walking.{IsSearchable}
use Rattle.path_fact_columns.specs.Conditions.{AreNarrow}
use Rattle.path_fact_columns.specs.Answers.{flow_at, worth_at}
use Rattle.path_fact_columns.proofs.WalkLemmas.{flow_there, answer_there}
use Rattle.path_fact_columns.specs.OptimumLaws.{raised_by, FirstAnswersAreBest}

-- ---- numbers

-- multiplied totals of a column are what the facts' totals come to
pub multiplied_is : (n : ℕ → ℤ) (fs : List FactClaim) (ys : List ℤ) → multiplied ys (totals_of fs n) ≡ fact_total fs ys n
multiplied_is n [] [] = refl
multiplied_is n [] (y ∷ ys) = refl
multiplied_is n (f ∷ fs) [] = refl
multiplied_is n (f ∷ fs) (y ∷ ys) = let r = multiplied_is n fs ys in omega (arith, ints)

raised-multiplied : (v : ℤ) (ns ts : List ℤ) → multiplied (raised_by v ns) ts ≡ (v +ℤ pos 1) *ℤ multiplied ns ts
raised-multiplied v [] ts = sym (*ℤ_comm (v +ℤ pos 1) (pos 0) ∙ zero-*ℤ (v +ℤ pos 1))
raised-multiplied v (n ∷ ns) [] = sym (*ℤ_comm (v +ℤ pos 1) (pos 0) ∙ zero-*ℤ (v +ℤ pos 1))
raised-multiplied v (n ∷ ns) (t ∷ ts) =
    let r = raised-multiplied v ns ts in
    let e = mul_assoc (v +ℤ pos 1) n t in
    let f = mul-add (v +ℤ pos 1) (n *ℤ t) (multiplied ns ts) in omega (arith, ints)

-- one more than v, so often, is no more than v
not_positive : (v k : ℤ) → pos 0 ≤ℤ v → ((v +ℤ pos 1) *ℤ k) ≤ℤ v → k ≤ℤ pos 0
not_positive v k h le =
    let c = *ℤ_comm (v +ℤ pos 1) k in
    let z = zero-*ℤ (v +ℤ pos 1) in
    le_of_mul-lt k (pos 0) (v +ℤ pos 1) (omega (arith, ints)) (omega (arith, ints))

larger_size : (v n : ℤ) → pos 0 ≤ℤ v → unsigned_abs n ≤ unsigned_abs ((v +ℤ pos 1) *ℤ n)
larger_size (pos v) (pos n) h =
    let p : (pos v +ℤ pos 1) *ℤ pos n ≡ pos ((v + 1) * n) = product v n in
    let e : unsigned_abs ((pos v +ℤ pos 1) *ℤ pos n) ≡ (v + 1) * n = ap unsigned_abs p in
    let g : (v + 1) * n ≡ v * n + n = omega arith in omega (arith, e, g)
  where
    product : (v n : ℕ) → (pos v +ℤ pos 1) *ℤ pos n ≡ pos ((v + 1) * n)
    product v n = omega (arith, ints)
larger_size (pos v) (negsuc n) h =
    let p : (pos v +ℤ pos 1) *ℤ negsuc n ≡ neg_ℤ (pos ((v + 1) * suc n)) = product v n in
    let e = ap unsigned_abs p in
    let s : unsigned_abs (neg_ℤ (pos ((v + 1) * suc n))) ≡ (v + 1) * suc n = size ((v + 1) * suc n) in
    let g : (v + 1) * suc n ≡ v * suc n + suc n = omega arith in omega (arith, e, s, g)
  where
    product : (v n : ℕ) → (pos v +ℤ pos 1) *ℤ negsuc n ≡ neg_ℤ (pos ((v + 1) * suc n))
    product v n = omega (arith, ints)

    size : (k : ℕ) → unsigned_abs (neg_ℤ (pos k)) ≡ k
    size k = omega (arith, ints)
larger_size (negsuc v) n h = absurd (omega (arith, ints))

smaller_narrow : (k : ℕ) (v : ℤ) (ns : List ℤ) → pos 0 ≤ℤ v → All (λ z. unsigned_abs z * k ≤ 2 ^ 44) (raised_by v ns) → All (λ z. unsigned_abs z * k ≤ 2 ^ 44) ns
smaller_narrow k v [] h a = All-nil (λ z. unsigned_abs z * k ≤ 2 ^ 44)
smaller_narrow k v (n ∷ ns) h a = All-cons (λ z. unsigned_abs z * k ≤ 2 ^ 44) n ns
    (times (unsigned_abs n) (unsigned_abs ((v +ℤ pos 1) *ℤ n)) (larger_size v n h) (All-head (λ z. unsigned_abs z * k ≤ 2 ^ 44) ((v +ℤ pos 1) *ℤ n) (raised_by v ns) a))
    (smaller_narrow k v ns h (All-tail (λ z. unsigned_abs z * k ≤ 2 ^ 44) ((v +ℤ pos 1) *ℤ n) (raised_by v ns) a))
  where
    times : (a b : ℕ) → a ≤ b → b * k ≤ 2 ^ 44 → a * k ≤ 2 ^ 44
    times a b le lt = let e : k * a ≤ k * b = mul-le-mul_left k le in let c : k * a ≡ a * k = omega arith in let d : k * b ≡ b * k = omega arith in omega (arith, c, d, e, lt)

pub raised-long : (v : ℤ) (ns : List ℤ) → length (raised_by v ns) ≡ length ns
raised-long v [] = refl
raised-long v (n ∷ ns) = ap suc (raised-long v ns)

module _ (t : Table) (s : System) (ls : List LoopShape) (ps : List Span) (is : IsSearchable t s ls ps) (c : Column) (ns : List ℤ) (first : IsBest t s 1 [] c) (narrow : AreNarrow s 1 (raised_by c.value ns)) (worth : pos 0 ≤ℤ worth_at t s ls ps 1 (raised_by c.value ns)) where
  -- what a flow of one unit makes of the facts together
  abbrev m_of : Amounts → ℤ
  m_of x = multiplied ns (totals_of s.claims.facts (count x s.moves))

  values_least : (x : Amounts) → pos 0 ≤ℤ value t s x
  values_least x = total_least (price t s) x s.moves (λ k ik. natural (price t s k) refl)
    where
      natural : (z : ℤ) {n : ℕ} → z ≡ pos n → pos 0 ≤ℤ z
      natural z e = omega (arith, ints)

  values_most : (x : Amounts) → IsFlow (free s) 1 x → value t s x ≤ℤ c.value
  values_most x flow = let b = first.best 1 x flow in one (value t s x) c.value b
    where
      one : (a b : ℤ) → ((pos 1 *ℤ a) -ℤ pos 0) ≤ℤ (pos 1 *ℤ ((pos 1 *ℤ b) -ℤ pos 0)) → a ≤ℤ b
      one a b h = omega (arith, ints)

  first_least : pos 0 ≤ℤ c.value
  first_least = subst (λ (z : ℤ). pos 0 ≤ℤ z) (sym (ap (λ (k : Column). k.value) first.column.is)) (values_least first.column.amounts)

  abbrev f : Amounts
  f = flow_at t s ls ps 1 (raised_by c.value ns)

  own : IsFactFlow s ls ps (fact_prices t s 1 (raised_by c.value ns) (fact_low 1 (raised_by c.value ns)))
  own = answer_there t s ls ps is 1 (raised_by c.value ns) narrow worth

  -- what a flow comes to at the raised multipliers
  raised_total : (x : Amounts) → fact_total s.claims.facts (raised_by c.value ns) (count x s.moves) ≡ (c.value +ℤ pos 1) *ℤ m_of x
  raised_total x = sym (multiplied_is (count x s.moves) s.claims.facts (raised_by c.value ns)) ∙ raised-multiplied c.value ns (totals_of s.claims.facts (count x s.moves))

  worth_is : worth_at t s ls ps 1 (raised_by c.value ns) ≡ value t s f -ℤ ((c.value +ℤ pos 1) *ℤ m_of f)
  worth_is =
      let e = own.best.total in
      let p = prices_pay t s 1 (raised_by c.value ns) f in
      let r = raised_total f in omega (arith, ints)

  low : m_of f ≤ℤ pos 0
  low = not_positive c.value (m_of f) first_least (let e = worth_is in let v = values_most f own.best.flow in let w = worth in omega (arith, ints))

  -- ---- the best of the totals alone

  zero_narrow : AreNarrow s 0 ns
  zero_narrow = record {
    count = sym (raised-long c.value ns) ∙ narrow.count;
    scaled = omega arith;
    facts = smaller_narrow (length s.claims.loops + 1) c.value ns first_least narrow.facts;
  }

  zero_answer : HasFactFlow t s ls ps 0 ns
  zero_answer = flow_there t s ls ps is 0 ns zero_narrow

  zero_own : IsFactFlow s ls ps (fact_prices t s 0 ns (fact_low 0 ns))
  zero_own = zero_answer.flow (zero_answer.open_entry f own.best.flow)

  -- another flow of one unit has no less
  no_less : (x : Amounts) → IsFlow (free s) 1 x → m_of f ≤ℤ m_of x
  no_less x flow =
      let a = own.best.best 1 x flow in
      let p = prices_pay t s 1 (raised_by c.value ns) x in
      let r = raised_total x in
      let e = worth_is in
      let v = values_most f own.best.flow in
      let w = values_least x in
      let d = mul-sub (c.value +ℤ pos 1) (m_of f) (m_of x) in
      let k = not_positive c.value (m_of f -ℤ m_of x) first_least (omega (arith, ints)) in omega (arith, ints)

  -- a total at a scale of 0
  zero_total : (x : Amounts) → total (fact_price t s 0 ns) x s.moves ≡ neg_ℤ (m_of x)
  zero_total x =
      let p = prices_pay t s 0 ns x in
      let e = multiplied_is (count x s.moves) s.claims.facts ns in
      let z = zero-*ℤ (value t s x) in omega (arith, ints)

  zero_worth : worth_at t s ls ps 0 ns ≤ℤ neg_ℤ (m_of f)
  zero_worth =
      let n = no_less (flow_at t s ls ps 0 ns) zero_own.best.flow in
      let g = zero_own.best.total in
      let p = zero_total (flow_at t s ls ps 0 ns) in omega (arith, ints)

  best : (unit : ℕ) (x : Amounts) → IsFlow (free s) unit x → weighed 0 ns (column_of t s x) ≤ℤ (pos unit *ℤ weighed 0 ns (column_of t s f))
  best unit x flow =
      let a = zero_own.best.best unit x flow in
      let p = zero_total x in
      let w = mul-le unit (worth_at t s ls ps 0 ns) (neg_ℤ (m_of f)) zero_worth in
      let z = zero-*ℤ (value t s f) in
      let y = zero-*ℤ (value t s x) in
      let e : weighed 0 ns (column_of t s f) ≡ neg_ℤ (m_of f) = omega (arith, ints) in
      let g = ap (λ (y : ℤ). pos unit *ℤ y) e in omega (arith, ints)

  is_best : IsBest t s 0 ns (column_of t s (flow_at t s ls ps 1 (raised_by c.value ns)))
  is_best = record {
    column = record { amounts = f; flow = own.best.flow; is = refl };
    best = best;
  }

pub all_best : (t : Table) (s : System) (ls : List LoopShape) (ps : List Span) → FirstAnswersAreBest t s ls ps
all_best t s ls ps is c ns first narrow worth = (is_best t s ls ps is c ns first narrow worth, low t s ls ps is c ns first narrow worth)
