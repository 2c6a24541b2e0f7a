-- The common denominator of weights, and weighted columns as added flows.
use Rattle.std.proofs.Common.{◌≡◌, ℕ, suc, ◌+◌, ◌<◌, ℤ, pos, ◌+ℤ◌, ◌*ℤ◌, arith, refl, sym, ap, ◌∙◌, List, [], ◌∷◌, length, All}
use Rattle.std.proofs.lemmas.Int.{ints}
use Rattle.std.proofs.lemmas.List.Elements.{All-cons, All-nil, All-head, All-tail}
use Rattle.frac128.specs.Terms.{int_sum_by, applied}
use Rattle.wcc_base.specs.declared.compare.Compare.{Compare}
use Rattle.wcc_base.specs.declared.compare.Compare.TheVariants.{AtMost, AtLeast, Equal}
use Rattle.code_flow_system.specs.declared.claims.FactClaim.{FactClaim}
use Rattle.code_flow_system.specs.declared.moves.Move.{Move}
use Rattle.code_flow_system.specs.Counts.{Amounts, count, Compares}
use Rattle.code_flow_answer.specs.declared.bounded.Column.{Column}
use Rattle.simplex_tables.specs.Rows.{entry}
use Rattle.simplex_rounds.specs.declared.weighing.Weight.{Weight}
use Rattle.simplex_rounds.specs.Weighted.{denominator, numerator}
use Rattle.simplex_rounds.proofs.Multiples.{denominator_is}
use Rattle.simplex_laws.specs.RoundLaws.{column_at, over, IsCommon, IsKept, KeepFacts}
use Rattle.path_fact_kinds.specs.Mixes.{Share, often}
use Rattle.path_fact_kinds.specs.MixLaws.{total_of}
use Rattle.path_fact_kinds.specs.Columns.{ops_of, totals_of}
use Rattle.path_fact_columns.specs.Adding.{shares}

-- ---- the common denominator

pub common_is : (ws : List Weight) → All (λ w. 0 < w.bottom) ws → IsCommon (denominator 1 ws) ws
common_is ws h = let d = denominator_is 1 ws (omega arith) h in record { positive = d.positive; divides = d.each }

-- ---- sums over weights are sums over added flows

module _ (flow : ℕ → Amounts) (n m : ℕ) where
  pub sum_shares : (g : ℕ → ℤ) (k : Amounts → ℤ) → ((i : ℕ) → i < n → g i ≡ k (flow i)) → (ws : List Weight) → All (λ w. w.column < n) ws → applied (over m ws) g ≡ int_sum_by (λ h. pos h.often *ℤ k h.flow) (shares flow m ws)
  sum_shares g k same [] h = refl
  sum_shares g k same (w ∷ ws) h =
      let r = sum_shares g k same ws (All-tail (λ (w : Weight). w.column < n) w ws h) in
      let e = ap (λ (z : ℤ). pos (numerator m w) *ℤ z) (same w.column (All-head (λ (w : Weight). w.column < n) w ws h)) in omega (arith, ints)

  pub often_is : (ws : List Weight) → applied (over m ws) (λ i. pos 1) ≡ pos (often (shares flow m ws))
  often_is [] = refl
  often_is (w ∷ ws) =
      let r = often_is ws in
      let e : pos (numerator m w) *ℤ pos 1 ≡ pos (numerator m w) = omega (arith, ints) in
      let f : pos (numerator m w + often (shares flow m ws)) ≡ pos (numerator m w) +ℤ pos (often (shares flow m ws)) = omega (arith, ints) in omega (arith, ints)

  pub shares_are : (P : Amounts → Type 0) → ((i : ℕ) → i < n → P (flow i)) → (ws : List Weight) → All (λ w. w.column < n) ws → All (λ h. P h.flow) (shares flow m ws)
  shares_are P each [] h = All-nil (λ h. P h.flow)
  shares_are P each (w ∷ ws) h = All-cons (λ (h : Share). P h.flow) (record { often = numerator m w; flow = flow w.column }) (shares flow m ws)
      (each w.column (All-head (λ (w : Weight). w.column < n) w ws h)) (shares_are P each ws (All-tail (λ (w : Weight). w.column < n) w ws h))

-- ---- the facts

compared : (o : Compare) (y z : ℤ) → y ≡ z → IsKept o y → Compares o z (pos 0)
compared AtMost y z e h = omega (arith, ints)
compared AtLeast y z e h = omega (arith, ints)
compared Equal y z e h = sym e ∙ h

module _ (cs : List Column) (ms : List Move) (flow : ℕ → Amounts) (m : ℕ) (ws : List Weight) (inside : All (λ w. w.column < length cs) ws) where
  facts_from : (fs : List FactClaim) (n : ℕ) → ((i j : ℕ) → i < length cs → entry (column_at cs i).totals (n + j) ≡ entry (totals_of fs (count (flow i) ms)) j) → KeepFacts cs (over m ws) n (ops_of fs) →
      All (λ f. Compares f.op (int_sum_by (λ h. pos h.often *ℤ total_of f (count h.flow ms)) (shares flow m ws)) (pos 0)) fs
  facts_from [] n same h = All-nil (λ f. Compares f.op (int_sum_by (λ h. pos h.often *ℤ total_of f (count h.flow ms)) (shares flow m ws)) (pos 0))
  facts_from (f ∷ fs) n same h = All-cons (λ f. Compares f.op (int_sum_by (λ h. pos h.often *ℤ total_of f (count h.flow ms)) (shares flow m ws)) (pos 0)) f fs
      (compared f.op (applied (over m ws) (λ i. entry (column_at cs i).totals n)) (int_sum_by (λ h. pos h.often *ℤ total_of f (count h.flow ms)) (shares flow m ws))
      (sum_shares flow (length cs) m (λ i. entry (column_at cs i).totals n) (λ x. total_of f (count x ms)) (λ i lt. here i lt) ws inside) h.0)
      (facts_from fs (n + 1) (λ i j lt. later i j lt) h.1)
    where
      here : (i : ℕ) → i < length cs → entry (column_at cs i).totals n ≡ total_of f (count (flow i) ms)
      here i lt = ap (entry (column_at cs i).totals) {x = n} {y = n + 0} (omega arith) ∙ same i 0 lt

      later : (i j : ℕ) → i < length cs → entry (column_at cs i).totals ((n + 1) + j) ≡ entry (totals_of fs (count (flow i) ms)) j
      later i j lt = ap (entry (column_at cs i).totals) {x = (n + 1) + j} {y = n + suc j} (omega arith) ∙ same i (suc j) lt

  pub facts_of : (fs : List FactClaim) → ((i : ℕ) → i < length cs → (column_at cs i).totals ≡ totals_of fs (count (flow i) ms)) → KeepFacts cs (over m ws) 0 (ops_of fs) →
      All (λ f. Compares f.op (int_sum_by (λ h. pos h.often *ℤ total_of f (count h.flow ms)) (shares flow m ws)) (pos 0)) fs
  facts_of fs same h = facts_from fs 0 (λ i j lt. at_zero i j lt) h
    where
      at_zero : (i j : ℕ) → i < length cs → entry (column_at cs i).totals (0 + j) ≡ entry (totals_of fs (count (flow i) ms)) j
      at_zero i j lt = ap (λ (ts : List ℤ). entry ts (0 + j)) (same i lt) ∙ ap (entry (totals_of fs (count (flow i) ms))) {x = 0 + j} {y = j} (omega arith)
