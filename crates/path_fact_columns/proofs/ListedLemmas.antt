-- A flow that is listed move by move is the flow.
use Rattle.std.proofs.Common.{◌≡◌, ℕ, ℤ, pos, ◌+ℤ◌, ◌*ℤ◌, refl, sym, ap, ◌∙◌, subst, List, [], ◌∷◌, ◌++◌, length, suc}
use Rattle.frac128.specs.Terms.{Terms, coefficient}
use Rattle.code_flow_system.specs.declared.moves.Move.{Move}
use Rattle.code_flow_system.specs.Moves.{destinations}
use Rattle.code_flow_system.specs.Systems.{System}
use Rattle.code_flow_system.specs.Counts.{Amounts, departures, each_with, arrivals, count, total, KeepsCounts}
use Rattle.code_flow_system.specs.Flows.{IsFlow}
use Rattle.path_flows.proofs.SumLemmas.{AreAmounts}
use Rattle.path_fact_columns.specs.Adding.{amounts_in}

pub amounts-long : (y : Amounts) (ms : List Move) → length (amounts_in y ms) ≡ length ms
amounts-long y [] = refl
amounts-long y (m ∷ ms) = ap suc (amounts-long y ms)

module _ (x y : Amounts) where
  pub departures_same : (ms : List Move) → AreAmounts x ms (amounts_in y ms) → departures x ms ≡ departures y ms
  departures_same [] h = refl
  departures_same (m ∷ ms) h =
      ap (λ n. (m.at, pos n) ∷ departures x ms) h.0 ∙ ap (λ (ts : Terms). (m.at, pos (y m.at m.number)) ∷ ts) (departures_same ms h.1)

  pub counts_same : (ms : List Move) → AreAmounts x ms (amounts_in y ms) → count x ms ≡ count y ms
  counts_same ms h = ap (λ (ts : Terms). coefficient ts) (departures_same ms h)

  pub arrivals_same : (ms : List Move) → AreAmounts x ms (amounts_in y ms) → arrivals x ms ≡ arrivals y ms
  arrivals_same [] h = refl
  arrivals_same (m ∷ ms) h =
      ap (λ n. each_with (pos n) (destinations m) ++ arrivals x ms) h.0 ∙ ap (λ (ts : Terms). each_with (pos (y m.at m.number)) (destinations m) ++ ts) (arrivals_same ms h.1)

  pub total_same : (f : Move → ℤ) (ms : List Move) → AreAmounts x ms (amounts_in y ms) → total f x ms ≡ total f y ms
  total_same f [] h = refl
  total_same f (m ∷ ms) h =
      ap (λ n. (pos n *ℤ f m) +ℤ total f x ms) h.0 ∙ ap (λ (z : ℤ). (pos (y m.at m.number) *ℤ f m) +ℤ z) (total_same f ms h.1)

  pub flow_same : (s : System) (unit : ℕ) → AreAmounts x s.moves (amounts_in y s.moves) → IsFlow s unit y → IsFlow s unit x
  flow_same s unit h flow =
      let d = departures_same s.moves h in
      let a = arrivals_same s.moves h in record {
        positive = flow.positive;
        conserved = λ b. ap (λ (ts : Terms). coefficient ts b) d ∙ (flow.conserved b ∙ ap (λ (ts : Terms). coefficient ((s.entry, pos unit) ∷ ts) b) (sym a));
        claims = subst (λ (ts : Terms). KeepsCounts s.claims (coefficient ts)) (sym d) flow.claims;
      }
