-- Flows without facts that keep them together (Dantzig and Wolfe 1960).
use Rattle.std.specs.Prelude.{◌≡◌, ℕ, ◌<◌, ℤ, pos, ◌-ℤ◌, ◌*ℤ◌, List, All}
use Rattle.frac128.specs.Terms.{int_sum_by, applied}
use Rattle.rv_core.specs.Table.{Table}
use Rattle.code_flow_system.specs.declared.claims.FactClaim.{FactClaim}
use Rattle.code_flow_system.specs.Systems.{System}
use Rattle.code_flow_system.specs.Counts.{count, Compares}
use Rattle.code_flow_system.specs.Flows.{IsFlow, value}
use Rattle.path_flows.specs.Free.{free}
use Rattle.path_fact_kinds.specs.Mixes.{Share, mix, often}

-- a fact's left side less its right side
abbrev pub total_of : FactClaim → (ℕ → ℤ) → ℤ
total_of f n = applied f.left n -ℤ applied f.right n

-- flows without the facts, so often each, are a flow where their totals together keep the facts; its value is theirs
abbrev pub MixesAreFlows : Table → System → Type 0
MixesAreFlows t s = (hs : List Share) → 0 < often hs → All (λ h. IsFlow (free s) 1 h.flow) hs →
    All (λ f. Compares f.op (int_sum_by (λ h. pos h.often *ℤ total_of f (count h.flow s.moves)) hs) (pos 0)) s.claims.facts →
    IsFlow s (often hs) (mix hs) × (value t s (mix hs) ≡ int_sum_by (λ h. pos h.often *ℤ value t s h.flow) hs)
