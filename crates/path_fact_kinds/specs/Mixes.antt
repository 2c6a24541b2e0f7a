-- Flows that are added, each so often.
use Rattle.std.specs.Prelude.{ℕ, ◌+◌, ◌*◌, List, [], ◌∷◌}
use Rattle.code_flow_system.specs.Counts.{Amounts}

abbrev pub added : Amounts → Amounts → Amounts
added x y a k = x a k + y a k

abbrev pub times : ℕ → Amounts → Amounts
times n x a k = n * x a k

abbrev pub nothing : Amounts
nothing a k = 0

-- a flow, and how often it is added
pub record Share : Type 0 where
  pub often : ℕ
  pub flow : Amounts

abbrev pub mix : List Share → Amounts
mix [] = nothing
mix (h ∷ hs) = added (times h.often h.flow) (mix hs)

abbrev pub often : List Share → ℕ
often [] = 0
often (h ∷ hs) = h.often + often hs
