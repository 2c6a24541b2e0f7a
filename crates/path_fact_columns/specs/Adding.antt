-- Flows that are added, each so often, move by move.
use Rattle.std.specs.Prelude.{ℕ, ◌+◌, ◌*◌, ◌<◌, ◌≤◌, ◌^◌, pos, ◌≤ℤ◌, List, [], ◌∷◌, length, map, slice_index_or, All}
use Rattle.rv_core.specs.Table.{Table}
use Rattle.code_flow_system.specs.declared.cert.Part.{Part}
use Rattle.code_flow_system.specs.declared.moves.Move.{Move}
use Rattle.code_flow_system.specs.declared.shapes.LoopShape.{LoopShape}
use Rattle.code_flow_system.specs.declared.shapes.Span.{Span}
use Rattle.code_flow_system.specs.Systems.{System}
use Rattle.code_flow_system.specs.Counts.{Amounts}
use Rattle.path_flows.specs.Flows.{parts_of}
use Rattle.simplex_rounds.specs.declared.pricing.Multipliers.{Multipliers}
use Rattle.simplex_rounds.specs.declared.weighing.Weight.{Weight}
use Rattle.simplex_rounds.specs.Weighted.{numerator}
use Rattle.path_fact_kinds.specs.Mixes.{Share, mix}
use Rattle.path_fact_columns.specs.Conditions.{AreNarrow}
use Rattle.path_fact_columns.specs.Answers.{flow_at, worth_at}

abbrev pub no_multipliers : Multipliers
no_multipliers = record { scale = 0; facts = [] }

-- the flow of the answer at the multipliers of that number
abbrev pub flow_of : Table → System → List LoopShape → List Span → List Multipliers → ℕ → Amounts
flow_of t s ls ps ys i = flow_at t s ls ps (slice_index_or ys i no_multipliers).scale (slice_index_or ys i no_multipliers).facts

-- the numerators of weights over a denominator, each with the flow of its column
abbrev pub shares : (ℕ → Amounts) → ℕ → List Weight → List Share
shares flow m [] = []
shares flow m (w ∷ ws) = record { often = numerator m w; flow = flow w.column } ∷ shares flow m ws

-- a flow's amounts, so often, added to amounts of moves
abbrev pub raised : ℕ → Amounts → List Move → List ℕ → List ℕ
raised n x [] us = us
raised n x (m ∷ ms) [] = []
raised n x (m ∷ ms) (u ∷ us) = (u + n * x m.at m.number) ∷ raised n x ms us

abbrev pub amounts_in : Amounts → List Move → List ℕ
amounts_in x ms = map (λ m. x m.at m.number) ms

abbrev pub mixed_parts : Table → System → List LoopShape → List Span → List Multipliers → ℕ → List Weight → List Part
mixed_parts t s ls ps ys m ws = parts_of s.moves (amounts_in (mix (shares (flow_of t s ls ps ys) m ws)) s.moves)

-- multipliers of an answer with a flow
pub record AreAsked (t : Table) (s : System) (ls : List LoopShape) (ps : List Span) (y : Multipliers) : Type 0 where
  pub scale : 0 < y.scale
  pub narrow : AreNarrow s y.scale y.facts
  pub worth : pos 0 ≤ℤ worth_at t s ls ps y.scale y.facts

-- weights of so many columns, whose numerators over a common denominator are narrow; they are few
pub record AreWeights (n m : ℕ) (ws : List Weight) : Type 0 where
  pub few : length ws ≤ 2 ^ 10
  pub small : m ≤ 2 ^ 44
  pub each : All (λ w. (w.column < n) × (0 < w.bottom) × (w.bottom ≤ m) × (numerator m w ≤ 2 ^ 44)) ws
