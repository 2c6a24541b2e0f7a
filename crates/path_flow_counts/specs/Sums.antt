-- What a function adds to the flow of a system, modulo 2^128.
use Rattle.std.specs.Prelude.{◌≡◌, ℕ, ◌+◌, ◌&&◌, nat_lt, List, [], ◌∷◌, length, Bool, slice_set, if◌then◌else◌}
use Rattle.code_flow_system.specs.declared.moves.Move.{Move}
use Rattle.code_flow_system.specs.declared.shapes.LoopShape.{LoopShape}
use Rattle.code_flow_system.specs.declared.shapes.Span.{Span}
use Rattle.code_flow_system.specs.Claims.{Claims}
use Rattle.code_flow_system.specs.Systems.{System}
use Rattle.loop_walks.specs.Levels.{Level}
use Rattle.loop_flows.specs.Passes.{amount_at}
use Rattle.loop_flow_counts.specs.declared.back.Back.{Back}
use Rattle.loop_flow_counts.specs.Made.{backs_by}
use Rattle.loop_flow_counts.specs.Wraps.{wrapped, SameCounts}
use Rattle.path_flows.specs.Flows.{Flowing, call_starts, function_backs, function_counts, function_turnings}
use Rattle.path_places.specs.Driver.{Prices}
use Rattle.path_walks.specs.Opens.{is_open}

-- the same but for multiples of 2^128
pub record SameFlow (f g : Flowing) : Type 0 where
  pub starts : SameCounts f.starts g.starts
  pub amounts : SameCounts f.amounts g.amounts

abbrev pub flowing : List ℕ → List ℕ → Flowing
flowing starts amounts = record { starts = starts; amounts = amounts }

-- how often the steps of a function are made, and its jumps back, by what starts it
pub record IsMade (s : System) (ls : List LoopShape) (q : Prices) (v : Level) (p : Span) (starts counts : List ℕ) (backs : List Back) : Type 0 where
  pub counts_are : SameCounts counts (function_counts s ls q v p starts)
  pub backs_are : backs ≡ backs_by (function_turnings s ls q v p) (function_backs s ls q v p starts)

-- jumps back are made so often more
abbrev pub backed : List Back → List ℕ → List ℕ
backed [] us = us
backed (b ∷ bs) us = backed bs (slice_set us b.place (wrapped (amount_at us b.place + b.count)))

-- the next move takes the next count, if there is one and a walk goes through its address
abbrev pub counts_next : Claims → List LoopShape → ℕ → List ℕ → ℕ → Bool
counts_next c ls at counts used = nat_lt used (length counts) && is_open c ls at

-- the flow when a move has been looked at
pub record HasCounted (all : List Move) (taken : Bool) (m : Move) (place : ℕ) (c used : ℕ) (amounts starts : List ℕ) (used' : ℕ) (amounts' starts' : List ℕ) : Type 0 where
  pub used_is : used' ≡ if taken then used + 1 else used
  pub amounts_are : amounts' ≡ if taken then slice_set amounts place (wrapped (amount_at amounts place + c)) else amounts
  pub starts_are : SameCounts starts' (if taken then call_starts all m.to m.behind c starts else starts)
