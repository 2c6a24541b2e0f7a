-- What the visits of a run tell of the run over places that it follows.
use Rattle.std.specs.Prelude.{◌≡◌, ℕ, ◌<◌, pos, length}
use Rattle.rv_core.specs.Runs.{Setup, mrun}
use Rattle.code_flow_system.specs.declared.claims.LoopClaim.{LoopClaim}
use Rattle.code_flow_system.specs.Counts.{KeepsLoop}
use Rattle.code_flow_system.specs.KeptRuns.{visit_count, EndsAtExit}
use Rattle.low_ir.specs.Code.{Loop}
use Rattle.low_ir.specs.Effects.{World}
use Rattle.low_ir.specs.Places.{Placed}
use Rattle.register_places.specs.Totals.{began_count, KeepsTotals}
use Rattle.asm_program.specs.Functions.{function_in}
use Rattle.simulation_relation.specs.Layouts.{Layout}
use Rattle.simulation_relation.specs.Following.{Ends}
use Rattle.image_frames.specs.Memories.{Placement}
use Rattle.image_definition.specs.Images.{exits_in}
use Rattle.simulation_loaded.specs.Layouts.{layout_of}

-- a block's start is visited as often as the block begins
abbrev pub StartsAreCounted : Type 0
StartsAreCounted = (pl : Placement) (p : Placed) (s : Setup) (v : ℕ) (u : World) (n : ℕ) → Ends (layout_of pl p) s v u n → (f b : ℕ) → f < length p.functions → b < length (function_in p f).blocks
    → visit_count (mrun s n).visits ((layout_of pl p).starts f b) ≡ pos (began_count f b u.trace)

abbrev pub EndsAreExits : Type 0
EndsAreExits = (pl : Placement) (p : Placed) (s : Setup) (v : ℕ) (u : World) (n : ℕ) → Ends (layout_of pl p) s v u n → EndsAtExit (exits_in pl p) (mrun s n).visits

-- a claim on a loop of the program
pub record IsClaimOn (l : Layout) (f : ℕ) (k : Loop) (c : LoopClaim) : Type 0 where
  pub least : c.min ≡ k.least
  pub most : c.max ≡ k.most
  pub header : c.header ≡ l.starts f k.header

-- is kept where the loop keeps its bounds in all, and its jump back is visited as often as its latch begins
abbrev pub LoopsAreKept : Type 0
LoopsAreKept = (pl : Placement) (p : Placed) (s : Setup) (v : ℕ) (u : World) (n : ℕ) → Ends (layout_of pl p) s v u n → (f : ℕ) (k : Loop) (c : LoopClaim) → f < length p.functions → k.header < length (function_in p f).blocks → k.latch < length (function_in p f).blocks
    → KeepsTotals f u.trace k → IsClaimOn (layout_of pl p) f k c → visit_count (mrun s n).visits c.back ≡ visit_count (mrun s n).visits ((layout_of pl p).starts f k.latch) → KeepsLoop (visit_count (mrun s n).visits) c
