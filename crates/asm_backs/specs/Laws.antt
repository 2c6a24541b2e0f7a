-- How often loops of laid code jump back, in its flows and in its runs.
use Rattle.std.specs.Prelude.{◌≡◌, ℕ, ◌<◌, Contains, ℤ, List, [], false}
use Rattle.rv_core.specs.Images.{Image, AreLoadable}
use Rattle.code_flow_system.specs.Claims.{Claims}
use Rattle.code_flow_system.specs.Systems.{System, IsSystemOf}
use Rattle.code_flow_system.specs.Counts.{Amounts, count, IsConserved}
use Rattle.asm_items.specs.Placings.{Placing, start_of}
use Rattle.asm_graphs.specs.Graphs.{Loop, Graph}
use Rattle.asm_graphs.specs.Laid.{IsImageOf, last_of}
use Rattle.rv_core.specs.Table.{Table}
use Rattle.rv_core.specs.Machine.{Exited}
use Rattle.rv_core.specs.Runs.{Run, setup, mrun}
use Rattle.code_flow_system.specs.KeptRuns.{visit_count, EndsAtExit}

abbrev pub LatchesAreCounted : Type 0
LatchesAreCounted = (g : Graph) (l : Placing) (main : ℕ) (image : Image) (claims : Claims) (s : System) → IsImageOf g l main image claims → IsSystemOf image claims s → (unit : ℕ) (x : Amounts) → IsConserved s.entry unit x s.moves
    → (f : ℕ) (k : Loop) → f < g.functions → Contains (g.loops f) k → count x s.moves (last_of l f k.latch) ≡ count x s.moves (start_of l f k.latch)

-- a run has ended at the first listed exit to which it came, no call is open, and each return went where its call says
pub record HasEnded (exits : List ℕ) (r : Run) : Type 0 where
  pub value : ℤ
  pub finished : r.state.ending ≡ Exited value
  pub returns : r.astray ≡ false
  pub exit : EndsAtExit exits r.visits
  pub none_left : r.places ≡ []

abbrev pub LatchesAreVisited : Type 0
LatchesAreVisited =
    (g : Graph) (l : Placing) (main : ℕ) (image : Image) (claims : Claims) (s : System) → IsImageOf g l main image claims → IsSystemOf image claims s → AreLoadable image.segments
    → (t : Table) (input : List ℕ) (n : ℕ) → HasEnded claims.exits (mrun (setup image t input) n)
    → (f : ℕ) (k : Loop) → f < g.functions → Contains (g.loops f) k → visit_count (mrun (setup image t input) n).visits (last_of l f k.latch) ≡ visit_count (mrun (setup image t input) n).visits (start_of l f k.latch)
