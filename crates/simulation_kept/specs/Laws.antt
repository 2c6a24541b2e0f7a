-- Runs of the image of a program keep the claims on it, and end within the cycles of an accepted certificate.
use Rattle.std.specs.Prelude.{ℕ, All, ◌<◌, ◌≤◌, List, length}
use Rattle.rv_core.specs.Runs.{Setup, mrun, Run, setup}
use Rattle.code_flow_system.specs.KeptRuns.{KeepsLine, KeepsClaims}
use Rattle.low_ir.specs.Effects.{World}
use Rattle.low_ir.specs.Places.{Placed, Placing, assignment, placed}
use Rattle.claims_definition.specs.ClaimLaws.{IsSettled}
use Rattle.claims_definition.specs.Listed.{regions_of, claims_of}
use Rattle.image_frames.specs.Memories.{Placement}
use Rattle.claims_image.specs.Images.{laid_of}
use Rattle.simulation_relation.specs.Following.{Ends}
use Rattle.simulation_loaded.specs.Layouts.{layout_of}
use Rattle.rv_core.specs.Table.{Table}
use Rattle.code_flow_system.specs.declared.cert.Cert.{Cert}
use Rattle.code_flow_system.specs.Certificates.{Accepts}
use Rattle.code_flow_system.specs.Claims.{Claims}
use Rattle.code_flow_system.specs.Systems.{System, IsSystemOf}
use Rattle.low_ir.specs.Code.{Low}
use Rattle.low_ir.specs.Formed.{IsLow}
use Rattle.low_ir.specs.Runs.{lrun}
use Rattle.low_ir.specs.Turns.{IsGood}
use Rattle.low_ir.specs.Spacing.{IsAssignment}
use Rattle.register_places.specs.Totals.{KeepsTotals}
use Rattle.asm_program.specs.Formed.{IsProgram}
use Rattle.asm_program.specs.Functions.{function_in}
use Rattle.asm_program.specs.Ranges.{InProgram}
use Rattle.image_definition.specs.Images.{image_in, FitsImage}
use Rattle.claims_definition.specs.AccessLaws.{IsNamed}

-- each visit within a line of regions touches only those that the line names
abbrev pub RegionsAreKept : Type 0
RegionsAreKept =
    (pl : Placement) (p : Placed) → IsSettled (laid_of pl p) → (s : Setup) (v : ℕ) (u : World) (n : ℕ) → Ends (layout_of pl p) s v u n
    → All (λ x. All (KeepsLine x) (regions_of (laid_of pl p))) (mrun s n).visits

abbrev pub claims_on : Placement → Placed → Claims
claims_on pl p = claims_of (laid_of pl p)

-- n steps of the machine that runs the image of a program, at some costs and on some input
abbrev pub run_of : Placement → Placed → Table → List ℕ → ℕ → Run
run_of pl p t input n = mrun (setup (image_in pl p) t input) n

-- the flow system of the image and the claims on it
abbrev pub HasSystem : Placement → Placed → System → Type 0
HasSystem pl p s = IsSystemOf (image_in pl p) (claims_on pl p) s

-- in all their entries together the loops keep their bounds
abbrev pub LoopsKeepTotals : Placed → World → Type 0
LoopsKeepTotals p u = (f : ℕ) → f < length p.functions → All (KeepsTotals f u.trace) (function_in p f).loops

-- where the machine has ended as a run over places
abbrev pub ImagesKeepClaims : Type 0
ImagesKeepClaims =
    (pl : Placement) (p : Placed) (s : System) → IsProgram p → InProgram p → IsNamed p → FitsImage pl p → HasSystem pl p s
    → (t : Table) (input : List ℕ) (n v : ℕ) (u : World) → Ends (layout_of pl p) (setup (image_in pl p) t input) v u n → LoopsKeepTotals p u
    → KeepsClaims (claims_on pl p) (run_of pl p t input n)

-- the machine ends after n steps as a run over places, and has kept the claims
pub record Finishes (pl : Placement) (p : Placed) (t : Table) (input : List ℕ) (v : ℕ) (u : World) (n : ℕ) : Type 0 where
  pub ends : Ends (layout_of pl p) (setup (image_in pl p) t input) v u n
  pub keeps : KeepsClaims (claims_on pl p) (run_of pl p t input n)

-- a program over virtual registers, and places that meet what an assignment has to meet, for which code and data have room
pub record HasImage (pl : Placement) (ps : List Placing) (low : Low) : Type 0 where
  pub formed : IsLow low
  pub assigned : IsAssignment (assignment ps) low
  pub fits : FitsImage pl (placed (assignment ps) low)

-- as each good run over virtual registers, on an input of bytes
abbrev pub AssignmentsKeepClaims : Type 0
AssignmentsKeepClaims =
    (pl : Placement) (ps : List Placing) (low : Low) (s : System) → HasImage pl ps low → HasSystem pl (placed (assignment ps) low) s → (t : Table) (input : List ℕ) → All (λ b. b < 256) input
    → (i v : ℕ) (u : World) → IsGood low (lrun low input i) v u → (n : ℕ) × Finishes pl (placed (assignment ps) low) t input v u n

-- and within the cycles of an accepted certificate
pub record FinishesWithin (pl : Placement) (p : Placed) (t : Table) (input : List ℕ) (v : ℕ) (u : World) (cycles n : ℕ) : Type 0 where
  pub finishes : Finishes pl p t input v u n
  pub within : (run_of pl p t input n).state.cycles ≤ cycles

abbrev pub AssignmentsEndInTime : Type 0
AssignmentsEndInTime =
    (pl : Placement) (ps : List Placing) (low : Low) (s : System) → HasImage pl ps low → HasSystem pl (placed (assignment ps) low) s → (t : Table) (c : Cert) → 0 < c.scale → Accepts t s c → (input : List ℕ) → All (λ b. b < 256) input
    → (i v : ℕ) (u : World) → IsGood low (lrun low input i) v u → (n : ℕ) × FinishesWithin pl (placed (assignment ps) low) t input v u c.cycles n
