-- The machine ends as a good run over virtual registers, keeps the claims, and is in time.
use Rattle.std.proofs.Common.{ℕ, ◌<◌, ◌≤◌, List, sym, ap, subst}
use Rattle.std.specs.Prelude.{All}
use Rattle.rv_core.specs.Code.{decoded}
use Rattle.rv_core.specs.Runs.{setup}
use Rattle.rv_core.specs.Table.{Table}
use Rattle.rv_core.proofs.Constancy.{mrun-fetched}
use Rattle.code_flow_system.specs.declared.cert.Cert.{Cert}
use Rattle.code_flow_system.specs.Certificates.{Accepts}
use Rattle.code_flow_system.specs.Claims.{Claims}
use Rattle.code_flow_system.specs.Systems.{System, IsSystemOf}
use Rattle.code_flow_system.specs.KeptRuns.{KeepsClaims, RunsAreFlows}
use Rattle.code_flow_system.proofs.DualityLemmas.{bounds_runs}
use Rattle.code_flow_system.proofs.RunLemmas.{runs_are_flows}
use Rattle.low_ir.specs.Code.{Low}
use Rattle.low_ir.specs.Effects.{World}
use Rattle.low_ir.specs.Runs.{lrun}
use Rattle.low_ir.specs.Turns.{IsGood}
use Rattle.low_ir.specs.Places.{Assignment, Placed, Placing, assignment, placed}
use Rattle.register_places.proofs.Follow.{carried}
use Rattle.register_places.proofs.Ways.{all_safe}
use Rattle.asm_program.proofs.FormedLemmas.{program}
use Rattle.asm_code.proofs.Registers.{placed_there}
use Rattle.simulation_loaded.proofs.PlacedLemmas.{placed_keeps}
use Rattle.image_frames.specs.Memories.{Placement}
use Rattle.image_definition.specs.Images.{image_in}
use Rattle.image_definition.proofs.LaidLemmas.{image_loadable}
use Rattle.simulation_law.proofs.Simulated.{simulated}
use Rattle.claims_definition.proofs.Naming.{named}
use Rattle.simulation_kept.specs.Laws.{claims_on, run_of, Finishes, FinishesWithin, HasImage, HasSystem}
use Rattle.simulation_kept.proofs.KeptLemmas.{claims_kept}
use Rattle.simulation_kept.proofs.TotalLemmas.{placed_totals}

module _ (pl : Placement) (ps : List Placing) (low : Low) (s : System) (has : HasImage pl ps low) (sys : HasSystem pl (placed (assignment ps) low) s) (t : Table) (input : List ℕ) (bytes : All (λ b. b < 256) input) (i v : ℕ) (u : World) (good : IsGood low (lrun low input i) v u) where
  abbrev a : Assignment
  a = assignment ps

  abbrev p : Placed
  p = placed a low

  pub finishes : (n : ℕ) × Finishes pl p t input v u n
  finishes =
      let formed = program a low has.formed in
      let sound = placed_there a low has.formed has.assigned in
      let there = carried a low (all_safe a low has.assigned) input i v u good in
      let ends = simulated pl p formed sound (placed_keeps ps low) has.fits t input bytes i v u there.done in
      (ends.0, record { ends = ends.1; keeps = claims_kept pl p s formed sound (named a low has.formed) has.fits sys t input ends.0 v u ends.1 (placed_totals a low has.formed input i v u good) })

  module _ (c : Cert) (scale : 0 < c.scale) (accepted : Accepts t s c) where
    -- its flow system says of its runs what it says of all
    flows : RunsAreFlows (image_in pl p) t s
    flows = runs_are_flows (image_in pl p) t s (subst (λ claims. IsSystemOf (image_in pl p) claims s) (sym sys.same_claims) sys) (λ table given m at. ap decoded (mrun-fetched (setup (image_in pl p) table given) m at (image_loadable pl p has.fits)))

    kept_within : (n : ℕ) → KeepsClaims (claims_on pl p) (run_of pl p t input n) → (run_of pl p t input n).state.cycles ≤ c.cycles
    kept_within n keeps = bounds_runs (image_in pl p) t s c scale accepted flows input n (subst (λ (claims : Claims). KeepsClaims claims (run_of pl p t input n)) (sym sys.same_claims) keeps)

    pub in_time : (n : ℕ) × FinishesWithin pl p t input v u c.cycles n
    in_time = let f = finishes in (f.0, record { finishes = f.1; within = kept_within f.0 f.1.keeps })
