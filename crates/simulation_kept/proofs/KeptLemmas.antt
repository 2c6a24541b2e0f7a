-- A run of the machine that has ended as a run over places keeps the claims on the program.
use Rattle.std.proofs.Common.{◌≡◌, ℕ, zero, suc, ◌<◌, List, [], ◌∷◌, map, length, Contains, refl, sym, ap, subst, arith}
use Rattle.std.specs.Prelude.{All}
use Rattle.std.proofs.lemmas.List.Elements.{All-contains, All-nil, All-weaker}
use Rattle.std.proofs.lemmas.Option.{slice_get_within}
use Rattle.rv_core.specs.Arithmetic.{signed}
use Rattle.rv_core.specs.Table.{Table}
use Rattle.rv_core.specs.Runs.{Run, setup}
use Rattle.code_flow_system.specs.declared.claims.LoopClaim.{LoopClaim}
use Rattle.code_flow_system.specs.Counts.{KeepsFact, KeepsLoop, KeepsNever}
use Rattle.code_flow_system.specs.Systems.{System}
use Rattle.code_flow_system.specs.KeptRuns.{visit_count, KeepsLine, KeepsClaims}
use Rattle.asm_items.specs.Placings.{start_of}
use Rattle.asm_graphs.specs.Laid.{last_of}
use Rattle.asm_placed.specs.Exits.{exits_of}
use Rattle.asm_backs.specs.Laws.{HasEnded}
use Rattle.asm_backs.proofs.BackLemmas.{latch_visited}
use Rattle.low_ir.specs.Code.{Loop}
use Rattle.low_ir.specs.Effects.{World}
use Rattle.low_ir.specs.Formed.{IsLoop, only_jump}
use Rattle.low_ir.specs.Places.{Placed}
use Rattle.register_places.specs.Totals.{KeepsTotals}
use Rattle.asm_program.specs.Formed.{IsProgram}
use Rattle.asm_program.specs.Functions.{function_in, graph_of, loop_of}
use Rattle.asm_program.proofs.GraphLemmas.{function_at, with_loops}
use Rattle.asm_program.specs.Ranges.{InProgram}
use Rattle.simulation_relation.specs.Following.{Ends}
use Rattle.image_frames.specs.Memories.{Placement, memory_of}
use Rattle.image_definition.specs.Images.{image_in, exits_in, FitsImage}
use Rattle.image_definition.proofs.LaidLemmas.{image_loadable}
use Rattle.simulation_loaded.specs.Layouts.{layout_of}
use Rattle.simulation_kept.proofs.Keeping.{keeps_regions}
use Rattle.simulation_marks.proofs.CountLemmas.{ends_at_exit}
use Rattle.simulation_marks.proofs.LoopLemmas.{loop_kept}
use Rattle.claims_definition.specs.AccessLaws.{IsNamed}
use Rattle.claims_definition.specs.ClaimLaws.{IsClaimOf}
use Rattle.claims_definition.specs.Listed.{Laid, claims_of, functions_of, loop_claim, loops_of, placing, regions_of}
use Rattle.claims_definition.proofs.Claimed.{are_claims}
use Rattle.claims_image.specs.Images.{HasClaims, laid_of}
use Rattle.claims_image.proofs.Whole.{has_claims}
use Rattle.simulation_kept.specs.Laws.{claims_on, run_of, HasSystem, LoopsKeepTotals}

contains_map : {A B : Type 0} (f : A → B) (xs : List A) (x : A) → Contains xs x → Contains (map f xs) (f x)
contains_map f [] x (n, lt, e) = absurd (omega arith)
contains_map f (y ∷ xs) x (zero, lt, e) = (0, omega arith, ap f e)
contains_map f (y ∷ xs) x (suc n, lt, e) = let r = contains_map f xs x (n, omega arith, e) in (suc r.0, omega (arith, r.1), r.2)

-- the claims on laid code, of a run that has ended
all_kept : (l : Laid) (r : Run) → HasEnded (exits_of l.rows (functions_of l)) r → All (KeepsLoop (visit_count r.visits)) (loops_of l) → All (λ v. All (KeepsLine v) (regions_of l)) r.visits → KeepsClaims (claims_of l) r
all_kept l r ended loops accesses = record {
  value = ended.value;
  finished = ended.finished;
  counts = record { nevers = All-nil (KeepsNever (visit_count r.visits)); loops = loops; facts = All-nil (KeepsFact (visit_count r.visits)) };
  accesses = accesses;
  returns = ended.returns;
  exit = ended.exit;
  none_left = ended.none_left;
}

module _ (pl : Placement) (p : Placed) (s : System) (formed : IsProgram p) (sound : InProgram p) (named : IsNamed p) (fits : FitsImage pl p) (sys : HasSystem pl p s) (t : Table) (input : List ℕ) (n v : ℕ) (u : World)
    (ends : Ends (layout_of pl p) (setup (image_in pl p) t input) v u n) (totals : LoopsKeepTotals p u) where
  abbrev l : Laid
  l = laid_of pl p

  abbrev run : Run
  run = run_of pl p t input n

  has : HasClaims l (image_in pl p)
  has = has_claims pl p (image_in pl p) formed sound named fits refl

  ended : HasEnded (exits_in pl p) run
  ended = record { value = signed v; finished = ends.ending; returns = ends.straight; exit = ends_at_exit pl p (setup (image_in pl p) t input) v u n ends; none_left = ends.none_left }

  -- a loop's jump back is visited as often as its latch begins
  backs : (f : ℕ) (k : Loop) → f < length p.functions → Contains (function_in p f).loops k → visit_count run.visits (last_of (placing l) f k.latch) ≡ visit_count run.visits (start_of (placing l) f k.latch)
  backs f k less there =
      latch_visited (graph_of (memory_of pl p) p) (placing l) (length p.functions) (image_in pl p) (claims_on pl p) s has.laid sys (image_loadable pl p fits) t input n ended f (loop_of k) (omega (arith, less))
      (contains_map loop_of (function_in p f).loops k there)

  loop_keeps : (c : LoopClaim) → IsClaimOf l c → KeepsLoop (visit_count run.visits) c
  loop_keeps c own =
      let f = own.function in
      let k = own.loop in
      let low = with_loops (memory_of pl p) p formed f k own.there in
      let loop = All-contains (IsLoop (function_in p f)) (function_in p f).loops k (function_at (memory_of pl p) p formed f low).loops own.there in
      let latch = slice_get_within (function_in p f).blocks k.latch (only_jump k.header) loop.back in
      let up = loop.latch in
      let kept = All-contains (KeepsTotals f u.trace) (function_in p f).loops k (totals f low) own.there in
      subst (KeepsLoop (visit_count run.visits)) (sym own.is)
      (loop_kept pl p (setup (image_in pl p) t input) v u n ends f k (loop_claim l f k) low (omega (arith, up, latch)) latch kept (record { least = refl; most = refl; header = refl }) (backs f k low own.there))

  loops_keep : All (KeepsLoop (visit_count run.visits)) (loops_of l)
  loops_keep = All-weaker (IsClaimOf l) (KeepsLoop (visit_count run.visits)) loop_keeps (loops_of l) (are_claims l has.settled).each

  pub claims_kept : KeepsClaims (claims_on pl p) run
  claims_kept = all_kept l run ended loops_keep (keeps_regions pl p has.settled (setup (image_in pl p) t input) v u n ends)
