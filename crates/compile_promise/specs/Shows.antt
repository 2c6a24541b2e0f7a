-- What the machine shows that runs the image of a program which carries on another, or a source.
use Rattle.std.specs.Prelude.{◌≡◌, ℕ, ◌<◌, ◌≤◌, ℤ, pos, List, Some, All, slice_index_or}
use Rattle.frac128.specs.Terms.{int_sum_by}
use Rattle.rv_core.specs.Arithmetic.{signed}
use Rattle.rv_core.specs.Machine.{Exited}
use Rattle.rv_core.specs.Runs.{Run}
use Rattle.rv_core.specs.Table.{Table}
use Rattle.code_flow_system.specs.declared.cert.Cert.{Cert}
use Rattle.code_flow_system.specs.Certificates.{Accepts}
use Rattle.code_flow_system.specs.Claims.{Claims}
use Rattle.code_flow_system.specs.Systems.{IsSystemOf, System}
use Rattle.code_flow_system.specs.KeptRuns.{visit_count, KeepsClaims}
use Rattle.facts_definitions.specs.declared.facts.Facts.{Facts}
use Rattle.meaning_semantics.specs.Runs.{meaning}
use Rattle.meaning_semantics.specs.declared.source_run.SourceRun.TheVariants.{Done}
use Rattle.types_tree.specs.Tree as typed
use Rattle.high_ir.specs.Tree.{Program}
use Rattle.high_ir.specs.Whole.{IsWhole}
use Rattle.high_pass.specs.Carries.{Behaviour, Carries, Shown}
use Rattle.high_pass.specs.Listing.{Listing}
use Rattle.plan_carried.specs.Sources.{source_behaviour}
use Rattle.low_ir.specs.Code.{Low}
use Rattle.low_ir.specs.Places.{Placed, Placing, assignment, placed}
use Rattle.image_frames.specs.Memories.{Placement}
use Rattle.claims_definition.specs.Listed.{places_of}
use Rattle.image_definition.specs.Images.{image_in}
use Rattle.claims_image.specs.Images.{laid_of}
use Rattle.lower_law.specs.Programs.{KeepsProgram}
use Rattle.simulation_kept.specs.Laws.{claims_on, run_of, HasSystem}
use Rattle.layout_relation.specs.Kept.{KeepsLow}

-- how often a run of the machine passed a mark: the visits of all its addresses
abbrev pub passed : Placement → Placed → Run → ℕ → ℤ
passed pl p r mark = int_sum_by (visit_count r.visits) (places_of (laid_of pl p) mark)

-- a run of the machine ends with the value and the output that were shown, passed the copies of each mark together as often as was
-- counted, and no mark of which it was promised
pub record ShowsIt (c : Listing) (shown : Shown) (pl : Placement) (p : Placed) (r : Run) : Type 0 where
  pub ending : r.state.ending ≡ Exited (signed shown.value)
  pub output : r.state.world.output ≡ shown.output
  pub counts : All (λ e. int_sum_by (passed pl p r) e.new ≡ pos (shown.counts e.old)) c.marks
  pub nevers : All (λ v. passed pl p r v.mark ≡ pos 0) c.nevers

-- it keeps these claims on the image, and takes no more than so many cycles
pub record EndsWithin (c : Listing) (shown : Shown) (pl : Placement) (p : Placed) (claims : Claims) (t : Table) (input : List ℕ) (cycles n : ℕ) : Type 0 where
  pub shows : ShowsIt c shown pl p (run_of pl p t input n)
  pub keeps : KeepsClaims claims (run_of pl p t input n)
  pub within : (run_of pl p t input n).state.cycles ≤ cycles

-- a run that keeps the claims on the image, and shows what was shown on an input, keeps these claims as well
abbrev pub AreKept : Behaviour → Listing → Placement → Placed → Claims → Type 0
AreKept old made pl p claims = (input : List ℕ) (shown : Shown) (r : Run) → old.runs input ≡ Some shown → ShowsIt made shown pl p r → KeepsClaims (claims_on pl p) r → KeepsClaims claims r

-- a program in the high form and its low program, whose image keeps it, and the flow system of that under other claims, with an accepted certificate
pub record IsCompiled (old : Behaviour) (p : Program) (made : Listing) (q : Low) (pl : Placement) (ps : List Placing) (s : System) (t : Table) (c : Cert) : Type 0 where
  pub whole : IsWhole p
  pub keeps_program : KeepsProgram p q
  pub keeps_low : KeepsLow pl ps q
  -- the image has a system under the claims on it
  pub own : System
  pub has_own : HasSystem pl (placed (assignment ps) q) own
  -- and one under those
  pub system : IsSystemOf (image_in pl (placed (assignment ps) q)) s.claims s
  pub kept : AreKept old made pl (placed (assignment ps) q) s.claims
  pub scale : 0 < c.scale
  pub accepted : Accepts t s c

-- whatever is shown on an input of bytes
abbrev pub ImagesShow : Type 0
ImagesShow =
    (old : Behaviour) (p : Program) (made : Listing) (q : Low) (pl : Placement) (ps : List Placing) (s : System) (t : Table) (c : Cert) → Carries old p made → IsCompiled old p made q pl ps s t c
    → (input : List ℕ) → All (λ b. b < 256) input → (shown : Shown) → old.runs input ≡ Some shown → (n : ℕ) × EndsWithin made shown pl (placed (assignment ps) q) s.claims t input c.cycles n

-- a run of the machine ends as main does, with its value and its output, passed the copies of each function and marker together as
-- often as the source counts it, keeps these claims on the image, and takes no more than so many cycles
pub record EndsAsMain (made : Listing) (output : List ℕ) (value : ℤ) (counts : List ℕ) (pl : Placement) (p : Placed) (claims : Claims) (t : Table) (input : List ℕ) (cycles n : ℕ) : Type 0 where
  pub ending : (run_of pl p t input n).state.ending ≡ Exited value
  pub written : (run_of pl p t input n).state.world.output ≡ output
  pub counted : All (λ e. int_sum_by (passed pl p (run_of pl p t input n)) e.new ≡ pos (slice_index_or counts e.old 0)) made.marks
  pub keeps : KeepsClaims claims (run_of pl p t input n)
  pub within : (run_of pl p t input n).state.cycles ≤ cycles

-- whatever a source means on an input of bytes
abbrev pub SourcesShow : Type 0
SourcesShow =
    (source : typed.Program) (names : List (List ℕ)) (facts : Facts) (p : Program) (made : Listing) (q : Low) (pl : Placement) (ps : List Placing) (s : System) (t : Table) (cert : Cert) → Carries (source_behaviour source names facts) p made → IsCompiled (source_behaviour source names facts) p made q pl ps s t cert
    → (input : List ℕ) → All (λ b. b < 256) input → (output : List ℕ) (value : ℤ) (counts : List ℕ) → meaning source names facts input ≡ Done output value counts → (n : ℕ) × EndsAsMain made output value counts pl (placed (assignment ps) q) s.claims t input cert.cycles n
