-- The machine that runs an image does what a source does, within the cycles of a report.
use Rattle.std.specs.Prelude.{◌≡◌, ℕ, ◌<◌, ◌≤◌, ℤ, pos, List, All, Some, slice_get, slice_index_or}
use Rattle.frac128.specs.Terms.{int_sum_by}
use Rattle.rv_core.specs.Images.{Image}
use Rattle.rv_core.specs.Machine.{Exited}
use Rattle.rv_core.specs.Runs.{Run, Visit, mrun, setup}
use Rattle.rv_core.specs.Table.{Table}
use Rattle.code_flow_system.specs.KeptRuns.{KeepsClaims, visit_count}
use Rattle.facts_definitions.specs.declared.facts.Facts.{Facts}
use Rattle.meaning_semantics.specs.Runs.{meaning}
use Rattle.meaning_semantics.specs.declared.source_run.SourceRun.TheVariants.{Done}
use Rattle.types_tree.specs.Tree.{Program}
use Rattle.report_text.specs.declared.entries.CopyLine.{CopyLine}
use Rattle.report_text.specs.Reports.{Report}

-- how often the addresses of a copy line were visited
abbrev pub visits_at : List Visit → CopyLine → ℤ
visits_at vs c = int_sum_by (visit_count vs) c.places

-- a run of the machine that a run of a source with this output, value and counts becomes
pub record RunsAs (report : Report) (output : List ℕ) (value : ℤ) (counts : List ℕ) (r : Run) : Type 0 where
  pub ends : r.state.ending ≡ Exited value
  pub prints : r.state.world.output ≡ output
  pub cycles : r.state.cycles ≤ report.cert.cycles
  pub keeps : KeepsClaims report.claims r
  -- each function and marker is counted by the addresses of its copies
  pub counted : (n : ℕ) (c : CopyLine) → slice_get report.names n ≡ Some c → visits_at r.visits c ≡ pos (slice_index_or counts n 0)

-- on every input on which the source's run is defined and keeps its annotations
abbrev pub RunsAsSource : Program → (names : List (List ℕ)) → Facts → Table → Image → Report → Type 0
RunsAsSource program names facts costs image report =
    (input : List ℕ) → All (λ b. b < 256) input → (output : List ℕ) (value : ℤ) (counts : List ℕ) → meaning program names facts input ≡ Done output value counts
    → (n : ℕ) × RunsAs report output value counts (mrun (setup image costs input) n)
