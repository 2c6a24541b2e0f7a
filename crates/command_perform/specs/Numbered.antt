-- What `make` makes of a number: its source, what that is compiled to with the default costs, and what the image does on the empty input.
use Rattle.std.specs.Prelude.{◌≡◌, ◌≤◌, ◌^◌, ℕ, false, ℤ, List, [], ◌∷◌, ◌++◌, length}
use Rattle.wcc_base.specs.declared.status.Status.TheVariants as status
use Rattle.rv_core.specs.Table.{default_table}
use Rattle.rv_sim.specs.Simulation.{Simulation}
use Rattle.rv_sim.specs.declared.ending.Ending.{Ending}
use Rattle.rv_sim.specs.declared.ending.Ending.TheVariants.{Exit}
use Rattle.meaning_semantics.specs.Runs.{meaning}
use Rattle.meaning_semantics.specs.declared.source_run.SourceRun.TheVariants.{Done}
use Rattle.command_numbered.specs.Text.{numbered_text}
use Rattle.command_words.specs.Requests.{MakeRequest}
use Rattle.command_perform.specs.declared.compile.Texts.{Texts}
use Rattle.command_perform.specs.Lines.{made_line, ran_line, run_line}
use Rattle.command_perform.specs.Outputs.{Outputs}
use Rattle.command_perform.specs.Compiling.{Compiles, IsCompilable}
use Rattle.command_perform.specs.Running.{Job, Simulates, run_status}

-- the image is run on the empty input, for at most 2^62 cycles
abbrev pub numbered_job : List ℕ → Job
numbered_job image = record { image = image; input = []; costs = default_table; cycles = 2 ^ 62 }

-- the source, the image and the report, with the lines of each
abbrev pub exited_outputs : MakeRequest → Texts → Simulation → ℤ → Outputs
exited_outputs asked t last value = record {
  status = status.Done;
  files = (asked.source, numbered_text asked.number) ∷ (asked.image, t.image) ∷ (asked.report, t.report) ∷ [];
  lines = made_line (length (numbered_text asked.number)) ++ (t.line ++ ran_line last.state.cycles value (length last.state.world.output));
}

-- a run that doesn't exit is said alone, and nothing is written
abbrev pub numbered_outputs : MakeRequest → Texts → Simulation → Ending → Outputs
numbered_outputs asked t last (Exit value) = exited_outputs asked t last value
numbered_outputs asked t last ending = record { status = run_status ending last.state.pc last.state.cycles; files = []; lines = run_line ending last.state.pc last.state.cycles }

pub record MakesNumbered (asked : MakeRequest) (made : Outputs) : Type 0 where
  pub texts : Texts
  pub compiles : Compiles false 0 default_table (numbered_text asked.number) texts
  pub last : Simulation
  pub ending : Ending
  pub simulates : Simulates (numbered_job texts.image) last ending
  pub made_is : made ≡ numbered_outputs asked texts last ending

-- a source whose run on this input is defined, keeps its annotations, and puts at most 16,777,216 bytes
pub record IsKept (source input : List ℕ) : Type 0 where
  pub whole : IsCompilable false source
  pub output : List ℕ
  pub value : ℤ
  pub counts : List ℕ
  pub done : meaning whole.program whole.names whole.facts input ≡ Done output value counts
  pub fits : length output ≤ 16_777_216

-- that of each number from 1 to 100 is, on the empty input
abbrev pub NumbersAreKept : Type 0
NumbersAreKept = (n : ℕ) → 1 ≤ n → n ≤ 100 → IsKept (numbered_text n) []
