-- That what was written is what the compiler builds with what the words say.
use Rattle.std.specs.Prelude.{◌≡◌, ℕ, List, [], ◌∷◌, Option, Some, None}
use Rattle.wcc_base.specs.Outside.{Files, StoreState}
use Rattle.wcc_base.specs.declared.status.Status.TheVariants as status
use Rattle.rv_core.specs.Table.{Table}
use Rattle.rv_sim.specs.Simulation.{Simulation}
use Rattle.rv_sim.specs.declared.ending.Ending.{Ending}
use Rattle.promise_compiler.specs.declared.built.Options.{Options}
use Rattle.command_numbered.specs.Text.{numbered_text}
use Rattle.command_words.specs.Requests.{MakeRequest}
use Rattle.command_perform.specs.declared.compile.Texts.{Texts}
use Rattle.command_perform.specs.Words.{Command, Compile, Make, Asked, Named, Respond}
use Rattle.command_perform.specs.Outputs.{Outputs}
use Rattle.command_perform.specs.Settings.{AreOptions, Settings, plain_settings, settings_of}
use Rattle.command_perform.specs.Tables.{AreCosts}
use Rattle.command_perform.specs.Gathering.{Gathered}
use Rattle.command_perform.specs.Commands.{wanted_of}
use Rattle.command_perform.specs.Compiling.{compiled_outputs}
use Rattle.command_perform.specs.Numbered.{numbered_outputs}
use Rattle.command_perform.specs.Promises.{HasMade}

-- how a compiler says that a source with options becomes the texts of an image and a report
abbrev pub Builder : Type 1
Builder = Options → List ℕ → List ℕ → List ℕ → Type 0

-- with these settings the compiler builds these texts of the source
pub record IsBuiltBy (by : Builder) (settings : Settings) (source : List ℕ) (t : Texts) : Type 0 where
  pub options : Options
  pub are_options : AreOptions settings options
  pub built : by options source t.image t.report

pub record BuildsImage (by : Builder) (settings : Settings) (source : List ℕ) (made : Texts → Type 0) : Type 0 where
  pub texts : Texts
  pub is_built : IsBuiltBy by settings source texts
  pub made_is : made texts

-- what the image of a number's source comes to on some run
abbrev pub IsNumbered : MakeRequest → Texts → Outputs → Type 0
IsNumbered asked t made = (last : Simulation) × (ending : Ending) × (made ≡ numbered_outputs asked t last ending)

-- what is made of these contents was built so, where something is compiled
abbrev pub BuildsOf : Builder → Command → List (List ℕ) → Outputs → Type 0
BuildsOf by (Compile asked) (source ∷ tables) made =
    (costs : Table) × AreCosts tables costs × BuildsImage by (settings_of asked costs) source (λ t. made ≡ compiled_outputs asked t)
BuildsOf by (Make asked) [] made =
    BuildsImage by plain_settings (numbered_text asked.number) (λ t. IsNumbered asked t made)
BuildsOf by command contents made = Unit {0}

abbrev pub BuildsIn : Builder → Asked → Option Files → Outputs → Type 0
BuildsIn by (Named c) files made = (contents : List (List ℕ)) × Gathered (wanted_of c) files contents × BuildsOf by c contents made
BuildsIn by (Respond asked) files made = Unit {0}

-- what stands written was built so
abbrev pub AreBuilt : Builder → Option Asked → StoreState → StoreState → Type 0
AreBuilt by None old new = Unit {0}
AreBuilt by (Some c) old new = (made : Outputs) × HasMade c old new status.Done made × BuildsIn by c old.files made
