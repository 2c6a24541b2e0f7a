-- The run of a machine that follows a run over places.
use Rattle.std.specs.Prelude.{◌≡◌, ℕ, ◌<◌, true, false, List, [], ◌∷◌, All, slice_index}
use Rattle.rv_core.specs.Arithmetic.{signed}
use Rattle.rv_core.specs.Machine.{Exited}
use Rattle.rv_core.specs.Runs.{Visit, Setup, mrun}
use Rattle.low_ir.specs.declared.places.Place.{Place}
use Rattle.low_ir.specs.Effects.{World}
use Rattle.low_ir.specs.Runs.{Running, Run, Going, Done, Bad}
use Rattle.low_ir.specs.Places.{File}
use Rattle.asm_program.specs.Numbers.{base, second_base, base_address}
use Rattle.asm_program.specs.Frames.{frame_of}
use Rattle.asm_program.specs.Functions.{function_in, is_leaf}
use Rattle.simulation_relation.specs.Noted.{noted_body}
use Rattle.simulation_relation.specs.Layouts.{Layout}
use Rattle.simulation_relation.specs.Positions.{seen, Touches, Course, state, At}
use Rattle.simulation_relation.specs.Views.{View, view_of, HasRoom, Shows, HasArrays}
use Rattle.simulation_relation.specs.Waiting.{IsIn, Returns, AreWaiting, IsLinked, register_in}

abbrev pub PlacedRunning : Type 0
PlacedRunning = Running Place (List ℕ) File

abbrev pub PlacedRun : Type 0
PlacedRun = Run Place (List ℕ) File

-- what a machine shows of a run: the activation on top, those that wait for it, and the arrays
pub record Holds (l : Layout) (r : PlacedRunning) (v : View) (returns : List ℕ) : Type 0 where
  pub based : v.register base ≡ base_address
  pub second : v.register second_base ≡ l.memory.second
  pub room : HasRoom l.memory (frame_of l.memory r.top.func) r.top.store
  pub shows : Shows l.memory (frame_of l.memory r.top.func) r.top.store v
  pub arrays : HasArrays l.memory l.program.objects r.world.objects v
  pub linked : IsLinked (is_leaf (function_in l.program r.top.func)) (frame_of l.memory r.top.func) v (slice_index returns 0)
  pub after : ℕ → ℕ
  pub keeps : Returns l r.top.func (register_in v) v after
  pub waits : AreWaiting l r.below r.top.func v after returns

module _ (l : Layout) (s : Setup) where
  -- the machine has read and written what the run has
  pub record Exchanges (u : World) (n : ℕ) : Type 0 where
    pub input : (state l s n).world.input ≡ u.input
    pub bytes : All (λ b. b < 256) u.input
    pub output : (state l s n).world.output ≡ u.output

  abbrev pub course : PlacedRunning → ℕ → List ℕ → Course
  course r b returns = record { function = r.top.func; stop = l.stops r.top.func b; trace = r.world.trace; returns = returns }

  -- the machine is where the run is
  pub record Goes (r : PlacedRunning) (n : ℕ) : Type 0 where
    pub block : ℕ
    pub inside : IsIn l.program r.top.func block r.top.code r.top.end
    pub returns : List ℕ
    pub holds : Holds l r (view_of (state l s n)) returns
    pub exchanges : Exchanges r.world n
    pub at : At l s (course r block returns) n (noted_body l.memory l.program r.top.func block r.top.code r.top.end)

  -- the run has ended at an exit, and so has the machine, with the same value
  pub record Ends (value : ℕ) (u : World) (n : ℕ) : Type 0 where
    pub ending : (state l s n).ending ≡ Exited (signed value)
    pub output : (state l s n).world.output ≡ u.output
    pub events : seen l (mrun s n).visits ≡ u.trace
    pub none_left : (mrun s n).places ≡ []
    pub straight : (mrun s n).astray ≡ false
    pub last : Visit
    pub earlier : List Visit
    pub visits : (mrun s n).visits ≡ last ∷ earlier
    pub exit : l.code.exit last.at ≡ true
    pub inside : All (λ v. l.code.exit v.at ≡ false) earlier
    pub touches : All (Touches l) (mrun s n).visits

  abbrev pub Follows : PlacedRun → ℕ → Type 0
  Follows (Going r) n = Goes r n
  Follows (Done v u) n = Ends v u n
  Follows Bad n = Unit {0}
