-- What was compiled, from the call of the compiler to the end of the command.
use Rattle.std.proofs.Common.{◌≡◌, ℕ, List, [], ◌∷◌, Option, Some, None, Result, Ok, Err, refl, sym, ap, subst, ◌∙◌, ⊎_elim}
use Rattle.std.specs.Prelude.{IfOk, MatchResult}
use Rattle.wcc_base.specs.Outside.{StoreState, SinkState}
use Rattle.wcc_base.specs.declared.memory.Memory.{Memory}
use Rattle.wcc_base.specs.declared.status.Status.{Status}
use Rattle.wcc_base.specs.declared.status.Status.TheVariants as status
use Rattle.rv_core.specs.Table.{Table}
use Rattle.rv_sim.specs.Simulation.{Simulation}
use Rattle.rv_sim.specs.declared.ending.Ending.{Ending}
use Rattle.promise_compiler.specs.declared.built.Options.{Options}
use Rattle.command_words.specs.Requests.{CompileRequest, MakeRequest}
use Rattle.command_perform.specs.declared.compile.Texts.{Texts}
use Rattle.command_perform.specs.declared.make.Made.{Made}
use Rattle.command_perform.specs.Words.{Asked, Compile}
use Rattle.command_perform.specs.Outputs.{Outputs, outputs_of}
use Rattle.command_perform.specs.StatusLines.{line_of}
use Rattle.command_perform.specs.Tables.{Charged}
use Rattle.command_perform.specs.Gathering.{OnlyRead}
use Rattle.command_perform.specs.Finishing.{all_put, status_after_fault, Reported, Finished}
use Rattle.command_perform.specs.Ends.{MakesIn, IsEnd, Fails}
use Rattle.command_perform.specs.Compiling.{compiled_outputs}
use Rattle.command_perform.specs.Promises.{HasMade}
use Rattle.command_perform.specs.Numbered.{numbered_outputs}
use Rattle.command_perform.specs.Settings.{AreOptions, Settings, settings_of}
use Rattle.command_perform.specs.Building.{AreBuilt, Builder, BuildsImage, BuildsIn, BuildsOf, IsNumbered}
use Rattle.command_perform.proofs.Counts.{none_more, all_read}

-- a compilation with these costs is one of all contents
builds_of : (by : Builder) (asked : CompileRequest) (contents : List (List ℕ)) (source : List ℕ) (costs : Table) (made : Outputs) → Charged contents (source ∷ []) costs
    → BuildsImage by (settings_of asked costs) source (λ t. made ≡ compiled_outputs asked t) → BuildsOf by (Compile asked) contents made
builds_of by asked contents source costs made c b = subst (λ (k : List (List ℕ)). BuildsOf by (Compile asked) k made) (sym c.contents_are) (costs, c.are_costs, b)

pub compile_builds : (by : Builder) (asked : CompileRequest) (contents : List (List ℕ)) (source : List ℕ) (costs : Table) (r : Result Made Status) → Charged contents (source ∷ []) costs
    → IfOk r (λ m. BuildsImage by (settings_of asked costs) source (λ t. outputs_of m ≡ compiled_outputs asked t)) → IfOk r (λ m. BuildsOf by (Compile asked) contents (outputs_of m))
compile_builds by asked contents source costs (Ok m) c b = builds_of by asked contents source costs (outputs_of m) c b
compile_builds by asked contents source costs (Err s) c b = tt

-- what the call of the compiler built
pub builds_image : (by : Builder) (options : Options) (source : List ℕ) (t : Texts) → by options source t.image t.report → (settings : Settings) (made : Texts → Type 0) → AreOptions settings options → made t → BuildsImage by settings source made
builds_image by options source t built settings made are is = record { texts = t; is_built = record { options = options; are_options = are; built = built }; made_is = is }

-- the run of a number's image doesn't matter
pub is_numbered : (asked : MakeRequest) (t : Texts) (last : Simulation) (ending : Ending) (r : Result Made Memory) → IfOk r (λ m. outputs_of m ≡ numbered_outputs asked t last ending) → IfOk r (λ m. IsNumbered asked t (outputs_of m))
is_numbered asked t last ending (Ok m) e = (last, ending, e)
is_numbered asked t last ending (Err memory) e = tt

-- which calls are done

abbrev IsDoneStatus : Status → Type 0
IsDoneStatus status.Done = Unit {0}
IsDoneStatus s = ⊥

never_after_fault : (s : Status) → IsDoneStatus (status_after_fault s) → ⊥
never_after_fault status.Done h = h
never_after_fault s h = h

is_done : (s : Status) → IsDoneStatus s → s ≡ status.Done
is_done status.Done h = refl
is_done s h = absurd h

-- a call that is done was so before its lines were printed
done_before : (s : Status) (lines : List ℕ) (out out' : SinkState) (result : Status) → Reported s lines out out' result → IsDoneStatus result → IsDoneStatus s
done_before s lines out out' result r h =
    ⊎_elim (λ a. subst IsDoneStatus a.0 h) (⊎_elim (λ a. absurd (subst IsDoneStatus a.0 h)) (λ a. absurd (never_after_fault s (subst IsDoneStatus a.0 h)))) r

never_fails : (c : Asked) (s : Status) (old : StoreState) → Fails c old.files s → IsDoneStatus s → ⊥
never_fails c status.Done old f h = ⊎_elim (λ n. n) (λ b. ⊎_elim (λ m. subst IsDoneStatus m tt) (λ r. r.0) b) f
never_fails c s old f h = h

made_built : (by : Builder) (c : Asked) (old mid new : StoreState) (out out' : SinkState) (m : Made) (result : Status) → OnlyRead old mid (Ok m) → MakesIn c old.files (outputs_of m) → BuildsIn by c old.files (outputs_of m)
    → Finished (outputs_of m) mid new out out' result → IsDoneStatus result → AreBuilt by (Some c) old new
made_built by c old mid new out out' m result o makes built f h =
    ⊎_elim
    (λ a.
    let has : HasMade c old new status.Done (outputs_of m) = record {
      status_is = is_done (outputs_of m).status (done_before (outputs_of m).status (outputs_of m).lines out out' result a.2 h);
      makes = makes;
      files = a.0 ∙ ap (all_put (outputs_of m).files) o.same;
      counts = none_more old mid new (all_read old mid m o) a.1;
    } in
    (outputs_of m, has, built))
    (λ b. ⊎_elim
    (λ a. absurd (done_before status.WriteFault (line_of status.WriteFault) out out' result a.2 h))
    (λ a. absurd (done_before status.Memory (line_of status.Memory) out out' result a.2 h))
    b)
    f

by_result : (by : Builder) (c : Asked) (r : Result Made Status) (old mid new : StoreState) (out out' : SinkState) (result : Status) → OnlyRead old mid r
    → MatchResult r (λ m. IsEnd m.status × MakesIn c old.files (outputs_of m)) (λ s. Fails c old.files s) → IfOk r (λ m. BuildsIn by c old.files (outputs_of m))
    → MatchResult r (λ m. Finished (outputs_of m) mid new out out' result) (λ s. (new ≡ mid) × Reported s (line_of s) out out' result) → IsDoneStatus result → AreBuilt by (Some c) old new
by_result by c (Ok m) old mid new out out' result o made built f h = made_built by c old mid new out out' m result o made.1 built f h
by_result by c (Err s) old mid new out out' result o fails built f h = absurd (never_fails c s old fails (done_before s (line_of s) out out' result f.1 h))

-- what was made and finished was built
pub performs_built : (by : Builder) (c : Asked) (r : Result Made Status) (old mid new : StoreState) (out out' : SinkState) (result : Status) → OnlyRead old mid r
    → MatchResult r (λ m. IsEnd m.status × MakesIn c old.files (outputs_of m)) (λ s. Fails c old.files s) → IfOk r (λ m. BuildsIn by c old.files (outputs_of m))
    → MatchResult r (λ m. Finished (outputs_of m) mid new out out' result) (λ s. (new ≡ mid) × Reported s (line_of s) out out' result) → result ≡ status.Done → AreBuilt by (Some c) old new
performs_built by c r old mid new out out' result o made built f done = by_result by c r old mid new out out' result o made built f (subst IsDoneStatus (sym done) tt)

-- the words ask for what was built
pub asked_built : (by : Builder) (asked : Option Asked) (c : Asked) (old new : StoreState) → Some c ≡ asked → AreBuilt by (Some c) old new → AreBuilt by asked old new
asked_built by asked c old new is built = subst (λ (k : Option Asked). AreBuilt by k old new) is built

-- the words ask for nothing
pub nothing_built : (by : Builder) (asked : Option Asked) (old new : StoreState) → asked ≡ None → AreBuilt by asked old new
nothing_built by asked old new none = subst (λ (k : Option Asked). AreBuilt by k old new) (sym none) tt

-- memory ran out in reading them
pub unread_built : (by : Builder) (asked : Option Asked) (old new : StoreState) (lines : List ℕ) (out out' : SinkState) (result : Status) → Reported status.Memory lines out out' result → result ≡ status.Done → AreBuilt by asked old new
unread_built by asked old new lines out out' result r done = absurd (done_before status.Memory lines out out' result r (subst IsDoneStatus (sym done) tt))
