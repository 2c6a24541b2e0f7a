-- What is made of a number; and that a number whose source is kept on the empty input can only be made.
use Rattle.std.proofs.Common.{◌≡◌, ◌≤◌, ℕ, false, List, [], Option, Some, None, Result, Ok, Err, refl, sym, ap, subst, ◌∙◌, arith}
use Rattle.std.proofs.lemmas.List.Elements.{All-nil}
use Rattle.std.specs.Prelude.{◌<◌, ◌^◌, IfOk, IsSome}
use Rattle.wcc_base.specs.Outside.{Files, StoreState}
use Rattle.wcc_base.specs.declared.memory.Memory.{Memory}
use Rattle.wcc_base.specs.declared.status.Status.TheVariants as status
use Rattle.rv_core.specs.Exits.{Finish, finish, limits, ExitsWithin}
use Rattle.rv_core.specs.Images.{Image}
use Rattle.rv_core.specs.Runs.{mrun, setup}
use Rattle.rv_core.specs.Table.{default_table}
use Rattle.rv_sim.specs.Simulation.{Simulation}
use Rattle.rv_sim.specs.declared.ending.Ending.{Ending}
use Rattle.rv_sim.specs.declared.ending.Ending.TheVariants.{Exit, Trap, CycleLimit, OutputFull}
use Rattle.facts_definitions.specs.declared.facts.Facts.{Facts}
use Rattle.facts_sources.specs.Sources.{IsSourceBy}
use Rattle.meaning_semantics.specs.Runs.{meaning}
use Rattle.meaning_semantics.specs.declared.source_run.SourceRun.{SourceRun}
use Rattle.types_tree.specs.Tree.{Program}
use Rattle.elf_image.specs.Loading.{IsLoadable}
use Rattle.command_numbered.specs.Text.{numbered_text}
use Rattle.command_numbered.proofs.Lengths.{short}
use Rattle.facts_laws.proofs.Sources as laws
use Rattle.command_words.specs.Requests.{MakeRequest}
use Rattle.command_perform.specs.declared.compile.Texts.{Texts}
use Rattle.command_perform.specs.declared.make.Made.{Made}
use Rattle.command_perform.specs.Words.{Named, Make}
use Rattle.command_perform.specs.Outputs.{Outputs, outputs_of}
use Rattle.command_perform.specs.Compiling.{Compiles}
use Rattle.command_perform.specs.Running.{run_of, run_limits, Simulates}
use Rattle.command_perform.specs.Numbered.{numbered_job, numbered_outputs, MakesNumbered, IsKept}
use Rattle.command_perform.specs.Ends.{IsEnd}
use Rattle.command_perform.specs.Promises.{CanOnly, CanEnd}
use Rattle.command_perform.proofs.CompileRuns.{compilable_passes}

-- what is compiled loads as an image
pub loads : (source : List ℕ) (t : Texts) → Compiles false 0 default_table source t → IsLoadable t.image
loads source t c = c.compiled.holds.found.read.loadable

ends_well : (asked : MakeRequest) (t : Texts) (last : Simulation) (ending : Ending) → IsEnd (numbered_outputs asked t last ending).status
ends_well asked t last (Exit v) = tt
ends_well asked t last (Trap at kind) = tt
ends_well asked t last CycleLimit = tt
ends_well asked t last OutputFull = tt

status_of : (made other : Outputs) → made ≡ other → made.status ≡ other.status
status_of made other e = ap (λ (o : Outputs). o.status) e

-- what was compiled and run is what is made
pub makes : (asked : MakeRequest) (t : Texts) (last : Simulation) (ending : Ending) (r : Result Made Memory) → Compiles false 0 default_table (numbered_text asked.number) t → Simulates (numbered_job t.image) last ending
    → IfOk r (λ m. outputs_of m ≡ numbered_outputs asked t last ending) → IfOk r (λ m. IsEnd m.status × MakesNumbered asked (outputs_of m))
makes asked t last ending (Ok m) c s e =
    (subst IsEnd (sym (status_of (outputs_of m) _ e)) (ends_well asked t last ending), record { texts = t; compiles = c; last = last; ending = ending; simulates = s; made_is = e })
makes asked t last ending (Err memory) c s e = tt

same_meaning : (source : List ℕ) (names others : List (List ℕ)) (program other : Program) (facts more : Facts) (run : SourceRun) → IsSourceBy false source names program facts → IsSourceBy false source others other more
    → meaning other others more [] ≡ run → meaning program names facts [] ≡ run
same_meaning source names others program other facts more run h k d =
    let same = laws.one_source false source names others program other facts more h k in
    ap (λ p. meaning p names facts []) same.1 ∙ ap (λ ns. meaning other ns facts []) same.0 ∙ ap (λ fs. meaning other others fs []) same.2 ∙ d

-- the image of a source that is kept on the empty input exits
kept_exits : (source : List ℕ) (t : Texts) → Compiles false 0 default_table source t → IsKept source [] → (f : Finish) × ExitsWithin (run_of (numbered_job t.image)) (run_limits (numbered_job t.image)) f
kept_exits source t c k =
    let i = c.compiled in
    let r = i.runs [] (All-nil (λ (b : ℕ). b < 256)) k.output k.value k.counts (same_meaning source i.names k.whole.names i.program k.whole.program i.facts k.whole.facts _ i.is_source k.whole.is_source k.done) in
    let f = finish k.output k.value (mrun (setup i.image default_table []) r.0).state.cycles in
    let w : ExitsWithin (setup i.image default_table []) (limits (2 ^ 62) 16_777_216) f = record {
      exits = record { count = r.0; finishes = record { ends = r.1.ends; prints = r.1.prints; takes = refl } };
      in_cycles = omega (arith, r.1.cycles, c.small);
      in_output = k.fits;
    } in
    (f, subst (λ (m : Image). ExitsWithin (setup m default_table []) (limits (2 ^ 62) 16_777_216) f) (sym i.written.loads) w)

made_done : (asked : MakeRequest) (made : Outputs) → IsKept (numbered_text asked.number) [] → MakesNumbered asked made → made.status ≡ status.Done
made_done asked made k m =
    let w = kept_exits (numbered_text asked.number) m.texts m.compiles k in
    let x = m.simulates.finishes w.0 w.1 in
    status_of made _ m.made_is ∙ ap (λ (e : Ending). (numbered_outputs asked m.texts m.last e).status) x.exits

pub numbered_only : (asked : MakeRequest) → asked.number ≤ 100 → IsKept (numbered_text asked.number) [] → CanOnly (Make asked) [] status.Done
numbered_only asked few k = record {
  refuses = λ t r. absurd (compilable_passes false (numbered_text asked.number) t (omega (arith, short asked.number few)) k.whole r);
  makes = λ made m. made_done asked made k m;
}

pub numbered_ends : (asked : MakeRequest) (files : Option Files) (old : StoreState) → old.files ≡ files → IsSome files → asked.number ≤ 100 → IsKept (numbered_text asked.number) [] → CanEnd (Some (Named (Make asked))) old status.Done
numbered_ends asked None old e some few k = absurd cc
numbered_ends asked (Some fs) old e some few k = rw e (tt, numbered_only asked few k)
