-- What an exiting image leaves open.
use Rattle.std.proofs.Common.{◌≡◌, ℕ, List, [], ◌∷◌, Option, Some, None, ap, subst, ⊎_elim}
use Rattle.std.specs.Prelude.{IsSomeAnd}
use Rattle.wcc_base.specs.Outside.{Files, StoreState}
use Rattle.wcc_base.specs.declared.status.Status.TheVariants as status
use Rattle.elf_image.proofs.FaultLemmas.{is_image}
use Rattle.rv_core.specs.Table.{Table}
use Rattle.command_words.specs.Requests.{RunRequest}
use Rattle.command_perform.specs.Words.{Named, Run}
use Rattle.command_perform.specs.Outputs.{Outputs}
use Rattle.command_perform.specs.Gathering.{Fit, contents_of}
use Rattle.command_perform.proofs.Charges.{same_costs, no_table_fault}
use Rattle.command_perform.specs.Commands.{wanted_of, job_of, CanExitRun}
use Rattle.command_perform.specs.Running.{CanExit, MakesOutput}
use Rattle.command_perform.specs.Promises.{CanOnly, CanEnd}

status_of : (made other : Outputs) → made ≡ other → made.status ≡ other.status
status_of made other e = ap (λ (o : Outputs). o.status) e

exit_made : (asked : RunRequest) (image input : List ℕ) (c d : Table) (made : Outputs) → c ≡ d → CanExit (job_of asked c image input) → MakesOutput asked.output (job_of asked d image input) made → made.status ≡ status.Done
exit_made asked image input c d made e can m =
    let k : CanExit (job_of asked d image input) = subst (λ (t : Table). CanExit (job_of asked t image input)) e can in
    ⊎_elim (λ x. status_of made _ x.made_is) (λ x. absurd (x.no_exit k.finish k.exits)) m.made_by

exit_only : (asked : RunRequest) (contents : List (List ℕ)) → CanExitRun asked contents → CanOnly (Run asked) contents status.Done
exit_only asked [] c = absurd c
exit_only asked (image ∷ []) c = absurd c
exit_only asked (image ∷ input ∷ tables) c = record {
  refuses = λ t r. absurd (⊎_elim (λ x. no_table_fault tables c.0 t c.1 x) (λ x. is_image image x.2.fault c.2.loadable x.2.cause) r);
  makes = λ made m. exit_made asked image input c.0 m.0 made (same_costs tables c.0 m.0 c.1 m.1) c.2 m.2;
}

pub exit_ends : (asked : RunRequest) (files : Option Files) (old : StoreState) → old.files ≡ files → IsSomeAnd files (λ fs. Fit (wanted_of (Run asked)) fs × CanExitRun asked (contents_of (wanted_of (Run asked)) fs)) → CanEnd (Some (Named (Run asked))) old status.Done
exit_ends asked None old e c = absurd c
exit_ends asked (Some fs) old e c = rw e (c.0, exit_only asked (contents_of (wanted_of (Run asked)) fs) c.1)
