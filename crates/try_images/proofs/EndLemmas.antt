-- A run that is found equal is the exit that the source means.
use Rattle.std.proofs.Common.{◌≡◌, ℕ, List, Option, Some, None, sym, subst, ◌∙◌}
use Rattle.rv_core.specs.Images.{Image}
use Rattle.rv_core.specs.Table.{default_table}
use Rattle.meaning_semantics.specs.declared.source_run.SourceRun.{SourceRun}
use Rattle.meaning_semantics.specs.declared.source_run.SourceRun.TheVariants.{Done, Undefined, Broken}
use Rattle.high_ir.specs.declared.copies.MarkCopies.{MarkCopies}
use Rattle.rv_runs.specs.declared.running.ImageRun.{ImageRun}
use Rattle.rv_runs.specs.Ends.{IsRunOf}
use Rattle.try_sources.specs.declared.comparing.Ended.{Ended}
use Rattle.try_sources.specs.declared.comparing.Verdict.{Verdict}
use Rattle.try_sources.specs.declared.comparing.Verdict.TheVariants.{Equal}
use Rattle.try_sources.specs.Verdicts.{EndsSay, Says}
use Rattle.try_images.specs.Verdicts.{ExitsAs, IsExit, IsSeen}

pub exit_seen : (image : Image) (input : List ℕ) (r : Option ImageRun) (run : Option Ended) → IsRunOf image default_table input r → IsSeen r run → IsExit image input run
exit_seen image input None None h s = tt
exit_seen image input None (Some run) h s = absurd s
exit_seen image input (Some r) None h s = tt
exit_seen image input (Some r) (Some run) h s = record { finish = h.finish; exits = h.exits; value = h.value ∙ sym s.0; output = h.output ∙ sym s.1.0 }

pub exits_as : (image : Image) (input : List ℕ) (run : Option Ended) (marks : List MarkCopies) (meant : SourceRun) (v : Verdict) → IsExit image input run → Says v run marks meant → v ≡ Equal → ExitsAs image input meant
exits_as image input run marks (Undefined rule at) v h s e = cc
exits_as image input run marks (Broken what) v h s e = cc
exits_as image input None marks (Done output value counts) v h s e = cc
exits_as image input (Some run) marks (Done output value counts) v h s e =
    let same = subst (λ w. EndsSay w run marks output value counts) e s in
    record { finish = h.finish; exits = h.exits; value = h.value ∙ same.0; output = h.output ∙ same.1.0 }
