use Rattle.std.proofs.Common.{List, ℕ, false, subst}
use Rattle.rv_core.specs.Table.{default_table}
use Rattle.command_words.specs.Held.{make_request}
use Rattle.command_perform.specs.Compiling.{Compiles}
use Rattle.command_perform.proofs.Building.{is_numbered}
use Rattle.command_perform.proofs.NumberedRuns.{makes}
use Rattle.command_perform.proofs.numbered.tried.Goals as goal

pub returns-clause-made : goal.returns-clause-made
returns-clause-made c =
    let compiled = subst (λ (k : List ℕ). Compiles false 0 default_table k c.args.texts) c.requires.source c.requires.compiled in
    let ran = rw c.as_slice.ensures at c.in_ok-ran.ensures in
    makes (make_request c.args.asked) c.args.texts c.in_ok-ran.ran.machine c.in_ok-ran.ran.ending c.outputs.result compiled ran c.outputs.ensures

pub returns-clause-outputs : goal.returns-clause-outputs
returns-clause-outputs c = is_numbered (make_request c.args.asked) c.args.texts c.in_ok-ran.ran.machine c.in_ok-ran.ran.ending c.outputs.result c.outputs.ensures
