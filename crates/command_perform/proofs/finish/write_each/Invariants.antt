use Rattle.std.proofs.Common.{drop, map}
use Rattle.command_perform.specs.Outputs.{file_of_output}
use Rattle.command_perform.specs.Files.{Putting}
use Rattle.command_perform.proofs.finish.write_each.Given as goal

abbrev pub invariant-files : goal.invariant-files
invariant-files g l = Putting (map file_of_output l.files) (map file_of_output (drop l.file-index l.files)) (g.S.Store.state l.fn.store) (g.S.Store.state l.store)
