use Rattle.std.proofs.Common.{drop, map}
use Rattle.command_perform.specs.Gathering.{wanted}
use Rattle.command_perform.specs.Files.{Gathering}
use Rattle.command_perform.proofs.gather.read_each.Given as goal

abbrev pub invariant-files : goal.invariant-files
invariant-files g l = Gathering (map wanted l.files) (map wanted (drop l.file-index l.files)) (g.S.Store.state l.fn.store) (g.S.Store.state l.store) l.contents.items l.file-index
