use Rattle.std.proofs.Common.{◌≡◌, drop}
use Rattle.c_types.specs.Outline.{outline_from}
use Rattle.c_types.proofs.outline.note_all.Given as goal

abbrev pub invariant-loop-external : goal.invariant-loop-external
invariant-loop-external l = outline_from l.externals l.fn.known ≡ outline_from (drop l.external-index l.externals) l.known
