use Rattle.std.proofs.Common.{◌≡◌, take}
use Rattle.low_ir.specs.Programs.{low_of}
use Rattle.low_ir.specs.Turns.{marks_passed}
use Rattle.try_forms.proofs.low_runs.marks_of.Given as goal

abbrev pub invariant-loop-began : goal.invariant-loop-began
invariant-loop-began l = l.marks.items ≡ marks_passed (low_of l.low) (take l.began-index l.trace)
