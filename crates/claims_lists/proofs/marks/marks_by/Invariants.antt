use Rattle.std.proofs.Common.{◌≡◌, ◌++◌, drop}
use Rattle.std.specs.List.{flat_map}
use Rattle.claims_lists.specs.Marks.{marks_in}
use Rattle.claims_lists.proofs.marks.marks_by.Given as goal

abbrev pub invariant-loop-function : goal.invariant-loop-function
invariant-loop-function l = l.marks.items ++ flat_map (marks_in l.laying.code.now l.laying.layout.now) (drop l.function-index l.order) ≡ flat_map (marks_in l.laying.code.now l.laying.layout.now) l.order
