use Rattle.std.proofs.Common.{◌≡◌, ◌++◌, map, take}
use Rattle.std.specs.Prelude.{slice_index_or}
use Rattle.high_pass.specs.Composing.{back_to, no_origin}
use Rattle.high_pass.proofs.compose.add_taken_back.Given as goal

abbrev pub invariant-loop-never : goal.invariant-loop-never
invariant-loop-never l = l.all.items ≡ l.initial.all.items ++ map (λ v. back_to (slice_index_or l.origins v.old no_origin) v) (take l.never-index l.nevers)
