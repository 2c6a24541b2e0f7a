use Rattle.std.proofs.Common.{◌≡◌, ◌+◌, drop}
use Rattle.spm_placement.specs.Gains.{all_parts}
use Rattle.spm_placement.proofs.gaining.total.Given as goal

abbrev pub invariant-loop-i : goal.invariant-loop-i
invariant-loop-i l = l.all + all_parts (drop l.i l.parts) ≡ all_parts l.parts
