use Rattle.std.proofs.Common.{◌≡◌, ◌+◌, drop}
use Rattle.spm_placement.specs.Gains.{all_visits}
use Rattle.spm_placement.proofs.gaining.all_visits.Given as goal

abbrev pub invariant-loop-i : goal.invariant-loop-i
invariant-loop-i l = l.all + all_visits l.parts (drop l.i l.places) ≡ all_visits l.parts l.places
