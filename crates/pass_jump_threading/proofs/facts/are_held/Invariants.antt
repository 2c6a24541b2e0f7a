use Rattle.std.proofs.Common.{◌≡◌, ◌<◌, ℕ, None, Some}
use Rattle.std.specs.Prelude.{slice_index_or}
use Rattle.pass_jump_threading.specs.Facts.{lookup}
use Rattle.pass_jump_threading.proofs.facts.are_held.Given as goal

abbrev pub invariant-loop-register : goal.invariant-loop-register
invariant-loop-register l = (r w : ℕ) → r < l.register → slice_index_or l.held r None ≡ Some w → lookup l.facts r ≡ Some w
