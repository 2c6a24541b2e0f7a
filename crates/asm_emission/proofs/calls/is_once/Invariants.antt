use Rattle.std.proofs.Common.{◌≡◌, drop}
use Rattle.asm_program.specs.Emission.{registers_among, is_once}
use Rattle.asm_emission.proofs.calls.is_once.Given as goal

abbrev pub invariant-loop-index : goal.invariant-loop-index
invariant-loop-index l = is_once l.register (registers_among (drop l.index l.places)) ≡ is_once l.register (registers_among l.places)
