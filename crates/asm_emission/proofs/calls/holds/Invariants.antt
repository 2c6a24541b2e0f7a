use Rattle.std.proofs.Common.{◌≡◌, drop}
use Rattle.low_ir.specs.Effects.{is_member}
use Rattle.asm_program.specs.Emission.{registers_among}
use Rattle.asm_emission.proofs.calls.holds.Given as goal

abbrev pub invariant-loop-place : goal.invariant-loop-place
invariant-loop-place l = is_member (registers_among (drop l.place-index l.places)) l.register ≡ is_member (registers_among l.places) l.register
