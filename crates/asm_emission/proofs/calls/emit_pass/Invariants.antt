use Rattle.std.proofs.Common.{◌≡◌, ◌++◌, drop, map}
use Rattle.asm_program.specs.Emission.{pass_code}
use Rattle.asm_program.specs.Functions.{singles}
use Rattle.asm_emission.specs.View.{operand_of}
use Rattle.asm_emission.proofs.calls.emit_pass.Given as goal

abbrev pub invariant-loop-index : goal.invariant-loop-index
invariant-loop-index l = l.code.items ++ singles (pass_code l.frame l.callee l.places (map operand_of (drop l.index l.arguments)) (drop l.index l.places)) ≡ l.initial.code.items ++ singles (pass_code l.frame l.callee l.places (map operand_of l.arguments) l.places)
