use Rattle.std.proofs.Common.{map, take}
use Rattle.std.specs.Prelude.{All}
use Rattle.low_ir.specs.View.{instr_of}
use Rattle.pass_strength_reduction_law.specs.Steps.{NamesNoSpare}
use Rattle.pass_strength_reduction.specs.Scenes.{is_spare}
use Rattle.pass_strength_reduction.proofs.registers.code_names_none.Given as goal

abbrev pub invariant-loop-instr : goal.invariant-loop-instr
invariant-loop-instr l = All (NamesNoSpare (is_spare l.spare)) (map instr_of (take l.instr-index l.code))
