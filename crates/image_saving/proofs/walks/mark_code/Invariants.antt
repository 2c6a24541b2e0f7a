use Rattle.std.proofs.Common.{◌≡◌, drop, map}
use Rattle.low_ir.specs.View.{instr_of}
use Rattle.low_ir.specs.Placings.{placings_of}
use Rattle.image_saving.specs.Walks.{code_marked}
use Rattle.image_saving.proofs.walks.mark_code.Given as goal

abbrev pub invariant-loop-instr : goal.invariant-loop-instr
invariant-loop-instr l = code_marked (placings_of l.code) l.fn.number l.parameters l.table (map instr_of (drop l.instr-index l.instrs)) ≡ code_marked (placings_of l.code) l.fn.number l.parameters l.fn.table (map instr_of l.instrs)
