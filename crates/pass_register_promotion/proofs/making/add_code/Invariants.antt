use Rattle.std.proofs.Common.{◌≡◌, ◌++◌, drop, map}
use Rattle.low_ir.specs.View.{instr_of}
use Rattle.pass_register_promotion_law.specs.Promoting.{promoted_code}
use Rattle.pass_register_promotion.specs.Residents.{residents_of}
use Rattle.pass_register_promotion.proofs.making.add_code.Given as goal

abbrev pub invariant-loop-instr : goal.invariant-loop-instr
invariant-loop-instr l = map instr_of l.all.items ++ promoted_code l.first (residents_of l.residents) (map instr_of (drop l.instr-index l.code)) ≡ map instr_of l.initial.all.items ++ promoted_code l.first (residents_of l.residents) (map instr_of l.code)
