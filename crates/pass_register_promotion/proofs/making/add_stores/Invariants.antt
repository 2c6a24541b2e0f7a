use Rattle.std.proofs.Common.{◌≡◌, ◌+◌, ◌++◌, drop, map}
use Rattle.low_ir.specs.View.{instr_of}
use Rattle.pass_register_promotion_law.specs.Promoting.{stores}
use Rattle.pass_register_promotion.specs.Residents.{residents_of}
use Rattle.pass_register_promotion.proofs.making.add_stores.Given as goal

abbrev pub invariant-loop-resident : goal.invariant-loop-resident
invariant-loop-resident l = record {
  register : l.register ≡ l.first + l.resident-index;
  all : map instr_of l.all.items ++ stores l.register (residents_of (drop l.resident-index l.residents)) ≡ map instr_of l.initial.all.items ++ stores l.first (residents_of l.residents);
}
