use Rattle.std.proofs.Common.{◌≡◌, ◌+◌, drop}
use Rattle.pass_register_promotion_law.specs.Promoting.{register_of}
use Rattle.pass_register_promotion.specs.Residents.{residents_of}
use Rattle.pass_register_promotion.proofs.making.register_of.Given as goal

abbrev pub invariant-loop-other : goal.invariant-loop-other
invariant-loop-other l = record {
  register : l.register ≡ l.first + l.other-index;
  rest : register_of l.register (residents_of (drop l.other-index l.residents)) l.object ≡ register_of l.first (residents_of l.residents) l.object;
}
