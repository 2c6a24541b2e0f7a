use Rattle.std.proofs.Common.{◌≡◌, ◌||◌, drop}
use Rattle.types_declaration.proofs.Lists.{not_constant_list}
use Rattle.types_declaration.proofs.values.any_not_constant.Given as goal

abbrev pub invariant-loop-source : goal.invariant-loop-source
invariant-loop-source l = not_constant_list l.given ≡ (l.found || not_constant_list (drop l.source-index l.given))
