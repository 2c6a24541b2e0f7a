use Rattle.std.proofs.Common.{◌≡◌, ◌++◌, drop, map}
use Rattle.types_declaration.proofs.Types.{type_of}
use Rattle.types_declaration.proofs.routines.types_of.Given as goal

abbrev pub invariant-loop-param : goal.invariant-loop-param
invariant-loop-param l = map type_of l.given ≡ l.types.items ++ map type_of (drop l.param-index l.given)
