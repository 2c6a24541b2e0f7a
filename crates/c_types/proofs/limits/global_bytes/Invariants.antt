use Rattle.std.proofs.Common.{◌≡◌, ◌+◌, drop}
use Rattle.types_rules.specs.Limits.{global_bytes}
use Rattle.c_types.proofs.limits.global_bytes.Given as goal

abbrev pub invariant-loop-v : goal.invariant-loop-v
invariant-loop-v l = global_bytes l.variables ≡ l.total + global_bytes (drop l.v-index l.variables)
