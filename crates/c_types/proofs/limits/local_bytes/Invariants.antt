use Rattle.std.proofs.Common.{◌≡◌, ◌+◌, drop}
use Rattle.types_rules.specs.Limits.{local_bytes}
use Rattle.c_types.proofs.limits.local_bytes.Given as goal

abbrev pub invariant-loop-v : goal.invariant-loop-v
invariant-loop-v l = local_bytes l.variables ≡ l.total + local_bytes (drop l.v-index l.variables)
