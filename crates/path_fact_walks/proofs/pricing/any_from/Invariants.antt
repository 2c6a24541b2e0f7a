use Rattle.std.proofs.Common.{◌<◌}
use Rattle.std.specs.List.{AllWithin}
use Rattle.code_flow_system.specs.declared.index.Mention.{Mention}
use Rattle.path_fact_walks.proofs.pricing.any_from.Given as goal

abbrev pub invariant-loop-i : goal.invariant-loop-i
invariant-loop-i l = AllWithin (λ (m : Mention). m.limit < l.first) l.mentions 0 l.i
