use Rattle.std.proofs.Common.{◌≡◌, drop, map}
use Rattle.types_rules.specs.Scope.{found_outside, or_else}
use Rattle.types_scope.proofs.table.look_outside.Given as goal

abbrev pub invariant-loop-scope : goal.invariant-loop-scope
invariant-loop-scope l = found_outside l.name (map (λ scope. scope.entries) l.scopes) ≡ or_else (found_outside l.name (map (λ scope. scope.entries) (drop l.scope-index l.scopes))) l.found
