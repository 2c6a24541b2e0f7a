use Rattle.std.proofs.Common.{sym}
use Rattle.types_scope.proofs.Scopes.{innermost-map, without_innermost-map}
use Rattle.types_scope.proofs.table.pop.Goals as goal

pub returns-in-Some-clause-scope : goal.returns-in-Some-clause-scope
returns-in-Some-clause-scope c = rw c.in-Some.ensures.items (sym (innermost-map (λ scope. scope.entries) c.pop.new.self.items c.in-Some.scope))

pub returns-in-Some-clause-rest : goal.returns-in-Some-clause-rest
returns-in-Some-clause-rest c = rw c.in-Some.ensures.items (sym (without_innermost-map (λ scope. scope.entries) c.pop.new.self.items c.in-Some.scope))
