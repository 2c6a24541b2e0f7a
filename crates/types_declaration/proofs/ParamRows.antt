-- Rows of parameters.
use Rattle.std.proofs.Common.{ℕ}
use Rattle.c_tree.specs.Tree.{Param}
use Rattle.c_tree.specs.View.{param_of as source_param}
use Rattle.c_tree.specs.declared.declaration.Param as sources
use Rattle.types_rules.specs.DeclarationRules.{after_param}
use Rattle.types_rules.specs.Scope.{unseen}
use Rattle.types_rules.specs.Sights.{param_nodes, prototype_param_nodes}
use Rattle.types_declaration.proofs.Rows.{Walk}

-- of a mere declaration, and of a definition
abbrev pub mere_walk : Walk sources.Param (Param ℕ)
mere_walk = record { view = source_param; step = unseen; nodes = prototype_param_nodes }

abbrev pub declared_walk : Walk sources.Param (Param ℕ)
declared_walk = record { view = source_param; step = after_param; nodes = param_nodes }
